-- The gate, the length and the payload, one after the other.
use Rattle.acc_wire.specs.Spelling.{u32_bytes}
use Rattle.acc_journal.proofs.Groups.{record_items}
use Rattle.acc_journal.proofs.group.push_record.Goals as goal

pub returns-clause-items : goal.returns-clause-items
unfolding u32_bytes
returns-clause-items c = record_items _ _ _ _ _ _ c.push_all.ensures.items c.push_all-2.ensures.items c.push_all-3.ensures.items c.write_u32.ensures

-- The four bytes tell how many follow them.
use Rattle.std.proofs.Common.{length-drop}
use Rattle.acc_wire.specs.Spelling.{u32_bytes}
use Rattle.acc_journal.proofs.records.set_length.Goals as goal

pub returns : goal.returns
unfolding u32_bytes
returns c = rw (length-drop 4 c.args.bytes.now) c.write_u32.ensures

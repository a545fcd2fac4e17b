use Rattle.std.proofs.Common.{rules}
use Rattle.acc_wire.specs.Reading.{u16_at}
use Rattle.acc_wire.proofs.Fields.{u16_field, field_found, field_only}
use Rattle.acc_wire.proofs.reader.Reader.take_u16.Goals as goal

pub returns-clause-exact : goal.returns-clause-exact
unfolding u16_at
returns-clause-exact c = search rules

pub returns-clause-found : goal.returns-clause-found
returns-clause-found c = field_found u16_field _ _ _ c.take_chunk.ensures.bytes (returns-clause-exact c)

pub returns-clause-only : goal.returns-clause-only
returns-clause-only c = field_only u16_field _ _ _ (returns-clause-exact c)

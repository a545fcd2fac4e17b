-- What is left goes on from what was read so far.
use Rattle.std.proofs.Common.{◌≡◌, ◌++◌, drop, false}
use Rattle.std.specs.Prelude.{option_map}
use Rattle.acc_report_reader.specs.Fields.{content_in}
use Rattle.acc_report_reader.proofs.cells.content.Given as goal

abbrev pub invariant-loop-byte : goal.invariant-loop-byte
invariant-loop-byte l = content_in false l.bytes ≡ option_map (λ rest. l.said ++ rest) (content_in l.waits (drop l.byte-index l.bytes))

-- What is found is found after the bytes so far.
use Rattle.std.proofs.Common.{◌≡◌, ◌++◌, take, drop}
use Rattle.std.specs.Prelude.{option_map}
use Rattle.acc_report_reader.specs.Fields.{parts_at}
use Rattle.acc_report_reader.proofs.parts.parts.Given as goal

abbrev pub invariant-loop-place : goal.invariant-loop-place
invariant-loop-place l = parts_at l.at l.bytes ≡ option_map (λ p. (take l.place l.bytes ++ p.0, p.1)) (parts_at l.at (drop l.place l.bytes))

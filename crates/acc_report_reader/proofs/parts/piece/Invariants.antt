-- What is found is found after the bytes so far.
use Rattle.std.proofs.Common.{◌≡◌, ◌++◌, take, drop, false}
use Rattle.std.specs.Prelude.{option_map}
use Rattle.acc_report_reader.specs.Fields.{piece_at}
use Rattle.acc_report_reader.proofs.parts.piece.Given as goal

abbrev pub invariant-loop-place : goal.invariant-loop-place
invariant-loop-place l = piece_at false l.bytes ≡ option_map (λ p. (take l.place l.bytes ++ p.0, p.1)) (piece_at l.inside (drop l.place l.bytes))

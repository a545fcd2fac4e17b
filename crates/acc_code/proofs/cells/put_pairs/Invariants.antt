-- The pairs so far are spelled, and fit.
use Rattle.std.proofs.Common.{◌≡◌, ◌++◌, take}
use Rattle.std.specs.List.{flat_map, AllByRecursion}
use Rattle.acc_code.specs.Spelling.{pair_bytes}
use Rattle.acc_code.specs.Short.{IsCell}
use Rattle.acc_code.proofs.cells.put_pairs.Given as goal

abbrev pub invariant-loop-key : goal.invariant-loop-key
invariant-loop-key l = record {
  spelled : l.out ≡ l.fn.out ++ flat_map pair_bytes (take l.key-index l.pairs);
  fits : AllByRecursion (λ p. IsCell p.1) (take l.key-index l.pairs);
}

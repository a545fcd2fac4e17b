use Rattle.std.proofs.Common.{◌≡◌, ℕ, ◌<◌, ◌≤◌, None}
use Rattle.std.specs.List.{slice_get}
use Rattle.acc_history.specs.Begun.{begun_in, known_as}
use Rattle.acc_history.proofs.begun.known.Given as goal

abbrev pub invariant-loop-txn : goal.invariant-loop-txn
invariant-loop-txn l = record {
  below : (number : ℕ) → number < l.txn → begun_in l.begun.items number ≡ known_as (slice_get l.ids number);
  above : (number : ℕ) → l.txn ≤ number → begun_in l.begun.items number ≡ None;
}

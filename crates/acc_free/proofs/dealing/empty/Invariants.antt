-- So many hands were made, which hold nothing.
use Rattle.std.proofs.Common.{◌≡◌, [], length}
use Rattle.acc_free.specs.Dealing.{all_in}
use Rattle.acc_free.proofs.dealing.empty.Given as goal

abbrev pub invariant-loop : goal.invariant-loop
invariant-loop g l = record {
  all : all_in l.hands.items ≡ [];
  count : length l.hands.items ≡ l.counter;
}

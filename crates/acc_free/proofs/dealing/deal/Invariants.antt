-- What is dealt and what is left are all things.
use Rattle.std.proofs.Common.{◌≡◌, ◌++◌, length}
use Rattle.std.specs.List.Sorted.{IsPermutation}
use Rattle.acc_free.specs.Dealing.{all_in}
use Rattle.acc_free.proofs.dealing.deal.Given as goal

abbrev pub invariant-loop-thing : goal.invariant-loop-thing
invariant-loop-thing g l = record {
  all : IsPermutation l.fn.things.items (l.rest.items ++ all_in l.hands.items);
  count : length l.hands.items ≡ l.count;
}

abbrev pub decreases-loop-thing : goal.decreases-loop-thing
decreases-loop-thing g l = length l.rest.items

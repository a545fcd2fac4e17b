-- With the keys that are left, the places come to what all keys make of those before.
use Rattle.std.proofs.Common.{drop}
use Rattle.acc_index.specs.Users.{places_at, placed}
use Rattle.acc_index.proofs.UserFacts.{Left}
use Rattle.acc_index.proofs.users.add_all.Given as goal

abbrev pub invariant-loop-key : goal.invariant-loop-key
invariant-loop-key l = Left (λ k w. placed (places_at l.fn.users k w) l.uses k w l.place) l.users (drop l.key-index l.uses) l.place

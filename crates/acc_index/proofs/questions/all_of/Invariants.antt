-- The users of the keys so far.
use Rattle.std.proofs.Common.{◌≡◌, take}
use Rattle.acc_index.specs.Users.{places_at}
use Rattle.acc_index.specs.Places.{asked, others, ids_of}
use Rattle.acc_index.proofs.questions.all_of.Given as goal

abbrev pub invariant-loop-key : goal.invariant-loop-key
invariant-loop-key l = l.found.items ≡ ids_of l.columns (others l.columns l.id (asked (places_at l.users) (take l.key-index l.uses)))

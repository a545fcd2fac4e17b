-- The greatest stamp of the users of the keys so far.
use Rattle.std.proofs.Common.{take}
use Rattle.acc_index.specs.Users.{places_at}
use Rattle.acc_index.specs.Noted.{IsGreatestStamp}
use Rattle.acc_index.specs.Places.{asked, others, stamps_of}
use Rattle.acc_index.proofs.questions.greatest_of_all.Given as goal

abbrev pub invariant-loop-key : goal.invariant-loop-key
invariant-loop-key l = IsGreatestStamp (stamps_of l.columns (others l.columns l.id (asked (places_at l.users) (take l.key-index l.uses)))) l.greatest

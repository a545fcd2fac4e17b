-- The item is entered into the journals before this place.
use Rattle.std.proofs.Common.{◌≡◌, List, Some}
use Rattle.std.specs.Prelude.{slice_get}
use Rattle.acc_stamp.specs.declared.actors.Actor.{Actor}
use Rattle.acc_message.specs.declared.item.Item.{Item}
use Rattle.acc_left.specs.Kept.{fronts_after, TellPlaces}
use Rattle.acc_left.proofs.ItemFacts.{AreEnteredUpTo}
use Rattle.acc_left.proofs.images.enter_item.Given as goal

abbrev pub invariant-loop-image : goal.invariant-loop-image
invariant-loop-image l =
    (entered : List Item) (item : Item) (actors : List Actor) → TellPlaces l.places l.items entered → slice_get l.items l.place ≡ Some item
    → l.initial.images ≡ fronts_after l.version actors entered → AreEnteredUpTo l.version entered item actors l.image-index l.images

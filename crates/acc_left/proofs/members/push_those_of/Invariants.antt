-- Those of the actor before this place are appended.
use Rattle.std.proofs.Common.{◌≡◌, ◌++◌, take, filter}
use Rattle.acc_stamp.specs.Actor.{actor_eq}
use Rattle.acc_left.specs.declared.image.Image.{Image}
use Rattle.acc_left.proofs.members.push_those_of.Given as goal

abbrev pub invariant-loop-image : goal.invariant-loop-image
invariant-loop-image l = l.all ≡ l.initial.all ++ filter (λ (image : Image). actor_eq image.actor l.actor) (take l.image-index l.images)

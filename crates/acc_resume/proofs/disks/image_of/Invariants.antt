-- None before this place is the actor's.
use Rattle.std.proofs.Common.{◌≡◌, take, None}
use Rattle.std.specs.List.{find}
use Rattle.acc_stamp.specs.Actor.{actor_eq}
use Rattle.acc_left.specs.declared.image.Image.{Image}
use Rattle.acc_resume.proofs.disks.image_of.Given as goal

abbrev pub invariant-loop-image : goal.invariant-loop-image
invariant-loop-image l = find (λ (image : Image). actor_eq image.actor l.actor) (take l.image-index l.images) ≡ None

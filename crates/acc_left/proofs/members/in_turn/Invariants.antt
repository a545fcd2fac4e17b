-- The journals of the actors before this one are listed.
use Rattle.std.proofs.Common.{◌≡◌, take, filter}
use Rattle.std.specs.List.{flat_map}
use Rattle.acc_stamp.specs.Actor.{actor_eq}
use Rattle.acc_left.specs.declared.image.Image.{Image}
use Rattle.acc_left.proofs.members.in_turn.Given as goal

abbrev pub invariant-loop-actor : goal.invariant-loop-actor
invariant-loop-actor l = l.all ≡ flat_map (λ a. filter (λ (image : Image). actor_eq image.actor a) l.images) (take l.actor-index l.actor-items)

-- The actors before this one have journals.
use Rattle.std.proofs.Common.{◌≡◌, [], take}
use Rattle.acc_left.specs.Kept.{fronts_after}
use Rattle.acc_left.proofs.images.begun.Given as goal

abbrev pub invariant-loop-actor : goal.invariant-loop-actor
invariant-loop-actor l = l.images.items ≡ fronts_after 0 (take l.actor-index l.actors) []

-- The steps so far have entered the actors that they arm.
use Rattle.std.proofs.Common.{◌≡◌, take}
use Rattle.acc_stamp.specs.declared.actors.Actor.{Actor}
use Rattle.acc_heal_laws.specs.Stages.{is_armed}
use Rattle.acc_heal.specs.Actors.{has_actor}
use Rattle.acc_heal.proofs.reopening.armed.Given as goal

abbrev pub invariant-loop-step : goal.invariant-loop-step
invariant-loop-step l = (a : Actor) → has_actor l.armed.keys a ≡ is_armed (take l.step-index l.steps) a

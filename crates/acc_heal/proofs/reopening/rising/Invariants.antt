-- The actors so far are entered, rising.
use Rattle.std.proofs.Common.{take}
use Rattle.acc_heal.proofs.ActorSets.{AreEntered}
use Rattle.acc_heal.proofs.reopening.rising.Given as goal

abbrev pub invariant-loop-actor : goal.invariant-loop-actor
invariant-loop-actor l = AreEntered l.rising.keys (take l.actor-index l.actor-items)

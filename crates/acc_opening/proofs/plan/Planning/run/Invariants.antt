-- The plan is under way, and each turn leaves one transaction less.
use Rattle.std.proofs.Common.{[]}
use Rattle.acc_opening.specs.Lookup.{lookup}
use Rattle.acc_opening.specs.Touched.{watches_now}
use Rattle.acc_opening.specs.State.{IsUnderWay}
use Rattle.acc_opening.proofs.Measure.{left}
use Rattle.acc_opening.proofs.plan.Planning.run.Given as goal

abbrev pub invariant-loop-turn : goal.invariant-loop-turn
invariant-loop-turn l = IsUnderWay l.known.shard (lookup l.known.records.now l.known.own.now) (watches_now l.self.touched l.known.waits.now) [] l.self.done l.self.queue

abbrev pub decreases-loop-turn : goal.decreases-loop-turn
decreases-loop-turn l = left l.known.records.now l.known.own.now l.self.done

-- Those from this place on have to be looked at.
use Rattle.std.proofs.Common.{◌≡◌, drop}
use Rattle.acc_opening.specs.Lookup.{lookup}
use Rattle.acc_opening.specs.Touched.{watches_now}
use Rattle.acc_opening.specs.State.{IsUnderWay}
use Rattle.acc_opening.proofs.plan.Planning.wake_all.Given as goal

abbrev pub invariant-loop-place : goal.invariant-loop-place
invariant-loop-place l =
    IsUnderWay l.known.shard (lookup l.known.records.now l.known.own.now) (watches_now l.self.touched l.known.waits.now) (drop l.place l.woken) l.self.done l.self.queue
    × (l.self.done ≡ l.fn.self.done)

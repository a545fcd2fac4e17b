use Rattle.std.proofs.Common.{◌<◌, [], sym, subst}
use Rattle.acc_opening.specs.Lookup.{lookup}
use Rattle.acc_opening.specs.Touched.{watches_now}
use Rattle.acc_opening.specs.State.{IsUnderWay}
use Rattle.acc_opening.proofs.Measure.{left, less_left}
use Rattle.acc_opening.proofs.plan.Planning.run.Goals as goal

pub loop-turn-smaller : goal.loop-turn-smaller
loop-turn-smaller c =
    let known = c.args.known.now in
    let watching = watches_now c.loop-turn.self.touched known.waits.now in
    let done = c.loop-turn.self.done in
    subst (λ list. left known.records.now known.own.now list < left known.records.now known.own.now done) (sym c.in_ok-advance.ensures.done)
    (less_left known.shard known.records.now known.own.now watching done c.in-Some.turn c.take_first.new.self
    (subst (IsUnderWay known.shard (lookup known.records.now known.own.now) watching [] done) c.in-Some.ensures c.loop-turn.invariant))

use Rattle.std.proofs.Common.{[], List, sym, subst}
use Rattle.acc_opening.specs.Plan.{Lookup}
use Rattle.acc_opening.specs.declared.turns.Turn.{Turn}
use Rattle.acc_opening.specs.Lookup.{lookup}
use Rattle.acc_opening.specs.Touched.{watches_now}
use Rattle.acc_opening.specs.State.{IsUnderWay}
use Rattle.acc_opening.proofs.StateFacts.{taken_idle, taken_woken}
use Rattle.acc_opening.proofs.plan.Planning.advance.Goals as goal

pub wake_all-requires : goal.wake_all-requires
wake_all-requires c =
    let known = c.args.known.now in
    let at : Lookup = lookup known.records.now known.own.now in
    let turn : Turn = c.args.turn in
    let done : List Turn = c.args.self.now.done in
    let rest : List Turn = c.args.self.now.queue in
    let taken = taken_woken known.shard at (watches_now c.args.self.now.touched known.waits.now) done turn rest c.requires (watches_now c.take_watches.new.touched known.waits.now) c.in_ok-woken.woken.items c.in_ok-woken.ensures.left c.in_ok-woken.ensures.taken in
    record {
      before =
          subst (λ list. IsUnderWay known.shard at (watches_now c.take_watches.new.touched known.waits.now) list c.push.new.self rest) (sym c.deref.ensures.value)
          (subst (λ list. IsUnderWay known.shard at (watches_now c.take_watches.new.touched known.waits.now) c.in_ok-woken.woken.items list rest) (sym c.in_ok-push.ensures.ok) taken);
    }

pub returns-else-turn-clause-after : goal.returns-else-turn-clause-after
returns-else-turn-clause-after c =
    let known = c.args.known.now in
    let at : Lookup = lookup known.records.now known.own.now in
    let done : List Turn = c.args.self.now.done in
    let rest : List Turn = c.args.self.now.queue in
    let watching = watches_now c.args.self.now.touched known.waits.now in
    subst (λ list. IsUnderWay known.shard at watching [] list rest) (sym c.in_ok-push.ensures.ok)
    (taken_idle known.shard at watching done c.args.turn rest c.requires c.if-turn.false)

use Rattle.std.proofs.Common.{◌≡◌, get_or, Some, sym, subst}
use Rattle.std.specs.List.{slice_get}
use Rattle.std.proofs.lemmas.Result.{IfOk-weaker}
use Rattle.std.proofs.lemmas.Option.{slice_get-get_or}
use Rattle.acc_stamp.specs.declared.stamps.TxnId.{TxnId}
use Rattle.acc_record.specs.declared.shelf.Watch.{Watch}
use Rattle.acc_deps.specs.Deps.{of_shard}
use Rattle.acc_opening.specs.Plan.{Lookup}
use Rattle.acc_opening.specs.Lookup.{lookup}
use Rattle.acc_opening.specs.Scan.{AllPastUpTo, IsLastHeld}
use Rattle.acc_opening.specs.Touched.{watches_now}
use Rattle.acc_opening.specs.Turns.{changes_in, HasTurn}
use Rattle.acc_opening.proofs.Woken.{front, unknown, unsettled, to_queue, to_watch}
use Rattle.acc_opening.proofs.plan.Planning.wake.Goals as goal

abbrev no_id : TxnId
no_id = record { 0 = record { h = 0; origin = 0 } }

pub unreachable-requires : goal.unreachable-requires
unreachable-requires c =
    let s = front c.args.known.now.shard _ _ c.args.woken.now c.args.place _ _ _ c.requires.one c.requires.before in
    unknown c.args.known.now.shard _ _ _ _ _ _ s c.in_default.ensures

pub unreachable-requires-in_default-stable : goal.unreachable-requires-in_default-stable
unreachable-requires-in_default-stable c =
    let s = front c.args.known.now.shard _ _ c.args.woken.now c.args.place _ _ _ c.requires.one c.requires.before in
    let r = c.in-Some.there.now in
    unsettled c.args.known.now.shard _ _ _ _ _ _ s r (sym c.in-Some.ensures) c.in_default-stable.is

pub returns-in-Some-last_held-clause-after : goal.returns-in-Some-last_held-clause-after
returns-in-Some-last_held-clause-after c =
    let known = c.args.known.now in
    let at : Lookup = lookup known.records.now known.own.now in
    let s = front known.shard at _ c.args.woken.now c.args.place _ _ _ c.requires.one c.requires.before in
    let w : Watch = get_or c.args.woken.now c.args.place (record { id = no_id; place = 0 }) in
    let r = c.in-Some.there.now in
    let settled = c.in-Some-stable.settled in
    let next = subst (λ ids. IsLastHeld at (changes_in c.as_slice.result.now) settled.t ids w.place c.in-Some-last_held.held) c.of_shard-ids.ensures.ids c.in-Some-last_held.ensures in
    let next_done = subst (λ turns. IsLastHeld at (changes_in turns) settled.t (of_shard settled.deps known.shard) w.place c.in-Some-last_held.held) c.as_slice.ensures next in
    IfOk-weaker _ _ _
    (λ _ adds.
    to_watch known.shard at _ _ _ _ _ s r (sym c.in-Some.ensures) settled c.in-Some-stable.is c.in-Some-last_held.held next_done
    _ (subst (λ ids. slice_get ids c.in-Some-last_held.held ≡ Some (get_or c.of_shard-ids.result.now c.in-Some-last_held.held no_id)) c.of_shard-ids.ensures.ids
    (slice_get-get_or c.of_shard-ids.result.now c.in-Some-last_held.held no_id c.in-Some-last_held.ensures.within))
    (watches_now c.add_watch.new.touched known.waits.now) (adds known.waits.now))
    c.add_watch.ensures

pub returns-in-None-clause-after : goal.returns-in-None-clause-after
returns-in-None-clause-after c =
    let known = c.args.known.now in
    let at : Lookup = lookup known.records.now known.own.now in
    let s = front known.shard at _ c.args.woken.now c.args.place _ _ _ c.requires.one c.requires.before in
    let w : Watch = get_or c.args.woken.now c.args.place (record { id = no_id; place = 0 }) in
    let r = c.in-Some.there.now in
    let settled = c.in-Some-stable.settled in
    let past = subst (λ ids. AllPastUpTo at (changes_in c.as_slice.result.now) settled.t ids w.place) c.of_shard-ids.ensures.ids c.in-None.ensures in
    let past_done = subst (λ turns. AllPastUpTo at (changes_in turns) settled.t (of_shard settled.deps known.shard) w.place) c.as_slice.ensures past in
    IfOk-weaker _ _ _
    (λ _ has.
    to_queue known.shard at _ _ _ _ _ s r (sym c.in-Some.ensures) settled c.in-Some-stable.is past_done c.insert.new.queue
    (subst (λ turn. HasTurn turn c.args.self.now.queue c.insert.new.queue) c.turn_of.ensures has))
    c.insert.ensures

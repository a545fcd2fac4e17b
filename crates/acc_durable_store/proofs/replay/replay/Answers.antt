-- One payload more, or the first that may not stand there.
use Rattle.std.proofs.Common.{◌≡◌, ℕ, ◌+◌, ◌^◌, ◌<◌, ◌≤◌, List, [], ◌∷◌, ◌++◌, length, take, refl, subst, arith}
use Rattle.acc_durable_store.specs.Replay.{IsReplayOf, IsBad}
use Rattle.acc_durable_store.proofs.Replaying.{enter_none, enter_more, bad_record, kept_below}
use Rattle.acc_durable_store.proofs.replay.replay.Goals as goal

pub enter-requires-clause-replay : goal.enter-requires-clause-replay
enter-requires-clause-replay c = (take c.loop-payload.payload-index c.args.payloads.now, c.loop-payload.invariant.0.replayed)

pub enter-requires-clause-kept : goal.enter-requires-clause-kept
enter-requires-clause-kept c =
    let few : c.loop-payload.replayed.kept ≤ c.loop-payload.payload-index
    = kept_below c.args.topology.now c.args.version c.args.own c.args.payloads.now c.loop-payload.payload-index c.loop-payload.replayed c.loop-payload.gate c.payload-item.result c.loop-payload.invariant.0 c.loop-payload-test.true c.payload-item.is in
    omega (arith, few, c.loop-payload.invariant.1, c.loop-payload-test.true)

pub loop-payload-init : goal.loop-payload-init
loop-payload-init c =
    let long : length c.args.payloads.now < 2 ^ 64 = omega arith in
    (enter_none c.args.topology.now c.args.version c.args.own _ c.new.ensures.actor (c.new.ensures.stands c.args.topology.now) refl refl, long)

pub returns-then-not-entered-clause-refused : goal.returns-then-not-entered-clause-refused
returns-then-not-entered-clause-refused c =
    let so_far = c.loop-payload.invariant.0 in
    bad_record c.args.topology.now c.args.version c.args.own c.args.payloads.now c.loop-payload.payload-index c.loop-payload.replayed c.loop-payload.gate c.payload-item.result so_far c.loop-payload-test.true c.payload-item.is
    (subst (IsBad c.args.topology.now c.args.version c.args.own so_far.replayed.items) c.as_slice.ensures
    (c.in_ok-entered.ensures.bad c.if-not-entered.true (take c.loop-payload.payload-index c.args.payloads.now) so_far.replayed))

pub loop-payload-preserved : goal.loop-payload-preserved
loop-payload-preserved c =
    let so_far = c.loop-payload.invariant.0 in
    let next_is : c.in-Some.next ≡ c.loop-payload.gate + (5 + length c.payload-item.result) = omega (arith, c.in-Some.ensures, c.len.ensures) in (
      enter_more c.args.topology.now c.args.version c.args.own c.args.payloads.now c.loop-payload.payload-index c.loop-payload.replayed c.loop-payload.gate c.payload-item.result so_far c.loop-payload-test.true c.payload-item.is
          c.enter.new.self c.in-Some.next
          (subst (λ (b : List ℕ). IsReplayOf c.args.topology.now c.args.version c.args.own (take c.loop-payload.payload-index c.args.payloads.now ++ b ∷ []) c.enter.new.self) c.as_slice.ensures
          (c.in_ok-entered.ensures.entered c.if-not-entered.false (take c.loop-payload.payload-index c.args.payloads.now) so_far.replayed)) next_is,
      c.loop-payload.invariant.1,
    )

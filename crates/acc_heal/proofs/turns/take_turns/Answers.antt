-- All turns are left, and each one is taken or passed over.
use Rattle.std.proofs.Common.{ℕ, List, sym, subst}
use Rattle.acc_stamp.specs.declared.stamps.TxnId.{TxnId}
use Rattle.acc_cluster.specs.Steps.{IfLimit}
use Rattle.acc_run.proofs.Taking.{handed_on}
use Rattle.acc_heal.specs.Places.{IsTurning, IsLeft, StandsIn, Leads, EndsWithin}
use Rattle.acc_heal.proofs.Turning.{none_left}
use Rattle.acc_heal.proofs.AllTurns.{all_stand, all_led, passed_stands, passed_leads, turn_is_next, turn_ends_all, turn_left_stands, turn_left_leads}
use Rattle.acc_heal.proofs.turns.take_turns.Goals as goal

pub loop-id-init : goal.loop-id-init
loop-id-init g c =
    let port = g.D.Disk in
    let plan = c.args.plan.now in
    let cluster = c.args.cluster.now in
    let number = c.args.number.now in
    let items = c.items.result.now.items in
    let entries = c.in_ok-begun.begun.entries in
    let seen = c.new-seen.result in
    let into = c.into_iter-id-iterator.ensures.into_iter_gives in
    record {
      standing =
          subst (λ (left : List (TxnId × ℕ)). StandsIn port plan cluster (IsLeft plan number left seen)) (sym into.0)
          (all_stand port plan cluster number items entries seen c.items.ensures c.in_ok-begun.ensures into.5 c.new-seen.ensures c.requires.standing);
      leads =
          subst (λ (left : List (TxnId × ℕ)). Leads port plan cluster cluster (IsTurning number) (λ place now. IsLeft plan number left seen now)) (sym into.0)
          (all_led port plan cluster number items entries seen c.items.ensures c.in_ok-begun.ensures into.5 c.new-seen.ensures);
    }

pub take_turn-requires-clause-standing : goal.take_turn-requires-clause-standing
take_turn-requires-clause-standing g c =
    turn_is_next g.D.Disk c.args.plan.now c.loop-id.number c.in-Some.id.now c.in-Some.txn.now c.next.new.self c.loop-id.seen c.look.new.self c.loop-id.cluster
    c.items-in-loop-id.result.now.items c.items-in-loop-id.ensures c.in_ok-look.ensures c.in_ok-is_lacking.field-0 c.in_ok-is_lacking.ensures c.if-branch.true
    (subst (λ (left : List (TxnId × ℕ)). StandsIn g.D.Disk c.args.plan.now c.loop-id.cluster (IsLeft c.args.plan.now c.loop-id.number left c.loop-id.seen))
    c.in-Some.ensures.steps c.loop-id.invariant.standing)

pub loop-id-preserved-in-Continue-branch-4 : goal.loop-id-preserved-in-Continue-branch-4
loop-id-preserved-in-Continue-branch-4 g c =
    record {
      standing =
          turn_left_stands g.D.Disk c.args.plan.now c.loop-id.number c.in-Some.id.now c.in-Some.txn.now c.next.new.self c.loop-id.seen c.look.new.self c.loop-id.cluster
          c.items-in-loop-id.result.now.items c.items-in-loop-id.ensures c.in_ok-look.ensures c.in_ok-is_lacking.field-0 c.in_ok-is_lacking.ensures c.if-branch.true
          c.take_turn.new.cluster c.take_turn.new.number c.take_turn.new.seen c.in_ok-take_turn.ensures.ok
          (subst (λ (left : List (TxnId × ℕ)). StandsIn g.D.Disk c.args.plan.now c.loop-id.cluster (IsLeft c.args.plan.now c.loop-id.number left c.loop-id.seen))
          c.in-Some.ensures.steps c.loop-id.invariant.standing);
      leads =
          turn_left_leads g.D.Disk c.args.plan.now c.loop-id.number c.in-Some.id.now c.in-Some.txn.now c.next.new.self c.loop-id.seen c.look.new.self c.loop-id.cluster
          c.items-in-loop-id.result.now.items c.items-in-loop-id.ensures c.in_ok-look.ensures c.in_ok-is_lacking.field-0 c.in_ok-is_lacking.ensures c.if-branch.true
          c.take_turn.new.cluster c.take_turn.new.number c.take_turn.new.seen c.in_ok-take_turn.ensures.ok c.args.cluster.now (IsTurning c.args.number.now)
          (subst
          (λ (left : List (TxnId × ℕ)).
          Leads g.D.Disk c.args.plan.now c.args.cluster.now c.loop-id.cluster (IsTurning c.args.number.now)
          (λ place now. IsLeft c.args.plan.now c.loop-id.number left c.loop-id.seen now)) c.in-Some.ensures.steps c.loop-id.invariant.leads);
    }

pub returns-in_err-take_turn-clause-limit : goal.returns-in_err-take_turn-clause-limit
returns-in_err-take_turn-clause-limit g c =
    handed_on (IfLimit (EndsWithin g.D.Disk c.args.plan.now c.args.cluster.now (IsTurning c.args.number.now))) c.from_residual-in_err-take_turn.result
    c.in_err-take_turn.field-0.0 c.from_residual-in_err-take_turn.ensures.1
    (turn_ends_all g.D.Disk c.args.plan.now c.loop-id.number c.in-Some.id.now c.in-Some.txn.now c.next.new.self c.loop-id.seen c.look.new.self c.loop-id.cluster
    c.items-in-loop-id.result.now.items c.items-in-loop-id.ensures c.in_ok-look.ensures c.in_ok-is_lacking.field-0 c.in_ok-is_lacking.ensures c.if-branch.true
    c.args.cluster.now (IsTurning c.args.number.now)
    (subst
    (λ (left : List (TxnId × ℕ)).
    Leads g.D.Disk c.args.plan.now c.args.cluster.now c.loop-id.cluster (IsTurning c.args.number.now)
    (λ place now. IsLeft c.args.plan.now c.loop-id.number left c.loop-id.seen now)) c.in-Some.ensures.steps c.loop-id.invariant.leads) c.in_err-take_turn.field-0.0
    c.in_err-take_turn.ensures.limit)

pub loop-id-preserved : goal.loop-id-preserved
loop-id-preserved g c =
    record {
      standing =
          passed_stands g.D.Disk c.args.plan.now c.loop-id.number c.in-Some.id.now c.in-Some.txn.now c.next.new.self c.loop-id.seen c.look.new.self c.loop-id.cluster
          c.items-in-loop-id.result.now.items c.items-in-loop-id.ensures c.in_ok-look.ensures c.in_ok-is_lacking.field-0 c.in_ok-is_lacking.ensures c.if-branch.false
          (subst (λ (left : List (TxnId × ℕ)). StandsIn g.D.Disk c.args.plan.now c.loop-id.cluster (IsLeft c.args.plan.now c.loop-id.number left c.loop-id.seen))
          c.in-Some.ensures.steps c.loop-id.invariant.standing);
      leads =
          passed_leads g.D.Disk c.args.plan.now c.loop-id.number c.in-Some.id.now c.in-Some.txn.now c.next.new.self c.loop-id.seen c.look.new.self c.loop-id.cluster
          c.items-in-loop-id.result.now.items c.items-in-loop-id.ensures c.in_ok-look.ensures c.in_ok-is_lacking.field-0 c.in_ok-is_lacking.ensures c.if-branch.false
          c.args.cluster.now (IsTurning c.args.number.now)
          (subst
          (λ (left : List (TxnId × ℕ)).
          Leads g.D.Disk c.args.plan.now c.args.cluster.now c.loop-id.cluster (IsTurning c.args.number.now)
          (λ place now. IsLeft c.args.plan.now c.loop-id.number left c.loop-id.seen now)) c.in-Some.ensures.steps c.loop-id.invariant.leads);
    }

pub returns-clause-ok : goal.returns-clause-ok
returns-clause-ok g c = λ strictly between place before h.
    let led = c.loop-id.invariant.leads strictly between place before h in (
      led.0,
      none_left c.args.plan.now c.loop-id.number c.loop-id.seen led.0
          (subst (λ (left : List (TxnId × ℕ)). IsLeft c.args.plan.now c.loop-id.number left c.loop-id.seen led.0) c.in-None.ensures.steps.0 led.1),
      led.2,
    )

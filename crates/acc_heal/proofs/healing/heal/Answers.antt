-- The reopening, the drain and the turns, from where the plan's steps are taken.
use Rattle.acc_schedule_runs.specs.StrictLaws.{no_faults}
use Rattle.acc_run.proofs.Taking.{handed_on}
use Rattle.acc_heal.proofs.Ending.{stands_first, healed, healed_strictly, limit_ends, limit_ends_strictly}
use Rattle.acc_heal.proofs.WholeHealing.{drain_stands, drain_ends, turns_stand, turns_end, all_over}
use Rattle.acc_heal.proofs.Passing.{taken_through, ended_through}
use Rattle.acc_heal.proofs.healing.heal.Goals as goal

pub reopen-requires-clause-standing : goal.reopen-requires-clause-standing
reopen-requires-clause-standing g c =
    stands_first g.D.Disk c.args.plan.now c.args.cluster.now c.first_number-number.result c.first_number-number.ensures c.requires.taken

pub take-requires-clause-standing : goal.take-requires-clause-standing
take-requires-clause-standing g c =
    drain_stands g.D.Disk c.args.plan.now c.first_number-number.result c.reopen.new.number 0 c.args.cluster.now c.reopen.new.cluster c.reopen.new.cluster
    c.in_ok-reopen.ensures.ok (stands_first g.D.Disk c.args.plan.now c.args.cluster.now c.first_number-number.result c.first_number-number.ensures c.requires.taken)

pub take_turns-requires-clause-standing : goal.take_turns-requires-clause-standing
take_turns-requires-clause-standing g c =
    turns_stand g.D.Disk c.args.plan.now c.first_number-number.result c.reopen.new.number c.take.new.number c.args.cluster.now c.reopen.new.cluster c.take.new.cluster
    c.in_ok-reopen.ensures.ok c.in_ok-take.ensures.ok
    (stands_first g.D.Disk c.args.plan.now c.args.cluster.now c.first_number-number.result c.first_number-number.ensures c.requires.taken)

pub returns-clause-ok : goal.returns-clause-ok
returns-clause-ok g c =
    taken_through c.take_turns.result c.take_turns.ensures.ok
    (λ turns.
    healed g.D.Disk c.args.plan.now c.args.cluster.now c.take_turns.new.cluster c.first_number-number.result c.first_number-number.ensures
    (all_over g.D.Disk c.args.plan.now c.first_number-number.result c.reopen.new.number c.take.new.number c.args.cluster.now c.reopen.new.cluster c.take.new.cluster
    c.in_ok-reopen.ensures.ok c.in_ok-take.ensures.ok c.take_turns.new.cluster turns))

pub returns-clause-strict : goal.returns-clause-strict
returns-clause-strict g c =
    taken_through c.take_turns.result c.take_turns.ensures.ok
    (λ turns.
    healed_strictly g.D.Disk c.args.plan.now c.args.cluster.now c.take_turns.new.cluster c.first_number-number.result c.first_number-number.ensures
    c.strict_disks_give_answers.ensures.follows no_faults
    (all_over g.D.Disk c.args.plan.now c.first_number-number.result c.reopen.new.number c.take.new.number c.args.cluster.now c.reopen.new.cluster c.take.new.cluster
    c.in_ok-reopen.ensures.ok c.in_ok-take.ensures.ok c.take_turns.new.cluster turns))

pub returns-clause-limit : goal.returns-clause-limit
returns-clause-limit g c =
    ended_through c.take_turns.result _ _ c.take_turns.ensures.limit
    (λ error ends.
    limit_ends g.D.Disk c.args.plan.now c.args.cluster.now c.first_number-number.result c.first_number-number.ensures c.requires.taken error
    (turns_end g.D.Disk c.args.plan.now c.first_number-number.result c.reopen.new.number c.take.new.number c.args.cluster.now c.reopen.new.cluster c.take.new.cluster
    c.in_ok-reopen.ensures.ok c.in_ok-take.ensures.ok error ends))

pub returns-clause-strict_limit : goal.returns-clause-strict_limit
returns-clause-strict_limit g c = λ taken.
    ended_through c.take_turns.result _ _ c.take_turns.ensures.limit
    (λ error ends.
    limit_ends_strictly g.D.Disk c.args.plan.now c.strict_disks_give_answers.ensures.follows no_faults c.args.cluster.now c.first_number-number.result
    c.first_number-number.ensures taken error
    (turns_end g.D.Disk c.args.plan.now c.first_number-number.result c.reopen.new.number c.take.new.number c.args.cluster.now c.reopen.new.cluster c.take.new.cluster
    c.in_ok-reopen.ensures.ok c.in_ok-take.ensures.ok error ends))

pub returns-in_err-reopen-clause-limit : goal.returns-in_err-reopen-clause-limit
returns-in_err-reopen-clause-limit g c =
    handed_on _ c.from_residual.result c.in_err-reopen.field-0.0 c.from_residual.ensures.1
    (limit_ends g.D.Disk c.args.plan.now c.args.cluster.now c.first_number-number.result c.first_number-number.ensures c.requires.taken c.in_err-reopen.field-0.0
    c.in_err-reopen.ensures.limit)

pub returns-in_err-reopen-clause-strict_limit : goal.returns-in_err-reopen-clause-strict_limit
returns-in_err-reopen-clause-strict_limit g c = λ taken.
    handed_on _ c.from_residual.result c.in_err-reopen.field-0.0 c.from_residual.ensures.1
    (limit_ends_strictly g.D.Disk c.args.plan.now c.strict_disks_give_answers.ensures.follows no_faults c.args.cluster.now c.first_number-number.result
    c.first_number-number.ensures taken c.in_err-reopen.field-0.0 c.in_err-reopen.ensures.limit)

pub returns-in_err-take-clause-limit : goal.returns-in_err-take-clause-limit
returns-in_err-take-clause-limit g c =
    handed_on _ c.from_residual-in_err-take.result c.in_err-take.field-0.0 c.from_residual-in_err-take.ensures.1
    (limit_ends g.D.Disk c.args.plan.now c.args.cluster.now c.first_number-number.result c.first_number-number.ensures c.requires.taken c.in_err-take.field-0.0
    (drain_ends g.D.Disk c.args.plan.now c.first_number-number.result c.reopen.new.number 0 c.args.cluster.now c.reopen.new.cluster c.reopen.new.cluster
    c.in_ok-reopen.ensures.ok c.in_err-take.field-0.0 c.in_err-take.ensures.limit))

pub returns-in_err-take-clause-strict_limit : goal.returns-in_err-take-clause-strict_limit
returns-in_err-take-clause-strict_limit g c = λ taken.
    handed_on _ c.from_residual-in_err-take.result c.in_err-take.field-0.0 c.from_residual-in_err-take.ensures.1
    (limit_ends_strictly g.D.Disk c.args.plan.now c.strict_disks_give_answers.ensures.follows no_faults c.args.cluster.now c.first_number-number.result
    c.first_number-number.ensures taken c.in_err-take.field-0.0
    (drain_ends g.D.Disk c.args.plan.now c.first_number-number.result c.reopen.new.number 0 c.args.cluster.now c.reopen.new.cluster c.reopen.new.cluster
    c.in_ok-reopen.ensures.ok c.in_err-take.field-0.0 c.in_err-take.ensures.limit))

-- One command more goes by, or the next one is held.
use Rattle.std.proofs.Common.{◌∙◌, false, refl, sym, subst, Contains}
use Rattle.acc_stamp.specs.declared.actors.Actor.{Actor}
use Rattle.acc_schedule.specs.Actors.{actors}
use Rattle.acc_free_ending.specs.Queues.{left_in}
use Rattle.acc_free_ending.proofs.Steps.{limit_handed}
use Rattle.acc_free_ending.proofs.Moving.{moving_none, gone_so_far, moved_limit, fewer_left, moving_on, moving_ended}
use Rattle.acc_free_ending.proofs.command.take_commands.Goals as goal

pub commands-init : goal.commands-init
commands-init g c = record {
  same = refl;
  moving = λ strict_run s serves gone.
      moving_none g.D.Disk strict_run c.args.plan.now c.args.queue.now.actor s (left_in c.args.queue.now) c.args.cluster.now serves gone;
}

pub take_command-requires-clause-known : goal.take_command-requires-clause-known
take_command-requires-clause-known g c =
    subst (λ (a : Actor). Contains (actors c.args.plan.now.topology) a) (sym c.commands.invariant.same) c.requires.known

pub take_command-requires-clause-standing : goal.take_command-requires-clause-standing
take_command-requires-clause-standing g c =
    let s = c.requires.standing.0 in
    let m = c.commands.invariant.moving false s c.requires.standing.1 c.requires.standing.2 in (
      m.reached,
      m.serves,
      gone_so_far g.D.Disk false c.args.plan.now c.args.queue.now.actor s (left_in c.args.queue.now) (left_in c.commands.queue) c.commands.went c.commands.cluster m
          c.commands.queue.actor c.commands.invariant.same,
    )

pub commands-smaller : goal.commands-smaller
commands-smaller g c =
    let s = c.requires.standing.0 in
    let m = c.commands.invariant.moving false s c.requires.standing.1 c.requires.standing.2 in
    let gone = gone_so_far g.D.Disk false c.args.plan.now c.args.queue.now.actor s (left_in c.args.queue.now) (left_in c.commands.queue) c.commands.went c.commands.cluster m
    c.commands.queue.actor c.commands.invariant.same in
    fewer_left g.D.Disk false c.args.plan.now c.args.queue.now.actor s (left_in c.args.queue.now) (left_in c.commands.queue) c.commands.went c.commands.cluster m
    c.commands.queue.actor c.commands.invariant.same (left_in c.take_command.new.queue) c.in_ok-take_command.field-0 c.take_command.new.cluster
    (c.in_ok-take_command.ensures.ok false m.reached m.serves gone) c.if-branch.true

pub commands-preserved : goal.commands-preserved
commands-preserved g c = record {
  same = c.take_command.ensures.same ∙ c.commands.invariant.same;
  moving = λ strict_run s serves gone.
      let m = c.commands.invariant.moving strict_run s serves gone in
      let went = gone_so_far g.D.Disk strict_run c.args.plan.now c.args.queue.now.actor s (left_in c.args.queue.now) (left_in c.commands.queue) c.commands.went c.commands.cluster m
      c.commands.queue.actor c.commands.invariant.same in
      moving_on g.D.Disk strict_run c.args.plan.now c.args.queue.now.actor s (left_in c.args.queue.now) (left_in c.commands.queue) c.commands.went c.commands.cluster m
      c.commands.queue.actor c.commands.invariant.same (left_in c.take_command.new.queue) c.in_ok-take_command.field-0 c.take_command.new.cluster
      (c.in_ok-take_command.ensures.ok strict_run m.reached m.serves went) c.if-branch.true;
}

pub returns-clause-ok : goal.returns-clause-ok
returns-clause-ok g c = λ strict_run s serves gone.
    let m = c.commands.invariant.moving strict_run s serves gone in
    let went = gone_so_far g.D.Disk strict_run c.args.plan.now c.args.queue.now.actor s (left_in c.args.queue.now) (left_in c.commands.queue) c.commands.went c.commands.cluster m
    c.commands.queue.actor c.commands.invariant.same in
    moving_ended g.D.Disk strict_run c.args.plan.now c.args.queue.now.actor s (left_in c.args.queue.now) (left_in c.commands.queue) c.commands.went c.commands.cluster m
    c.commands.queue.actor c.commands.invariant.same (left_in c.take_command.new.queue) c.in_ok-take_command.field-0 c.take_command.new.cluster
    (c.in_ok-take_command.ensures.ok strict_run m.reached m.serves went) c.if-branch.false

pub returns-in_err-take_command-clause-limit : goal.returns-in_err-take_command-clause-limit
returns-in_err-take_command-clause-limit g c =
    limit_handed _ _ c.from_residual.result c.in_err-take_command.field-0.0 c.from_residual.ensures.1
    (λ which most ends strict_run s serves gone each.
    let m = c.commands.invariant.moving strict_run s serves gone in
    moved_limit g.D.Disk strict_run c.args.plan.now c.args.queue.now.actor s (left_in c.args.queue.now) (left_in c.commands.queue) c.commands.went c.commands.cluster m
    c.commands.queue.actor c.commands.invariant.same c.take_command.new.cluster which most (ends strict_run) each)
    c.in_err-take_command.ensures.limit

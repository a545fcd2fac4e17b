-- One actor more took its commands.
use Rattle.std.proofs.Common.{false, ◌≡◌, ◌∙◌, ◌+◌, length, map, slice_get, slice_set, Some, refl, sym, subst, arith}
use Rattle.std.proofs.lemmas.Option.{slice_get_read}
use Rattle.std.proofs.lemmas.List.{length-set}
use Rattle.acc_free_ending.specs.Queues.{actor_in}
use Rattle.acc_free_ending.proofs.Steps.{limit_handed, ends_later}
use Rattle.acc_free_ending.proofs.Rounds.{IsUnder, actor_known, each_went, under_none, still_named, under_went, under_stayed, round_ended}
use Rattle.acc_free_ending.proofs.round.round.Goals.{then-branch, else-branch}
use Rattle.acc_free_ending.proofs.round.round.Goals as goal

pub loop-place-init : goal.loop-place-init
loop-place-init g c = record {
  same = refl;
  long = refl;
  under = λ strict_run s serves gone. under_none g.D.Disk strict_run c.args.plan.now s c.args.queues.now.items c.args.cluster.now serves gone;
}

pub take_commands-requires-clause-known : goal.take_commands-requires-clause-known
take_commands-requires-clause-known g c =
    let queue = c.index_mut.result.now in
    let names = map actor_in c.args.queues.now.items in
    let there : slice_get c.loop-place.queues.items c.loop-place.place ≡ Some queue =
    slice_get_read c.loop-place.queues.items (length c.loop-place.queues.items) c.loop-place.place queue refl (omega (arith, c.loop-place.invariant.long, c.len-place-end.ensures, c.loop-place-test.true)) c.index_mut.ensures.value in
    actor_known c.args.plan.now c.loop-place.queues.items names c.loop-place.invariant.same c.requires.actors c.loop-place.place queue there

pub take_commands-requires-clause-standing : goal.take_commands-requires-clause-standing
take_commands-requires-clause-standing g c =
    let queue = c.index_mut.result.now in
    let names = map actor_in c.args.queues.now.items in
    let there : slice_get c.loop-place.queues.items c.loop-place.place ≡ Some queue =
    slice_get_read c.loop-place.queues.items (length c.loop-place.queues.items) c.loop-place.place queue refl (omega (arith, c.loop-place.invariant.long, c.len-place-end.ensures, c.loop-place-test.true)) c.index_mut.ensures.value in
    let under = c.loop-place.invariant.under false c.requires.standing.0 c.requires.standing.1 c.requires.standing.2 in
    (under.reached, under.serves, under.gone c.loop-place.place queue there)

pub loop-place-preserved : goal.loop-place-preserved
loop-place-preserved g c =
    let queue = c.index_mut.result.now in
    let names = map actor_in c.args.queues.now.items in
    let there : slice_get c.loop-place.queues.items c.loop-place.place ≡ Some queue =
    slice_get_read c.loop-place.queues.items (length c.loop-place.queues.items) c.loop-place.place queue refl (omega (arith, c.loop-place.invariant.long, c.len-place-end.ensures, c.loop-place-test.true)) c.index_mut.ensures.value in
    let turned = c.take_commands.new.queue in
    let now = slice_set c.loop-place.queues.items c.loop-place.place turned in
    record {
      same = still_named g.D.Disk false c.args.plan.now c.requires.standing.0 c.args.queues.now.items c.loop-place.queues.items c.loop-place.place names c.loop-place.invariant.same c.requires.actors queue turned there c.take_commands.ensures.same;
      long = length-set c.loop-place.queues.items c.loop-place.place turned ∙ c.loop-place.invariant.long;
      under = λ strict_run s serves gone.
          let under = c.loop-place.invariant.under strict_run s serves gone in
          let told = c.in_ok-take_commands.ensures.ok strict_run under.reached under.serves (under.gone c.loop-place.place queue there) in
          elim c.if-branch.branch [
            | then-branch w ↦
                subst (λ went. IsUnder g.D.Disk strict_run c.args.plan.now c.args.queues.now.items now (c.loop-place.place + 1) went c.take_commands.new.cluster s) (sym w.went-is)
                (under_went g.D.Disk strict_run c.args.plan.now s c.args.queues.now.items c.loop-place.queues.items c.loop-place.place names c.loop-place.invariant.same c.requires.actors queue turned there c.take_commands.ensures.same
                c.loop-place.went c.in_ok-take_commands.field-0 c.loop-place.cluster c.take_commands.new.cluster under told w.if-branch.true)
            | else-branch w ↦
                subst (λ went. IsUnder g.D.Disk strict_run c.args.plan.now c.args.queues.now.items now (c.loop-place.place + 1) went c.take_commands.new.cluster s) (sym w.went-is)
                (under_stayed g.D.Disk strict_run c.args.plan.now s c.args.queues.now.items c.loop-place.queues.items c.loop-place.place names c.loop-place.invariant.same c.requires.actors queue turned there c.take_commands.ensures.same
                c.loop-place.went c.in_ok-take_commands.field-0 c.loop-place.cluster c.take_commands.new.cluster under told w.if-branch.false)
          ];
    }

pub returns-clause-ok : goal.returns-clause-ok
returns-clause-ok g c = λ strict_run s serves gone.
    round_ended g.D.Disk strict_run c.args.plan.now s c.args.queues.now.items c.loop-place.queues.items c.loop-place.place c.loop-place.went c.loop-place.cluster
    (c.loop-place.invariant.under strict_run s serves gone) (omega (arith, c.loop-place.invariant.long, c.len-place-end.ensures, c.loop-place-test.false))

pub returns-in_err-take_commands-clause-limit : goal.returns-in_err-take_commands-clause-limit
returns-in_err-take_commands-clause-limit g c =
    let queue = c.index_mut.result.now in
    let names = map actor_in c.args.queues.now.items in
    let there : slice_get c.loop-place.queues.items c.loop-place.place ≡ Some queue =
    slice_get_read c.loop-place.queues.items (length c.loop-place.queues.items) c.loop-place.place queue refl (omega (arith, c.loop-place.invariant.long, c.len-place-end.ensures, c.loop-place-test.true)) c.index_mut.ensures.value in
    limit_handed _ _ c.from_residual.result c.in_err-take_commands.field-0.0 c.from_residual.ensures.1
    (λ which most ends strict_run s serves gone.
    let under = c.loop-place.invariant.under strict_run s serves gone in
    ends_later g.D.Disk strict_run c.args.plan.now s.own under.reached.own c.take_commands.new.cluster which most under.behind
    (ends strict_run under.reached under.serves (under.gone c.loop-place.place queue there)
    (each_went c.args.plan.now c.loop-place.queues.items names c.loop-place.invariant.same c.requires.actors under.reached under.gone)))
    c.in_err-take_commands.ensures.limit

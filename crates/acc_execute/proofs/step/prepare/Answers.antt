use Rattle.std.proofs.Common.{[], is_some, refl, sym, ap, ◌∙◌, subst}
use Rattle.std.specs.List.{AllByRecursion}
use Rattle.acc_stamp.specs.Actor.{shard_of}
use Rattle.acc_record.specs.declared.record.Record.{Record}
use Rattle.acc_record.specs.Shelf.{record_at, cell_at}
use Rattle.acc_opening.specs.Plan.{settled_in}
use Rattle.acc_opening.specs.Lookup.{lookup}
use Rattle.acc_opening.specs.Turns.{changes_in}
use Rattle.acc_opening.specs.Planned.{IsPlanned}
use Rattle.acc_opening.specs.Release.{IsKept, IsReleased}
use Rattle.acc_execute.specs.Executed.{IsReadyBehind}
use Rattle.acc_execute.proofs.Kept.{all_kept}
use Rattle.acc_execute.proofs.step.prepare.Goals as goal

pub release-requires : goal.release-requires
release-requires c =
    subst (AllByRecursion (IsKept (lookup c.args.shelf.now.records c.get.result.now))) (sym c.as_slice.ensures)
    (all_kept c.shard.result (lookup c.args.shelf.now.records c.get.result.now) [] c.in_ok-plan.plan.done c.in_ok-plan.ensures.turns.each)

pub returns-clause-ready : goal.returns-clause-ready
returns-clause-ready c =
    subst (IsReadyBehind c.args.topology.now c.args.shelf.now c.args.first) (sym c.in_ok-step.ensures)
    (record {
      planned =
          subst (λ own. IsPlanned (shard_of c.args.shelf.now.actor) c.args.shelf.now.records own c.args.shelf.now.waits c.in_ok-plan.plan) c.get.ensures
          (subst (λ shard. IsPlanned shard c.args.shelf.now.records c.get.result.now c.args.shelf.now.waits c.in_ok-plan.plan) c.shard.ensures c.in_ok-plan.ensures);
      released = c.in_ok-released.released;
      releases =
          subst (λ own. IsReleased c.args.topology.now c.args.shelf.now.actor (lookup c.args.shelf.now.records own) (changes_in c.in_ok-plan.plan.done) (cell_at c.args.shelf.now.cells) c.in_ok-released.released) c.get.ensures
          (subst (λ turns. IsReleased c.args.topology.now c.args.shelf.now.actor (lookup c.args.shelf.now.records c.get.result.now) (changes_in turns) (cell_at c.args.shelf.now.cells) c.in_ok-released.released)
          c.as_slice.ensures c.in_ok-released.ensures);
      sends = c.in_ok-sent.ensures;
      writes = refl;
    })

pub planned-requires-clause-was : goal.planned-requires-clause-was
planned-requires-clause-was c =
    c.is_stable.ensures
    ∙ ap (λ o. is_some (settled_in o)) (c.requires.there ∙ ap (λ (own : Record). record_at c.args.shelf.now.records own.id) (sym c.get.ensures))

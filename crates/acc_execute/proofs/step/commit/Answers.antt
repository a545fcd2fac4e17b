use Rattle.std.proofs.Common.{◌≡◌, cond, refl, subst, ◌∙◌}
use Rattle.std.specs.Option.{option_map}
use Rattle.acc_stamp.specs.declared.stamps.TxnId.{TxnId}
use Rattle.acc_stamp.specs.Stamp.{id_eq}
use Rattle.acc_record.specs.declared.record.Record.{Record}
use Rattle.acc_record.specs.Shelf.{record_at}
use Rattle.acc_opening.specs.Turns.{changes_in}
use Rattle.acc_execute.specs.Opened.{executed}
use Rattle.acc_execute.proofs.Stepping.{records_then}
use Rattle.acc_execute.proofs.step.commit.Goals as goal

pub returns : goal.returns
returns c =
    let before = c.args.shelf.now.records in
    let kept = c.keep.new.records in
    record {
      actor = refl;
      index = refl;
      greatest = refl;
      records =
          records_then before kept c.take_other_turns.new.records c.args.own c.take_own_turns.new.own (changes_in c.args.plan.done) c.requires.known
          (c.take_own_turns.ensures ∙ (λ i. executed (changes_in (c.as_slice-turns.ensures i)) ((c.get.ensures i).id) c.args.own))
          (subst (λ (r : Record). (y : TxnId) → record_at kept y ≡ cond (id_eq r.id y) (option_map (λ (there : Record). c.take_own_turns.new.own) (record_at before r.id)) (record_at before y)) c.get.ensures c.keep.ensures)
          (λ y. c.take_other_turns.ensures y
          ∙ (λ i. cond (id_eq ((c.get.ensures i).id) y) (record_at kept y) (option_map (executed (changes_in (c.as_slice-turns.ensures i)) y) (record_at kept y))));
      waits = c.change_lists.ensures;
      cells = c.write.ensures;
    }

use Rattle.std.proofs.Common.{Some, cond, ap, ◌∙◌}
use Rattle.acc_stamp.specs.Stamp.{id_eq}
use Rattle.acc_record.specs.declared.record.Record.{Record}
use Rattle.acc_record.specs.Shelf.{record_at}
use Rattle.acc_record.proofs.learn.put.Goals as goal

pub returns-clause-ok : goal.returns-clause-ok
returns-clause-ok c y =
    c.in_ok-insert.ensures.updates.0 y
    ∙ ap (λ (r : Record). cond (id_eq r.id y) (Some c.args.made) (record_at c.args.records.now y)) c.get.ensures

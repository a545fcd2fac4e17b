use Rattle.std.proofs.Common.{sym, ap, ◌∙◌}
use Rattle.acc_record.specs.Shelf.{record_at}
use Rattle.acc_execute.proofs.Absent.{absent_stays}
use Rattle.acc_execute.proofs.commit.keep.Goals as goal

pub returns-in-None : goal.returns-in-None
returns-in-None c y =
    ap (λ m. record_at m y) c.get_mut.follows.holds-at-none
    ∙ absent_stays (record_at c.args.records.now) (λ there. c.args.own) c.args.id (sym c.in-None.ensures.value) y

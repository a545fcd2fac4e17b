use Rattle.std.proofs.Common.{ap}
use Rattle.acc_message.specs.declared.entry.Entry.{Entry}
use Rattle.acc_world.specs.Held.{past_of}
use Rattle.acc_world.proofs.Entered.{on_err}
use Rattle.acc_world.proofs.Noted.{noted}
use Rattle.acc_world.proofs.keeping.note.Goals as goal

pub returns-in_err-add_shared-clause-err : goal.returns-in_err-add_shared-clause-err
returns-in_err-add_shared-clause-err c =
    on_err c.from_residual-in_err-add_shared.result _ (λ items stands. c.in_err-add_shared.ensures.still_stands (past_of items) stands)

pub returns-clause-ok : goal.returns-clause-ok
returns-clause-ok c =
    noted c.args.history.now c.add_shared.new.self c.in_ok-shared.shared _ c.args.event c.in_ok-item.ensures (ap (λ (e : Entry). e.event) c.in_ok-shared.ensures)
    c.in_ok-add_shared.ensures.stands

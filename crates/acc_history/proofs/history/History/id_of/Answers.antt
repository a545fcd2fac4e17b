use Rattle.std.proofs.Common.{sym, ◌∙◌}
use Rattle.acc_message.specs.Items.{is_begun, id_of_txn}
use Rattle.acc_schedule_runs.specs.Situations.{whole}
use Rattle.acc_history.proofs.Raised.{no_id, isnt_known}
use Rattle.acc_history.proofs.history.History.id_of.Goals as goal

pub returns-in-None : goal.returns-in-None
returns-in-None c = λ s h.
    let txn = c.args.txn in
    sym (no_id (whole s) txn (isnt_known (is_begun (whole s) txn) (id_of_txn (whole s) txn) (c.in-None.ensures ∙ h.begun txn)))

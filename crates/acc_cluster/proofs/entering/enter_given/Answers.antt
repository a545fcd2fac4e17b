use Rattle.std.proofs.Common.{false}
use Rattle.acc_message.specs.declared.item.Item.TheVariants.{Down}
use Rattle.acc_cluster.specs.Entering.{step_item}
use Rattle.acc_cluster.proofs.Taken.{on_ok}
use Rattle.acc_cluster.proofs.KeepsTested.{grown_by}
use Rattle.acc_cluster.proofs.entering.enter_given.Goals as goal

pub returns-in-Some-clause-grown : goal.returns-in-Some-clause-grown
returns-in-Some-clause-grown c =
    on_ok _ _ c.enter_entry.result (λ enter s past place sent. grown_by c.enter_entry.new.history s (step_item c.args.actor c.args.event c.in-Some.emitted false) (enter s past place sent)) c.enter_entry.ensures.ok

pub returns-in-None-clause-grown : goal.returns-in-None-clause-grown
returns-in-None-clause-grown c =
    on_ok _ _ c.enter_down.result (λ enter s past place sent. grown_by c.enter_down.new.history s (Down c.args.actor) (enter s past place)) c.enter_down.ensures.ok

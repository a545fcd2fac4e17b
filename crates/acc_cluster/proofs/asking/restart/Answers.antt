use Rattle.std.proofs.Common.{ap, refl}
use Rattle.acc_schedule.specs.Content.{Content}
use Rattle.acc_actors.proofs.RestartCalls.{node_called, node_called_strictly, store_called, store_called_strictly}
use Rattle.acc_actors.proofs.Few.{restarts_up}
use Rattle.acc_cluster.proofs.Safe.{restarts_on}
use Rattle.acc_cluster.proofs.SafeStores.{restarts_on as store_restarts_on}
use Rattle.acc_cluster.proofs.asking.restart.Goals as goal

pub returns-in-Node-clause-ok : goal.returns-in-Node-clause-ok
returns-in-Node-clause-ok g c =
    node_called g.D.Disk c.args.plan.now c.args.actor c.args.slot c.in-Node.node c.in-Node.is c.restart-node.result.0
    c.restart-node.result.1 c.restart-node.ensures.ok c.restart-node.ensures.up (restarts_up c.restart-node.result.1 _ _ c.restart-node.ensures.faults) c.restart-node.ensures.faults.cause

pub returns-in-Node-clause-strict : goal.returns-in-Node-clause-strict
returns-in-Node-clause-strict g c =
    node_called_strictly g.D.Disk c.args.plan.now c.args.actor c.args.slot c.in-Node.node c.in-Node.is c.restart-node.result.0
    c.args.choice c.restart-node.result.1 c.restart-node.ensures.ok c.restart-node.ensures.strict

pub returns-in-Node-clause-safe : goal.returns-in-Node-clause-safe
returns-in-Node-clause-safe g c =
    restarts_on g.D.Disk c.args.plan.now c.args.plan.now.topology refl c.args.actor c.args.slot c.in-Node.node c.in-Node.is c.restart-node.result.0 c.restart-node.result.1 c.restart-node.ensures.ok

pub returns-in-Store-clause-ok : goal.returns-in-Store-clause-ok
returns-in-Store-clause-ok g c =
    store_called g.D.Disk c.args.plan.now c.args.actor c.args.slot c.in-Store.store c.in-Store.is c.restart-store.result.0
    c.plan.inside.topology (ap (λ (p : Content). p.topology) c.plan.view_is)
    c.restart-store.result.1 c.restart-store.ensures.ok c.restart-store.ensures.up (restarts_up c.restart-store.result.1 _ _ c.restart-store.ensures.faults) c.restart-store.ensures.faults.cause

pub returns-in-Store-clause-strict : goal.returns-in-Store-clause-strict
returns-in-Store-clause-strict g c =
    store_called_strictly g.D.Disk c.args.plan.now c.args.actor c.args.slot c.in-Store.store c.in-Store.is c.restart-store.result.0
    c.plan.inside.topology (ap (λ (p : Content). p.topology) c.plan.view_is)
    c.args.choice c.restart-store.result.1 c.restart-store.ensures.ok c.restart-store.ensures.strict

pub returns-in-Store-clause-safe : goal.returns-in-Store-clause-safe
returns-in-Store-clause-safe g c =
    store_restarts_on g.D.Disk c.args.plan.now c.plan.inside.topology (ap (λ (p : Content). p.topology) c.plan.view_is) c.args.actor c.args.slot c.in-Store.store c.in-Store.is c.restart-store.result.0 c.restart-store.result.1 c.restart-store.ensures.ok

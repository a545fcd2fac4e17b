-- What the reopened journal tells decides what is told.
use Rattle.std.proofs.Common.{List, Result, None, sym, ap, subst}
use Rattle.std.specs.Prelude.{IfOk}
use Rattle.acc_base.specs.declared.memory.OutOfMemory.{OutOfMemory as NoMemory}
use Rattle.acc_topology.specs.Layout.{Layout}
use Rattle.acc_payloads.specs.declared.stops.Unsent.{Unsent}
use Rattle.acc_payloads.specs.declared.stops.Restarted.{Restarted}
use Rattle.acc_payloads.specs.Stops.{told, KeepsByChoice}
use Rattle.acc_durable_node.specs.Actor.{StandsFor, OfEachPast, IsStrictAt, KeptIn, past_after}
use Rattle.acc_durable_node.proofs.NodeRestarts.{restarted, restarted_strictly, for_all}
use Rattle.acc_durable_node.proofs.actor.NodeActor.restart.Goals as goal

pub returns-clause-ok : goal.returns-clause-ok
returns-clause-ok g c =
    subst (λ (q : Result Restarted NoMemory). IfOk q (λ found. (layout : Layout) → OfEachPast g.D.Disk layout c.args.self (λ name past. KeptIn layout name past found
    × StandsFor g.D.Disk layout name (past_after found past) (record c.args.self { state = c.reopened-state.result.0; stopped = c.told-found.result.1; kept = c.held-kept.result })))) (sym (ap (λ (t : Result Restarted NoMemory × List Unsent). t.0) c.told-found.ensures))
    (for_all g.D.Disk c.args.self (record c.args.self { state = c.reopened-state.result.0; stopped = c.told-found.result.1; kept = c.held-kept.result })
    (told c.reopened-state.result.1 c.args.self.stopped.items).0
    (λ layout name past stands.
    restarted g.D.Disk layout c.args.self name past stands c.reopened-state.result.0 c.held-kept.result c.reopened-state.result.1 c.told-found.result.1 c.into_disk.result (ap (λ (t : Result Restarted NoMemory × List Unsent). t.1) c.told-found.ensures) c.into_disk.ensures
    (c.held-kept.ensures layout name past stands) c.reopened-state.ensures.shut c.reopened-state.ensures.ok))

pub returns-clause-strict : goal.returns-clause-strict
returns-clause-strict g c = λ layout name armed passed past stands at.
    subst (λ (q : Result Restarted NoMemory). IfOk q (λ found. KeepsByChoice passed c.args.choice past.stopped found
    × IsStrictAt g.D.Disk layout name None None (past_after found past)
    (record c.args.self { state = c.reopened-state.result.0; stopped = c.told-found.result.1; kept = c.held-kept.result }))) (sym (ap (λ (t : Result Restarted NoMemory × List Unsent). t.0) c.told-found.ensures))
    (restarted_strictly g.D.Disk layout c.args.self name past stands c.reopened-state.result.0 c.held-kept.result armed passed at c.args.choice c.reopened-state.result.1 c.told-found.result.1 c.into_disk.result c.into_disk.ensures
    (c.held-kept.ensures layout name past stands) c.reopened-state.ensures.shut c.reopened-state.ensures.kind c.reopened-state.ensures.unarmed c.reopened-state.ensures.strict)

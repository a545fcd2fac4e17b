-- What the reopened journal tells decides what is told.
use Rattle.std.proofs.Common.{◌≡◌, List, Result, Ok, None, sym, ap, subst}
use Rattle.std.specs.Prelude.{IfOk}
use Rattle.acc_base.specs.declared.memory.OutOfMemory.{OutOfMemory as NoMemory}
use Rattle.acc_ports.specs.Faults.{CountsFaults}
use Rattle.acc_payloads.specs.declared.stops.Unsent.{Unsent}
use Rattle.acc_payloads.specs.declared.stops.Restarted.{Restarted}
use Rattle.acc_payloads.specs.declared.stops.Restarted.TheVariants.{Down}
use Rattle.acc_payloads.specs.Stops.{told, KeepsByChoice}
use Rattle.acc_durable_store.specs.Actor.{disk_in, StandsFor, OfEachPast, IsStrictAt, KeptIn, past_after}
use Rattle.acc_durable_store.proofs.StoreRestarts.{restarted, restarted_strictly, restarts_counted, for_all}
use Rattle.acc_durable_store.proofs.actor.StoreActor.restart.Goals as goal

pub returns-clause-ok : goal.returns-clause-ok
returns-clause-ok g c =
    subst (λ (q : Result Restarted NoMemory). IfOk q (λ found. OfEachPast g.D.Disk c.args.topology.now c.args.self (λ name past. KeptIn c.args.topology.now name.actor past found
    × StandsFor g.D.Disk c.args.topology.now name (past_after found past) (record c.args.self { state = c.reopened-state.result.0; unsent = c.told-found.result.1; kept = c.held-kept.result })))) (sym (ap (λ (t : Result Restarted NoMemory × List Unsent). t.0) c.told-found.ensures))
    (for_all g.D.Disk c.args.topology.now c.args.self (record c.args.self { state = c.reopened-state.result.0; unsent = c.told-found.result.1; kept = c.held-kept.result })
    (told c.reopened-state.result.1 c.args.self.unsent.items).0
    (λ name past stands.
    restarted g.D.Disk c.args.topology.now c.args.self name past stands c.reopened-state.result.0 c.held-kept.result c.reopened-state.result.1 c.told-found.result.1 c.into_parts-disk.result.0 (ap (λ (t : Result Restarted NoMemory × List Unsent). t.1) c.told-found.ensures) c.into_parts-disk.ensures.disk
    (c.held-kept.ensures c.args.topology.now name past stands) c.reopened-state.ensures.shut c.reopened-state.ensures.ok))

pub returns-clause-faults : goal.returns-clause-faults
returns-clause-faults g c =
    subst (λ (d : g.row.D.Denot). CountsFaults (c.told-found.result.0 ≡ Ok Down) (g.D.Disk.state d).faults (g.D.Disk.state (disk_in c.reopened-state.result.0)).faults) c.into_parts-disk.ensures.disk
    (restarts_counted c.reopened-state.result.1 c.args.self.unsent.items c.told-found.result.0 _ _ (ap (λ (t : Result Restarted NoMemory × List Unsent). t.0) c.told-found.ensures) c.reopened-state.ensures.faults)

pub returns-clause-strict : goal.returns-clause-strict
returns-clause-strict g c = λ name armed passed past stands at.
    subst (λ (q : Result Restarted NoMemory). IfOk q (λ found. KeepsByChoice passed c.args.choice past.stopped found
    × IsStrictAt g.D.Disk c.args.topology.now name None None (past_after found past)
    (record c.args.self { state = c.reopened-state.result.0; unsent = c.told-found.result.1; kept = c.held-kept.result }))) (sym (ap (λ (t : Result Restarted NoMemory × List Unsent). t.0) c.told-found.ensures))
    (restarted_strictly g.D.Disk c.args.topology.now c.args.self name past stands c.reopened-state.result.0 c.held-kept.result armed passed at c.args.choice c.reopened-state.result.1 c.told-found.result.1 c.into_parts-disk.result.0 c.into_parts-disk.ensures.disk
    (c.held-kept.ensures c.args.topology.now name past stands) c.reopened-state.ensures.shut c.reopened-state.ensures.kind c.reopened-state.ensures.unarmed c.reopened-state.ensures.strict)

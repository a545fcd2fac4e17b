-- The journal of a store is never refused.
use Rattle.std.proofs.Common.{ℕ, List, subst}
use Rattle.acc_payloads.specs.Journals.{IsRefusedAs}
use Rattle.acc_payloads.specs.Store.{store_bytes, StoreMay}
use Rattle.acc_durable_store.proofs.Stores.{refused_never}
use Rattle.acc_durable_store.proofs.store.DurableStore.reopen.Goals as goal

pub returns-in-Err-clause-never : goal.returns-in-Err-clause-never
returns-in-Err-clause-never g c = λ payloads items reads journal. c.in-Err.ensures.never payloads reads

pub returns-clause-never : goal.returns-clause-never
returns-clause-never g c = λ payloads items reads journal.
    refused_never c.args.topology.now c.args.version c.args.actor (g.D.Disk.state c.args.disk).content c.in-Ok.opened.1 payloads items c.in-Err-replay.error c.in-Ok.ensures.payloads reads journal
    (subst (λ (l : List (List ℕ)). IsRefusedAs store_bytes (StoreMay c.args.topology.now c.args.version c.args.actor) l c.in-Err-replay.error) c.as_slice.ensures c.in-Err-replay.ensures.refused)

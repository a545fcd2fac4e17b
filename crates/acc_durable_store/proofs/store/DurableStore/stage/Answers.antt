-- The message is staged and taken.
use Rattle.std.proofs.Common.{◌≡◌, ◌+◌, ◌-◌, ◌^◌, min, refl, arith}
use Rattle.acc_durable_store.proofs.Stores.{takes}
use Rattle.acc_durable_store.proofs.store.DurableStore.stage.Goals as goal

pub returns-in-Ok-clause-ok : goal.returns-in-Ok-clause-ok
returns-in-Ok-clause-ok g c = λ messages stands.
    let one_more : c.saturating_add-self.result ≡ min (c.args.self.now.staged + 1) (2 ^ 64 - 1) = omega (arith, c.saturating_add-self.ensures) in
    takes c.args.topology.now c.args.self.now _ c.args.m.now _
    (record { fits = c.in_ok-put.ensures.written; goes_to = c.requires.can.goes_here; top = c.requires.can.top; greatest = c.requires.can.greatest; texts = c.requires.can.texts })
    (record {
      version = refl;
      journal = c.in_ok-put.ensures.ok;
      marked = c.is_marked-self.ensures;
      kept = refl;
      staged = one_more;
      long = c.in_ok-put.ensures.fits;
    })
    c.in-Ok.ensures.ok messages stands

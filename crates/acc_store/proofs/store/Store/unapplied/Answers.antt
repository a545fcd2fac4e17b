use Rattle.acc_store.proofs.Unapplied.{told}
use Rattle.acc_store.proofs.store.Store.unapplied.Goals as goal

pub returns-clause-ids : goal.returns-clause-ids
returns-clause-ids c = told c.args.self.now.shelf c.unapplied.result c.unapplied.ensures.ids c.unapplied.ensures.rises

use Rattle.acc_store.proofs.Writers.{told}
use Rattle.acc_store.proofs.store.Store.known_writers.Goals as goal

pub returns-clause-ids : goal.returns-clause-ids
returns-clause-ids c = told c.args.self.now.shelf c.args.key.now c.writers.result c.writers.ensures.ids

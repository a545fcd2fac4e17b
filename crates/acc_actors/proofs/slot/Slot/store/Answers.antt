-- A store that is up shows itself; nothing else does.
use Rattle.acc_actors.proofs.Stores.{none_without_store, none_at_store, taken_there, shown_at_store}
use Rattle.acc_actors.proofs.slot.Slot.store.Goals as goal

pub returns-in-Empty-clause-none : goal.returns-in-Empty-clause-none
returns-in-Empty-clause-none g c = λ none. none_without_store g.D.Disk c.args.self.now c.in-Empty.is

pub returns-in-Store-clause-taken : goal.returns-in-Store-clause-taken
returns-in-Store-clause-taken g c = taken_there g.D.Disk c.args.self.now (λ r. r.now) c.in-Store.store c.in-Store.is c.store.result c.store.ensures.some

pub returns-in-Store-clause-some : goal.returns-in-Store-clause-some
returns-in-Store-clause-some g c = shown_at_store g.D.Disk c.args.self.now (λ r. r.now) c.in-Store.store c.in-Store.is c.store.result c.store.ensures.some c.store.ensures.stands

pub returns-in-Store-clause-none : goal.returns-in-Store-clause-none
returns-in-Store-clause-none g c = none_at_store g.D.Disk c.args.self.now (λ r. r.now) c.in-Store.store c.in-Store.is c.store.result c.store.ensures.some

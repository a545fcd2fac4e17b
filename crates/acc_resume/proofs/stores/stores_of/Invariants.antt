-- The stores of the shards before this place are opened.
use Rattle.acc_durable_store.specs.Store.{actor_in}
use Rattle.acc_run.proofs.Numbers.{stores_to}
use Rattle.acc_run.proofs.Beginning.{AreFresh}
use Rattle.acc_resume.specs.Opened.{memory, IsOpenedStore}
use Rattle.acc_resume.proofs.stores.stores_of.Given as goal

abbrev pub invariant-loop-place : goal.invariant-loop-place
invariant-loop-place l = AreFresh actor_in (IsOpenedStore memory l.plan l.images) (stores_to l.plan.topology l.place) l.stores.items

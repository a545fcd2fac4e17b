-- The stores of the shard at the nodes below this one are opened.
use Rattle.std.proofs.Common.{◌++◌, map}
use Rattle.acc_stamp.specs.Actor.{actor_of}
use Rattle.acc_durable_store.specs.Store.{actor_in}
use Rattle.acc_run.proofs.Numbers.{members_below}
use Rattle.acc_run.proofs.Beginning.{AreFresh}
use Rattle.acc_resume.specs.Opened.{memory, IsOpenedStore}
use Rattle.acc_resume.proofs.stores.push_stores.Given as goal

abbrev pub invariant-loop-node : goal.invariant-loop-node
invariant-loop-node l =
    AreFresh actor_in (IsOpenedStore memory l.plan l.images) (map actor_in l.initial.stores.items ++ map (λ node. actor_of node l.fn.shard) (members_below l.replicas l.node)) l.stores.items

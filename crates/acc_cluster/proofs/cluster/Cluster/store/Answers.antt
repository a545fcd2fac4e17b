-- The slot at the number of the actor shows its store.
use Rattle.std.proofs.Common.{arith}
use Rattle.acc_cluster.proofs.Stores.{none_past, none_here, shown_here}
use Rattle.acc_cluster.proofs.cluster.Cluster.store.Goals as goal

pub returns-then-place-len-clause-none : goal.returns-then-place-len-clause-none
returns-then-place-len-clause-none g c = λ none. none_past g.D.Disk c.args.self.now c.args.actor (omega (arith, c.if-place-len.true, c.len.ensures))

pub returns-clause-some : goal.returns-clause-some
returns-clause-some g c =
    shown_here g.D.Disk c.args.self.now c.args.actor c.index.result.now c.index.ensures (omega (arith, c.if-place-len.false, c.len.ensures))
    (λ r. r.now) c.store.result c.store.ensures.taken c.store.ensures.some

pub returns-clause-none : goal.returns-clause-none
returns-clause-none g c = λ none.
    none_here g.D.Disk c.args.self.now c.args.actor c.index.result.now c.index.ensures (omega (arith, c.if-place-len.false, c.len.ensures))
    (c.store.ensures.none none)

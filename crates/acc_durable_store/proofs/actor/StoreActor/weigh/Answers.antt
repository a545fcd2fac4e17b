use Rattle.std.proofs.Common.{subst}
use Rattle.acc_durable_store.specs.Weighing.{IsPreparedIn}
use Rattle.acc_durable_store.proofs.Weighed.{store_can, store_sends_short, store_weighs}
use Rattle.acc_durable_store.proofs.actor.StoreActor.weigh.Goals as goal

pub weigh-requires-clause-store : goal.weigh-requires-clause-store
weigh-requires-clause-store g c =
    (store_can g.D.Disk c.args.topology.now c.args.self.now c.in-Open.store c.in-Open.is c.requires.up c.args.m.now c.requires.may).goes_here

pub weigh-requires-clause-top : goal.weigh-requires-clause-top
weigh-requires-clause-top g c =
    (store_can g.D.Disk c.args.topology.now c.args.self.now c.in-Open.store c.in-Open.is c.requires.up c.args.m.now c.requires.may).top

pub weigh-requires-clause-greatest : goal.weigh-requires-clause-greatest
weigh-requires-clause-greatest g c =
    (store_can g.D.Disk c.args.topology.now c.args.self.now c.in-Open.store c.in-Open.is c.requires.up c.args.m.now c.requires.may).greatest

pub weigh-requires-clause-short : goal.weigh-requires-clause-short
weigh-requires-clause-short g c =
    store_sends_short g.D.Disk c.args.topology.now c.args.self.now c.in-Open.store c.in-Open.is c.requires.up c.args.m.now c.requires.may

pub weigh-requires-clause-prepared : goal.weigh-requires-clause-prepared
weigh-requires-clause-prepared g c =
    subst (λ state. IsPreparedIn c.args.topology.now state c.args.m.now c.args.prepared.now) c.in-Open.is c.requires.prepared

pub returns : goal.returns
returns g c =
    store_weighs g.D.Disk c.args.topology.now c.args.self.now c.in-Open.store c.in-Open.is c.requires.up c.args.m.now c.weigh.result c.weigh.ensures

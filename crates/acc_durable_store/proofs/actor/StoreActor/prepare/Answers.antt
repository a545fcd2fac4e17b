use Rattle.std.proofs.Common.{sym, subst}
use Rattle.std.specs.Prelude.{IfOk}
use Rattle.acc_durable_store.specs.Weighing.{IsPreparedIn}
use Rattle.acc_durable_store.proofs.StoreActors.{can_take}
use Rattle.acc_durable_store.proofs.actor.StoreActor.prepare.Goals as goal

pub prepare-requires : goal.prepare-requires
prepare-requires g c =
    let can = can_take g.D.Disk c.args.topology.now c.args.self.now c.in-Open.store c.args.m.now c.in-Open.is c.requires.up c.requires.may in
    record {
      store = can.goes_here;
      top = can.top;
      greatest = can.greatest;
      stands = can.stands;
    }

pub returns : goal.returns
returns g c = subst (λ state. IfOk c.prepare.result (IsPreparedIn c.args.topology.now state c.args.m.now)) (sym c.in-Open.is) c.prepare.ensures

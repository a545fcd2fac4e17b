use Rattle.std.proofs.Common.{refl}
use Rattle.acc_actors.proofs.Arms.{node_armed, store_armed, node_armed_strictly, store_armed_strictly}
use Rattle.acc_cluster.proofs.Safe.{arms_on}
use Rattle.acc_cluster.proofs.SafeStores.{arms_on as store_arms_on}
use Rattle.acc_cluster.proofs.asking.arm.Goals as goal

pub returns-in-Node-clause-stands : goal.returns-in-Node-clause-stands
returns-in-Node-clause-stands g c = λ s h.
    node_armed g.D.Disk c.args.plan.now s c.args.actor c.args.slot.now c.in-Node.node c.arm.new.self c.in-Node.is c.arm.ensures.stands c.arm.ensures.down c.arm.ensures.faults h

pub returns-in-Node-clause-strict : goal.returns-in-Node-clause-strict
returns-in-Node-clause-strict g c = λ s disks h.
    node_armed_strictly g.D.Disk c.args.plan.now s disks c.args.actor c.args.calls c.args.slot.now c.in-Node.node c.arm.new.self c.in-Node.is c.arm.ensures.strict h

pub returns-in-Node-clause-safe : goal.returns-in-Node-clause-safe
returns-in-Node-clause-safe g c =
    arms_on g.D.Disk c.args.plan.now c.args.plan.now.topology refl c.args.actor c.args.slot.now c.in-Node.node c.in-Node.is c.arm.new.self c.arm.ensures.stands

pub returns-in-Store-clause-stands : goal.returns-in-Store-clause-stands
returns-in-Store-clause-stands g c = λ s h.
    store_armed g.D.Disk c.args.plan.now s c.args.actor c.args.slot.now c.in-Store.store c.arm-in-Store.new.self c.in-Store.is c.arm-in-Store.ensures.stands c.arm-in-Store.ensures.down c.arm-in-Store.ensures.faults h

pub returns-in-Store-clause-strict : goal.returns-in-Store-clause-strict
returns-in-Store-clause-strict g c = λ s disks h.
    store_armed_strictly g.D.Disk c.args.plan.now s disks c.args.actor c.args.calls c.args.slot.now c.in-Store.store c.arm-in-Store.new.self c.in-Store.is c.arm-in-Store.ensures.strict h

pub returns-in-Store-clause-safe : goal.returns-in-Store-clause-safe
returns-in-Store-clause-safe g c =
    store_arms_on g.D.Disk c.args.plan.now c.args.plan.now.topology refl c.args.actor c.args.slot.now c.in-Store.store c.in-Store.is c.arm-in-Store.new.self c.arm-in-Store.ensures.stands

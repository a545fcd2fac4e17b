use Rattle.std.proofs.Common.{inr}
use Rattle.acc_actors.proofs.GroupCalls.{settle_up, may_settle, settle_answers}
use Rattle.acc_actors.proofs.Refused.{none_settles}
use Rattle.acc_actors.proofs.Excluded.{not_empty_staged}
use Rattle.acc_actors.proofs.slot.Slot.settle.Goals as goal

pub settle-requires-clause-up : goal.settle-requires-clause-up
settle-requires-clause-up g c = settle_up g.D.Disk c.args.plan.now c.args.actor c.args.self.now c.in-Store.store c.in-Store.is c.requires

pub settle-requires-clause-may : goal.settle-requires-clause-may
settle-requires-clause-may g c = may_settle g.D.Disk c.args.plan.now c.args.actor c.args.self.now c.in-Store.store c.in-Store.is c.requires

pub unreachable-requires : goal.unreachable-requires
unreachable-requires g c = not_empty_staged g.D.Disk c.args.plan.now c.args.self.now c.in-Empty.is c.args.actor c.requires

pub returns-in-Node : goal.returns-in-Node
returns-in-Node g c = none_settles g.D.Disk c.args.plan.now c.args.self.now _ c.args.actor (inr (_, c.in-Node.is)) c.requires

pub returns-in-Store : goal.returns-in-Store
returns-in-Store g c =
    settle_answers g.D.Disk c.args.plan.now c.args.actor c.args.self.now c.in-Store.store c.in-Store.is
    c.settle.result c.settle.new.self c.settle.ensures.ok c.settle.ensures.down c.settle.ensures.faults c.settle.ensures.strict c.settle.ensures.err

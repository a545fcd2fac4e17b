use Rattle.std.proofs.Common.{refl}
use Rattle.acc_payloads.proofs.Nodes.{told_marked, told_drawn}
use Rattle.acc_payloads.proofs.node.NodeTold.enter.Goals as goal

pub returns-in-Mark : goal.returns-in-Mark
returns-in-Mark c = λ version start items told may. told_marked c.args.node version start items _ c.args.self.now _ c.in-Mark.is refl refl refl told may

pub returns-in_ok-enter_id-in-Draws : goal.returns-in_ok-enter_id-in-Draws
returns-in_ok-enter_id-in-Draws c = λ version start items told may.
    told_drawn c.args.node version start items _ c.in-Draws.draw c.args.self.now _ c.in-Draws.is c.in_ok-enter_id-in-Draws.ensures.others.0 refl c.in_ok-enter_id-in-Draws.ensures.begun told may

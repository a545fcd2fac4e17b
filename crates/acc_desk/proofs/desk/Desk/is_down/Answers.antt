use Rattle.std.proofs.Common.{drop}
use Rattle.acc_desk.specs.Desks.{newest}
use Rattle.acc_desk.proofs.Next.{down_says}
use Rattle.acc_desk.proofs.desk.Desk.is_down.Goals as goal

pub returns : goal.returns
returns g c = λ plan tape desk.
    down_says g.D.Disk g.J.Planned.strict plan c.args.self.now.actor (newest c.args.self.now.seat) c.args.self.now.slot (drop c.args.self.now.gone c.args.self.now.commands) desk.at c.is_down.result c.is_down.ensures.stands

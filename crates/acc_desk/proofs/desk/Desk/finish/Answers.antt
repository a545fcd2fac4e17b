use Rattle.std.proofs.Common.{◌∙◌}
use Rattle.acc_desk.proofs.Joining.{none_joined, some_joined}
use Rattle.acc_desk.proofs.Marked.{refuses}
use Rattle.acc_desk.proofs.desk.Desk.finish.Goals as goal

pub let_go-requires-clause-seated : goal.let_go-requires-clause-seated
let_go-requires-clause-seated g c = c.requires.group.4.desk.seated

pub returns-then-staged-eq0-clause-ok : goal.returns-then-staged-eq0-clause-ok
returns-then-staged-eq0-clause-ok g c =
    let self = c.args.self.now in
    let q = c.requires.group in
    c.let_go.ensures.sound (none_joined g.D.Disk g.J.Planned.strict c.args.plan.now c.args.tape.now c.requires.limits self.actor self.commands self.gone q.0 self.slot q.1 q.2 c.args.hold self.seat q.4 (q.3 ∙ c.if-staged-eq0.true))

pub settle-requires-clause-group : goal.settle-requires-clause-group
settle-requires-clause-group g c =
    let q = c.requires.group in
    (q.0, q.1, q.2, some_joined q.1 c.args.staged q.3 c.if-staged-eq0.false, q.4)

pub returns-clause-took : goal.returns-clause-took
returns-clause-took g c = λ _. (c.if-staged-eq0.false, λ first joinings used long gathering. c.in_ok-settle.ensures.entered first joinings used (some_joined joinings c.args.staged long c.if-staged-eq0.false) gathering)

pub returns-then-staged-eq0-clause-marked : goal.returns-then-staged-eq0-clause-marked
returns-then-staged-eq0-clause-marked g c = c.let_go.ensures.same.4

pub returns-in_err-settle-clause-marked : goal.returns-in_err-settle-clause-marked
returns-in_err-settle-clause-marked g c = refuses c.args.self.now c.settle.new.self _ c.from_residual.result c.from_residual.ensures.1 c.in_err-settle.ensures.marked

pub returns-clause-marked : goal.returns-clause-marked
returns-clause-marked g c = c.in_ok-settle.ensures.marked

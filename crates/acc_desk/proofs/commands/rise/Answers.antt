-- All of them rise.
use Rattle.std.proofs.Common.{sym, subst}
use Rattle.std.proofs.lemmas.List.{drop_all}
use Rattle.acc_desk.proofs.Rising.{Rise, rise_once}
use Rattle.acc_desk.proofs.commands.rise.Goals as goal

pub returns : goal.returns
returns c = λ _.
    rise_once c.args.commands.now
    (c.loop-command.invariant (subst (Rise c.loop-command.least) (sym (drop_all c.loop-command.command-index c.args.commands.now c.loop-command-test.false)) tt))

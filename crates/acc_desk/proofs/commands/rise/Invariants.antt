-- Where the rest rises from here on, all of them rise.
use Rattle.std.proofs.Common.{drop}
use Rattle.acc_desk.proofs.Rising.{Rise}
use Rattle.acc_desk.proofs.commands.rise.Given as goal

abbrev pub invariant-loop-command : goal.invariant-loop-command
invariant-loop-command l = Rise l.least (drop l.command-index l.commands) → Rise 0 l.commands

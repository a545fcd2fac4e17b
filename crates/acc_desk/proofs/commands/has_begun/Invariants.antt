use Rattle.std.proofs.Common.{◌≡◌, drop}
use Rattle.std.specs.List.{list_any}
use Rattle.acc_desk.specs.Commands.{begins_it}
use Rattle.acc_desk.proofs.commands.has_begun.Given as goal

abbrev pub invariant-loop-command : goal.invariant-loop-command
invariant-loop-command l = list_any (begins_it l.txn) l.commands ≡ list_any (begins_it l.txn) (drop l.command-index l.commands)

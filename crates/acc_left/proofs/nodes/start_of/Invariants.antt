-- No node before this place is the one.
use Rattle.std.proofs.Common.{◌≡◌, drop}
use Rattle.acc_message.specs.Run.{clock_start}
use Rattle.acc_left.proofs.nodes.start_of.Given as goal

abbrev pub invariant-loop-spec : goal.invariant-loop-spec
invariant-loop-spec l = clock_start l.starts l.node ≡ clock_start (drop l.spec-index l.starts) l.node

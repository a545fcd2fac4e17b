use Rattle.std.proofs.Common.{◌≡◌, filter}
use Rattle.std.specs.List.{range_with_len}
use Rattle.acc_topology.specs.Sets.{in_set}
use Rattle.acc_cluster.proofs.opening.numbers_of.Given as goal

abbrev pub invariant-loop-number : goal.invariant-loop-number
invariant-loop-number l = l.numbers.items ≡ filter (in_set l.set) (range_with_len 0 l.number)

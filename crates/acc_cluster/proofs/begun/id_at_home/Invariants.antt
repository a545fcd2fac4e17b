-- The nodes so far are others.
use Rattle.std.proofs.Common.{◌≡◌, drop}
use Rattle.acc_topology.specs.Sets.{is_among}
use Rattle.acc_cluster.proofs.begun.id_at_home.Given as goal

abbrev pub invariant-loop-place : goal.invariant-loop-place
invariant-loop-place g l = is_among l.numbers l.home ≡ is_among (drop l.place l.numbers) l.home

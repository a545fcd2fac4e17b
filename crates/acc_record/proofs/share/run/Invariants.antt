-- The keys so far all lie in the shard, or all don't.
use Rattle.std.proofs.Common.{◌≡◌, ◌≤◌, ◌-◌, cond, [], length, take}
use Rattle.acc_topology.specs.Keys.{share_of}
use Rattle.acc_record.proofs.share.run.Given as goal

abbrev pub invariant-loop-place : goal.invariant-loop-place
invariant-loop-place l = (l.place ≤ length l.pairs) × (share_of l.topology (take l.place l.pairs) l.shard ≡ cond l.lies (take l.place l.pairs) [])

abbrev pub decreases-loop-place : goal.decreases-loop-place
decreases-loop-place l = length l.pairs - l.place

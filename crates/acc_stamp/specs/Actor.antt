-- Nodes and stores, by their numbers.
use Rattle.std.specs.Prelude.{ℕ, ◌+◌, ◌*◌, ◌/◌, ◌%◌, ◌==◌, Bool, if◌then◌else◌}
use Rattle.std.specs.declared.cmp.Ordering.{Ordering}
use Rattle.std.specs.Ordering.{nat_cmp}
use Rattle.acc_stamp.specs.declared.stamps.Stamp.{Stamp}
use Rattle.acc_stamp.specs.declared.stamps.TxnId.{TxnId}
use Rattle.acc_stamp.specs.declared.stamps.Ballot.{Ballot}
use Rattle.acc_stamp.specs.declared.actors.Actor.{Actor}
use Rattle.acc_stamp.specs.Stamp.{ballot_eq, zero_ballot}

-- the store of a shard at a node, and for shard 0 the node itself
abbrev pub actor_of : ℕ → ℕ → Actor
actor_of node shard = record { 0 = node * 64 + shard }

abbrev pub node_of : Actor → ℕ
node_of a = a.0 / 64

abbrev pub shard_of : Actor → ℕ
shard_of a = a.0 % 64

-- the node whose clock or store drew a stamp
abbrev pub node_of_stamp : Stamp → ℕ
node_of_stamp s = s.origin / 64

-- the node that runs the attempt of a ballot at a transaction
abbrev pub home_of : TxnId → Ballot → Actor
home_of id ballot = actor_of (if ballot_eq ballot zero_ballot then node_of_stamp id.0 else node_of_stamp ballot.0) 0

-- actors, ordered as their numbers
abbrev pub actor_cmp : Actor → Actor → Ordering
actor_cmp a b = nat_cmp a.0 b.0

abbrev pub actor_eq : Actor → Actor → Bool
actor_eq a b = a.0 == b.0

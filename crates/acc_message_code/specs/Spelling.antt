-- The spelling of stamps, dependencies, and what a store keeps of a transaction.
use Rattle.std.specs.Prelude.{ℕ, Bool, List, ◌++◌, length, Option, Some, None, if◌then◌else◌}
use Rattle.std.specs.List.{flat_map}
use Rattle.acc_wire.specs.Spelling.{u8_bytes, u16_bytes, u32_bytes, u64_bytes}
use Rattle.acc_stamp.specs.declared.stamps.Stamp.{Stamp}
use Rattle.acc_stamp.specs.declared.stamps.TxnId.{TxnId}
use Rattle.acc_stamp.specs.declared.stamps.Ballot.{Ballot}
use Rattle.acc_stamp.specs.declared.actors.Actor.{Actor}
use Rattle.acc_deps.specs.declared.shards.ShardDeps.{ShardDeps}
use Rattle.acc_deps.specs.declared.records.Accepted.{Accepted}
use Rattle.acc_deps.specs.declared.records.Settled.{Settled}
use Rattle.acc_deps.specs.declared.records.View.{View}
use Rattle.acc_code.specs.Spelling.{listed}

unfoldable pub actor_bytes : Actor → List ℕ
actor_bytes actor = u16_bytes actor.0

unfoldable pub stamp_bytes : Stamp → List ℕ
stamp_bytes stamp = u64_bytes stamp.h ++ u32_bytes stamp.origin

abbrev pub id_bytes : TxnId → List ℕ
id_bytes id = stamp_bytes id.0

abbrev pub ballot_bytes : Ballot → List ℕ
ballot_bytes ballot = stamp_bytes ballot.0

-- transactions are a count in two bytes, and their ids
unfoldable pub ids_bytes : List TxnId → List ℕ
ids_bytes ids = u16_bytes (length ids) ++ flat_map id_bytes ids

unfoldable pub shard_bytes : ShardDeps → List ℕ
shard_bytes d = u8_bytes d.shard ++ ids_bytes d.ids

unfoldable pub deps_bytes : List ShardDeps → List ℕ
deps_bytes deps = listed shard_bytes deps

unfoldable pub settled_bytes : Settled → List ℕ
settled_bytes s = stamp_bytes s.t ++ deps_bytes s.deps

unfoldable pub accepted_bytes : Accepted → List ℕ
accepted_bytes a = ballot_bytes a.ballot ++ stamp_bytes a.t ++ deps_bytes a.deps

-- what may be missing is 0, or 1 and the value
unfoldable pub optional : {A : Type 0} → (A → List ℕ) → Option A → List ℕ
optional spelling None = u8_bytes 0
optional spelling (Some x) = u8_bytes 1 ++ spelling x

unfoldable pub flag_bytes : Bool → List ℕ
flag_bytes flag = u8_bytes (if flag then 1 else 0)

unfoldable pub view_bytes : View → List ℕ
view_bytes v =
    actor_bytes v.store ++ stamp_bytes v.vote ++ deps_bytes v.vote_deps ++ optional accepted_bytes v.accepted ++ optional accepted_bytes v.committed
    ++ optional settled_bytes v.stable ++ flag_bytes v.superseded ++ ids_bytes v.waits

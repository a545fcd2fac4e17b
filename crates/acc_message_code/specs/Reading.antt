-- Reading stamps, dependencies, and what a store keeps of a transaction.
use Rattle.std.specs.Prelude.{ℕ, zero, suc, Bool, ◌==◌, nat_le, nat_lt, List, [], Option, Some, None, Ok}
use Rattle.std.specs.List.{list_all}
use Rattle.acc_wire.specs.Reading.{Unread, Read, ◌>>=◌, u16_at, u32_at, u64_at}
use Rattle.acc_stamp.specs.declared.stamps.Stamp.{Stamp}
use Rattle.acc_stamp.specs.declared.stamps.TxnId.{TxnId}
use Rattle.acc_stamp.specs.declared.stamps.Ballot.{Ballot}
use Rattle.acc_stamp.specs.declared.actors.Actor.{Actor}
use Rattle.acc_deps.specs.declared.shards.ShardDeps.{ShardDeps}
use Rattle.acc_deps.specs.declared.records.Accepted.{Accepted}
use Rattle.acc_deps.specs.declared.records.Settled.{Settled}
use Rattle.acc_deps.specs.declared.records.View.{View}
use Rattle.acc_stamp.specs.Stamp.{id_lt}
use Rattle.acc_code.specs.Reading.{passing, between_at, each_at, listed_at}

unfoldable pub actor_at : Unread → Read Actor
actor_at u = do
  number ← u16_at u
  Ok (record { 0 = number.0 }, number.1)

unfoldable pub stamp_at : Unread → Read Stamp
stamp_at u = do
  h ← u64_at u
  origin ← u32_at h.1
  Ok (record { h = h.0; origin = origin.0 }, origin.1)

unfoldable pub id_at : Unread → Read TxnId
id_at u = do
  stamp ← stamp_at u
  Ok (record { 0 = stamp.0 }, stamp.1)

unfoldable pub ballot_at : Unread → Read Ballot
ballot_at u = do
  stamp ← stamp_at u
  Ok (record { 0 = stamp.0 }, stamp.1)

-- ---- dependencies

-- a transaction that is greater than those before it
unfoldable pub next_id_at : List TxnId → Unread → Read TxnId
next_id_at front u = passing (λ id. list_all (λ y. id_lt y id) front) id_at u

-- at least so many transactions, which rise
unfoldable pub ids_at : ℕ → Unread → Read (List TxnId)
ids_at least u = do
  n ← passing (λ n. nat_le least n) u16_at u
  each_at next_id_at n.0 [] n.1

-- a shard that is greater than those before it
unfoldable pub next_shard_at : List ShardDeps → Unread → Read ℕ
next_shard_at front u = passing (λ shard. list_all (λ d. nat_lt d.shard shard) front) (between_at 1 15) u

unfoldable pub shard_at : List ShardDeps → Unread → Read ShardDeps
shard_at front u = do
  shard ← next_shard_at front u
  ids ← ids_at 1 shard.1
  Ok (record { shard = shard.0; ids = ids.0 }, ids.1)

unfoldable pub deps_at : Unread → Read (List ShardDeps)
deps_at u = listed_at 0 15 shard_at u

-- ---- what a store keeps

unfoldable pub settled_at : Unread → Read Settled
settled_at u = do
  t ← stamp_at u
  deps ← deps_at t.1
  Ok (record { t = t.0; deps = deps.0 }, deps.1)

unfoldable pub accepted_at : Unread → Read Accepted
accepted_at u = do
  ballot ← ballot_at u
  settled ← settled_at ballot.1
  Ok (record { ballot = ballot.0; t = settled.0.t; deps = settled.0.deps }, settled.1)

abbrev pub optional_behind : {A : Type 0} → (Unread → Read A) → ℕ → Unread → Read (Option A)
optional_behind at zero u = Ok (None, u)
optional_behind at (suc _) u = do
  value ← at u
  Ok (Some value.0, value.1)

unfoldable pub optional_at : {A : Type 0} → (Unread → Read A) → Unread → Read (Option A)
optional_at at u = do
  tag ← between_at 0 1 u
  optional_behind at tag.0 tag.1

unfoldable pub flag_at : Unread → Read Bool
flag_at u = do
  number ← between_at 0 1 u
  Ok (number.0 == 1, number.1)

-- the vote of a store
unfoldable pub voted_at : Unread → Read (Actor × Settled)
voted_at u = do
  store ← actor_at u
  vote ← settled_at store.1
  Ok ((store.0, vote.0), vote.1)

unfoldable pub view_at : Unread → Read View
view_at u = do
  voted ← voted_at u
  accepted ← optional_at accepted_at voted.1
  committed ← optional_at accepted_at accepted.1
  stable ← optional_at settled_at committed.1
  superseded ← flag_at stable.1
  waits ← ids_at 0 superseded.1
  Ok (
    record {
      store = voted.0.0;
      vote = voted.0.1.t;
      vote_deps = voted.0.1.deps;
      accepted = accepted.0;
      committed = committed.0;
      stable = stable.0;
      superseded = superseded.0;
      waits = waits.0;
    },
    waits.1,
  )

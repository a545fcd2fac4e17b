-- Evidence: what a store reveals of a transaction to a recovery.
use Rattle.std.specs.Prelude.{ℕ, Bool, false, not, ◌&&◌, ◌||◌, List, [], Option, None, Some, is_none, map, filter}
use Rattle.std.specs.List.{list_any}
use Rattle.acc_stamp.specs.declared.stamps.TxnId.{TxnId}
use Rattle.acc_stamp.specs.declared.actors.Actor.{Actor}
use Rattle.acc_stamp.specs.Actor.{shard_of}
use Rattle.acc_stamp.specs.Stamp.{stamp_lt, id_lt}
use Rattle.acc_stamp.specs.Rising.{ids_union}
use Rattle.acc_topology.specs.Layout.{Layout}
use Rattle.acc_deps.specs.Deps.{deps_has}
use Rattle.acc_deps.specs.declared.records.Accepted.{Accepted}
use Rattle.acc_deps.specs.declared.records.Settled.{Settled}
use Rattle.acc_deps.specs.declared.records.View.{View}
use Rattle.acc_txn.specs.declared.parts.BodyParts.{BodyParts}
use Rattle.acc_message.specs.Taken.{Taken, Heard, rivals}
use Rattle.acc_message.specs.VoteRule.{Vote, vote_for}
use Rattle.acc_message.specs.BallotRules.{accepted_of, committed_of, stable_of}

-- y has an accepted record without x, and is younger than x
abbrev pub accepted_without : ℕ → TxnId → TxnId → Option Accepted → Bool
accepted_without shard x y None = false
accepted_without shard x y (Some a) = id_lt x y && not (deps_has a.deps shard x)

-- y is stable without x, at a timestamp above that of x
abbrev pub stable_without : ℕ → TxnId → Option Settled → Bool
stable_without shard x None = false
stable_without shard x (Some s) = stamp_lt x.0 s.t && not (deps_has s.deps shard x)

-- y rules out that x was decided at its own timestamp
abbrev pub supersedes : ℕ → List Taken → TxnId → TxnId → Bool
supersedes shard history x y =
    accepted_without shard x y (accepted_of history y) || stable_without shard x (stable_of history y)

abbrev pub superseded : Layout → Actor → List Taken → List Taken → TxnId → BodyParts → Bool
superseded layout own past now x body =
    list_any (λ (k : Heard). supersedes (shard_of own) past x k.id) (rivals layout (shard_of own) now x body)

-- y is older than x and was accepted at a timestamp above that of x
abbrev pub accepted_above : TxnId → TxnId → Option Accepted → Bool
accepted_above x y None = false
accepted_above x y (Some a) = id_lt y x && stamp_lt x.0 a.t

-- such a one keeps a recovery of x waiting until it is stable
abbrev pub is_awaited : List Taken → TxnId → TxnId → Bool
is_awaited history x y = accepted_above x y (accepted_of history y) && is_none (stable_of history y)

abbrev pub awaited : Layout → Actor → List Taken → List Taken → TxnId → BodyParts → List TxnId
awaited layout own past now x body =
    ids_union [] (map (λ (k : Heard). k.id)
    (filter (λ (k : Heard). is_awaited past x k.id) (rivals layout (shard_of own) now x body)))

-- what a Recover of x reveals: the records are those of the past, and the conflicting transactions those that are known with
-- the Recover itself
abbrev pub view_of : Layout → Actor → List Taken → List Taken → TxnId → BodyParts → View
view_of layout own past now x body =
    let given : Vote = vote_for layout own past now x body in
    record {
      store = own;
      vote = given.vote;
      vote_deps = given.deps;
      accepted = accepted_of past x;
      committed = committed_of past x;
      stable = stable_of past x;
      superseded = superseded layout own past now x body;
      waits = awaited layout own past now x body;
    }

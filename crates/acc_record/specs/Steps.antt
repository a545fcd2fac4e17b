-- Quiet steps: what a step changes on a shelf when its message opens nothing.
use Rattle.std.specs.Prelude.{◌≡◌, ◌≢◌, ℕ, max, List, [], ◌∷◌, ◌++◌, Option, None, Some, false, Contains, IsTrue, ◌⊎◌}
use Rattle.std.specs.Option.{option_map}
use Rattle.acc_base.specs.Faults.{or_else}
use Rattle.acc_stamp.specs.declared.stamps.Stamp.{Stamp}
use Rattle.acc_stamp.specs.declared.stamps.TxnId.{TxnId}
use Rattle.acc_stamp.specs.Stamp.{zero_ballot, stamp_le}
use Rattle.acc_stamp.specs.Actor.{shard_of}
use Rattle.acc_topology.specs.Layout.{Layout}
use Rattle.acc_topology.specs.Keys.{share_of}
use Rattle.acc_deps.specs.declared.shards.ShardDeps.{ShardDeps}
use Rattle.acc_deps.specs.declared.records.Accepted.{Accepted}
use Rattle.acc_deps.specs.declared.records.Settled.{Settled}
use Rattle.acc_value.specs.declared.key.Key.{Key}
use Rattle.acc_txn.specs.declared.parts.BodyParts.{BodyParts}
use Rattle.acc_txn.specs.Uses.{footprint_of}
use Rattle.acc_index.specs.Noted.{Noted}
use Rattle.acc_message.specs.declared.message.Message.{Message}
use Rattle.acc_message.specs.Fields.{id_of, top_of}
use Rattle.acc_message.specs.Taken.{body_in}
use Rattle.acc_message.specs.VoteRule.{Vote, first_vote, times_in, greatest_drawn}
use Rattle.acc_message.specs.BallotRules.{greater_ballot, granted_by, accepted_by, committed_by}
use Rattle.acc_record.specs.declared.record.Record.{Record}
use Rattle.acc_record.specs.declared.shelf.Shelf.{Shelf}
use Rattle.acc_record.specs.Shelf.{record_at, cell_at, watchers}
use Rattle.acc_record.specs.Stands.{stamp_of_vote, noted_as, IsCovered}

-- ---- the record

-- the record of a transaction of which nothing but the body is known
abbrev pub fresh : TxnId → BodyParts → Record
fresh x body =
    record {
      id = x;
      body = body;
      vote = None;
      vote_deps = [];
      promised = zero_ballot;
      accepted = None;
      committed = None;
      stable = None;
      waiters = [];
      opened = false;
      outcome = None;
      applied = false;
    }

-- the record with which a step begins: the one that is there, or else a fresh one for the body that the message brings
abbrev pub record_from : Option Record → TxnId → Option BodyParts → Option Record
record_from None x body = option_map (fresh x) body
record_from (Some r) x body = Some r

-- the dependencies that go with a vote: those of a vote that is given first, and else those that are there
abbrev pub deps_kept : Option Stamp → List ShardDeps → Option Vote → List ShardDeps
deps_kept (Some vote) kept given = kept
deps_kept None kept None = kept
deps_kept None kept (Some v) = v.deps

-- what a step makes of the record of its transaction: it keeps the earlier vote, raises the promise to a ballot that it
-- grants, and puts what it accepts or commits in place of what was there
abbrev pub record_after : Record → Message → List Message → Record
record_after r m sent =
    record {
      id = r.id;
      body = r.body;
      vote = or_else r.vote (stamp_of_vote (first_vote (id_of m) sent));
      vote_deps = deps_kept r.vote r.vote_deps (first_vote (id_of m) sent);
      promised = greater_ballot r.promised (granted_by (id_of m) m sent);
      accepted = or_else (accepted_by (id_of m) m sent) r.accepted;
      committed = or_else (committed_by (id_of m) m sent) r.committed;
      stable = r.stable;
      waiters = r.waiters;
      opened = r.opened;
      outcome = r.outcome;
      applied = r.applied;
    }

-- ---- the index

abbrev pub stamps_in : Option Stamp → List Stamp
stamps_in None = []
stamps_in (Some stamp) = stamp ∷ []

abbrev pub time_accepted : Option Accepted → List Stamp
time_accepted None = []
time_accepted (Some a) = a.t ∷ []

abbrev pub time_settled : Option Settled → List Stamp
time_settled None = []
time_settled (Some s) = s.t ∷ []

-- the stamps of which a step tells, where its transaction has this record afterwards: the transaction's own, those that the
-- message brings, and the vote
abbrev pub stamps_told : Record → Message → List Stamp
stamps_told r m = (id_of m).0 ∷ times_in (id_of m) m ++ stamps_in r.vote

-- the stamps that the record of a transaction shows
abbrev pub stamps_shown : TxnId → Option Record → List Stamp
stamps_shown x None = []
stamps_shown x (Some r) =
    x.0 ∷ stamps_in r.vote ++ time_accepted r.accepted ++ time_accepted r.committed ++ time_settled r.stable

-- What is noted by a step is what it tells. Of what it tells, a stamp stands after a greater one that is noted, or after one
-- that the record showed before the step, which was noted earlier.
pub record NotesTold (layout : Layout) (shard : ℕ) (m : Message) (before : Option Record) (r : Record) (old new : List Noted) : Type 0 where
  pub kept : (n : Noted) → Contains old n → Contains new n
  pub only :
      (n : Noted) → Contains new n
      → Contains old n ⊎ ((stamp : Stamp) × Contains (stamps_told r m) stamp × (n ≡ noted_as layout shard (id_of m) r.body stamp))
  pub told :
      (stamp : Stamp) → Contains (stamps_told r m) stamp
      → IsCovered new (id_of m) (share_of layout (footprint_of r.body) shard) stamp
      ⊎ ((shown : Stamp) × Contains (stamps_shown (id_of m) before) shown × IsTrue (stamp_le stamp shown))

-- ---- the shelf

-- The step changes the record of its transaction as said, notes what it tells, and raises the greatest h to the message's and
-- to that of a vote that it drew. Every other record, the cells and who waits for whom stay.
pub record QuietStep (layout : Layout) (old new : Shelf) (m : Message) (sent : List Message) : Type 0 where
  pub actor : new.actor ≡ old.actor
  pub begins : Record
  pub from : record_from (record_at old.records (id_of m)) (id_of m) (body_in m) ≡ Some begins
  pub after : record_at new.records (id_of m) ≡ Some (record_after begins m sent)
  pub others : (y : TxnId) → y ≢ id_of m → record_at new.records y ≡ record_at old.records y
  pub notes :
      NotesTold layout (shard_of old.actor) m (record_at old.records (id_of m)) (record_after begins m sent) old.index new.index
  pub cells : (key : Key) → cell_at new.cells key ≡ cell_at old.cells key
  pub waits : (y : TxnId) → watchers new.waits y ≡ watchers old.waits y
  pub greatest : new.greatest ≡ max (max (top_of m) (greatest_drawn old.actor.0 sent)) old.greatest

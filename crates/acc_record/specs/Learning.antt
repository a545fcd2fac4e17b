-- What a shelf answers of a transaction, and what learning of it changes, entry by entry.
--     vote_at shelf x share top      the vote that is given for it
--     deps_below shelf x share bound      the known conflicting transactions below a bound, as dependencies
--     share_at layout shelf x body      the keys of the shard that it uses
--     IsLearnt old new x body share stamp top      the shelf knows the transaction, a stamp of it and a greatest h
use Rattle.std.specs.Prelude.{◌≡◌, ℕ, ◌+◌, max, Bool, false, cond, ◌||◌, List, [], ◌∷◌, ◌++◌, Option, None, Some}
use Rattle.std.specs.List.{list_all}
use Rattle.acc_stamp.specs.declared.stamps.Stamp.{Stamp}
use Rattle.acc_stamp.specs.declared.stamps.TxnId.{TxnId}
use Rattle.acc_stamp.specs.Actor.{shard_of}
use Rattle.acc_stamp.specs.Stamp.{stamp_lt, stamp_le, id_eq}
use Rattle.acc_deps.specs.declared.shards.ShardDeps.{ShardDeps}
use Rattle.acc_deps.specs.declared.records.Accepted.{Accepted}
use Rattle.acc_deps.specs.declared.records.Settled.{Settled}
use Rattle.acc_deps.specs.Deps.{deps_of}
use Rattle.acc_topology.specs.Layout.{Layout}
use Rattle.acc_topology.specs.Keys.{share_of}
use Rattle.acc_value.specs.declared.key.Key.{Key}
use Rattle.acc_txn.specs.declared.parts.BodyParts.{BodyParts}
use Rattle.acc_txn.specs.Uses.{footprint_of}
use Rattle.acc_index.specs.Noted.{Noted, rival_stamps, rival_ids_below}
use Rattle.acc_record.specs.declared.learn.NotedStamp.{NotedStamp}
use Rattle.acc_record.specs.declared.record.Record.{Record}
use Rattle.acc_record.specs.declared.vote.Vote.{Vote}
use Rattle.acc_record.specs.declared.shelf.Shelf.{Shelf}
use Rattle.acc_record.specs.Shelf.{record_at}
use Rattle.acc_record.specs.Steps.{fresh}

-- ---- votes

abbrev pub vote_with : Option Stamp → List ShardDeps → Option Vote
vote_with None deps = None
vote_with (Some stamp) deps = Some (record { stamp = stamp; deps = deps })

-- the vote that was given before
abbrev pub earlier_vote : Option Record → Option Vote
earlier_vote None = None
earlier_vote (Some r) = vote_with r.vote r.vote_deps

-- the transaction's own stamp, where every noted stamp of a rival is smaller, else one above all that the store saw, the
-- message that asks for the vote included
abbrev pub stamp_at : Shelf → TxnId → List (Key × Bool) → ℕ → Stamp
stamp_at shelf x share top =
    cond (list_all (λ s. stamp_lt s x.0) (rival_stamps shelf.index x share))
    x.0
    (record { h = 1 + max top shelf.greatest; origin = shelf.actor.0 })

abbrev pub deps_below : Shelf → TxnId → List (Key × Bool) → Stamp → List ShardDeps
deps_below shelf x share bound = deps_of (shard_of shelf.actor) (rival_ids_below shelf.index x share bound)

abbrev pub new_vote_at : Shelf → TxnId → List (Key × Bool) → ℕ → Vote
new_vote_at shelf x share top = record { stamp = stamp_at shelf x share top; deps = deps_below shelf x share x.0 }

abbrev pub given : Option Vote → Vote → Vote
given None made = made
given (Some earlier) made = earlier

abbrev pub vote_at : Shelf → TxnId → List (Key × Bool) → ℕ → Vote
vote_at shelf x share top = given (earlier_vote (record_at shelf.records x)) (new_vote_at shelf x share top)

-- ---- bodies

-- the body that counts: the one that was heard first
abbrev pub body_of : Option Record → BodyParts → BodyParts
body_of None body = body
body_of (Some r) body = r.body

-- the keys of the shelf's shard that the body uses which counts
abbrev pub share_at : Layout → Shelf → TxnId → BodyParts → List (Key × Bool)
share_at layout shelf x body = share_of layout (footprint_of (body_of (record_at shelf.records x) body)) (shard_of shelf.actor)

-- ---- records

-- the record with which a step begins
abbrev pub known_or_fresh : Option Record → TxnId → BodyParts → Record
known_or_fresh None x body = fresh x body
known_or_fresh (Some r) x body = r

-- ---- what is noted

-- the greater of two stamps, the second of which may be missing
abbrev pub later_of : Stamp → Option Stamp → Stamp
later_of s None = s
later_of s (Some t) = cond (stamp_lt t s) s t

abbrev pub is_below_accepted : Stamp → Option Accepted → Bool
is_below_accepted s None = false
is_below_accepted s (Some a) = stamp_le s a.t

abbrev pub is_below_settled : Stamp → Option Settled → Bool
is_below_settled s None = false
is_below_settled s (Some a) = stamp_le s a.t

-- a stamp that the record of a transaction shows is as great
abbrev pub is_covered_by : TxnId → Record → Stamp → Bool
is_covered_by x r s =
    stamp_le s (later_of x.0 r.vote) || is_below_accepted s r.accepted || is_below_accepted s r.committed || is_below_settled s r.stable

-- the stamp to be noted: the greater one of a new transaction's own and of that which the step brings, and of a known one's
-- the latter where its record has none as great
abbrev pub stamp_to_note : Option Record → TxnId → Option Stamp → Option Stamp
stamp_to_note None x stamp = Some (later_of x.0 stamp)
stamp_to_note (Some r) x None = None
stamp_to_note (Some r) x (Some s) = cond (is_covered_by x r s) None (Some s)

-- the stamp, with the keys of the shard that the transaction uses
abbrev pub note_of : List (Key × Bool) → Option Stamp → Option NotedStamp
note_of share None = None
note_of share (Some s) = Some (record { share = share; stamp = s })

abbrev pub notes_of : TxnId → Option NotedStamp → List Noted
notes_of x None = []
notes_of x (Some n) = record { id = x; share = n.share; stamp = n.stamp } ∷ []

abbrev pub notes_with : TxnId → List (Key × Bool) → Option Stamp → List Noted
notes_with x share stamp = notes_of x (note_of share stamp)

-- ---- learning

pub record IsLearnt (old new : Shelf) (x : TxnId) (body : BodyParts) (share : List (Key × Bool)) (stamp : Option Stamp) (top : ℕ) : Type 0 where
  pub actor : new.actor ≡ old.actor
  pub records :
      (y : TxnId) → record_at new.records y ≡ cond (id_eq x y) (Some (known_or_fresh (record_at old.records x) x body)) (record_at old.records y)
  pub index : new.index ≡ old.index ++ notes_with x share (stamp_to_note (record_at old.records x) x stamp)
  pub cells : new.cells ≡ old.cells
  pub waits : new.waits ≡ old.waits
  pub greatest : new.greatest ≡ max old.greatest top

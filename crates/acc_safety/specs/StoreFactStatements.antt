-- What the lemmas about one store say. Each speaks of every history in which each step sends what the rules say.
--     VotesOnce, VotesAreMade, VotesDiffer, VotesNameKnown      a store votes once, how, and never twice at one timestamp
--     AcceptsNameKnown      an AcceptOk names the known rivals below the timestamp that it accepts
--     LateVotesAbove      who hears a conflicting transaction later votes for it above what it left
--     AcceptedIsSeen, CommittedIsSeen      a view shows the record of what was accepted or committed before it
use Rattle.std.specs.Prelude.{◌≡◌, true, false, ◌⊎◌, List, ◌∷◌, Option, None, Some}
use Rattle.acc_stamp.specs.declared.stamps.Stamp.{Stamp}
use Rattle.acc_stamp.specs.declared.stamps.TxnId.{TxnId}
use Rattle.acc_stamp.specs.declared.stamps.Ballot.{Ballot}
use Rattle.acc_stamp.specs.declared.actors.Actor.{Actor}
use Rattle.acc_stamp.specs.Actor.{shard_of}
use Rattle.acc_stamp.specs.Stamp.{stamp_lt, ballot_lt}
use Rattle.acc_topology.specs.Layout.{Layout}
use Rattle.acc_deps.specs.declared.shards.ShardDeps.{ShardDeps}
use Rattle.acc_deps.specs.declared.records.Accepted.{Accepted}
use Rattle.acc_deps.specs.declared.records.View.{View}
use Rattle.acc_deps.specs.Deps.{deps_has}
use Rattle.acc_txn.specs.declared.parts.BodyParts.{BodyParts}
use Rattle.acc_message.specs.declared.message.Message.{Message}
use Rattle.acc_message.specs.declared.message.Message.TheVariants.{Accept, AcceptOk, CommitOk, RecoverOk}
use Rattle.acc_message.specs.Fields.{id_of}
use Rattle.acc_message.specs.Shares.{conflict_in}
use Rattle.acc_message.specs.Taken.{Taken, taking, body_known}
use Rattle.acc_message.specs.VoteRule.{Vote, vote_in, vote_of, stamps_of, new_vote}
use Rattle.acc_safety.specs.Places.{IsIn, StandsAt}
use Rattle.acc_safety.specs.Histories.{EachAnswers}

-- a fact of every history of every store
abbrev pub OfEachStore : (Layout → Actor → List Taken → Type 0) → Type 0
OfEachStore Fact = (layout : Layout) (own : Actor) (history : List Taken) → EachAnswers layout own history → Fact layout own history

-- ---- votes

-- each answer with a vote has the one vote of its store
abbrev pub VotesOnce : Layout → Actor → List Taken → Type 0
VotesOnce layout own history =
    (step : Taken) (past : List Taken) (m : Message) (x : TxnId) (v : Vote) → StandsAt step past history → IsIn m step.sent
    → vote_in x m ≡ Some v → vote_of history x ≡ Some v

-- a vote was made in some step for its transaction, by the body that the store heard first, without a vote before
pub record VoteMade (layout : Layout) (own : Actor) (history : List Taken) (x : TxnId) (v : Vote) : Type 0 where
  pub step : Taken
  pub past : List Taken
  pub at : StandsAt step past history
  pub unvoted : vote_of past x ≡ None
  pub about : id_of step.message ≡ x
  pub body : BodyParts
  pub body_is : body_known (step ∷ past) x ≡ Some body
  pub made : v ≡ new_vote layout own (taking step.message past) x body

abbrev pub VotesAreMade : Layout → Actor → List Taken → Type 0
VotesAreMade layout own history = (x : TxnId) (v : Vote) → vote_of history x ≡ Some v → VoteMade layout own history x v

-- a vote is for the transaction's own timestamp, or the store drew it
abbrev pub VotesAreOwnOrDrawn : Layout → Actor → List Taken → Type 0
VotesAreOwnOrDrawn layout own history =
    (x : TxnId) (v : Vote) → vote_of history x ≡ Some v → (v.vote ≡ x.0) ⊎ ((v.vote.origin ≡ own.0) × (stamp_lt x.0 v.vote ≡ true))

-- votes for two transactions differ, where the store's number is no origin of their own timestamps
abbrev pub VotesDiffer : Layout → Actor → List Taken → Type 0
VotesDiffer layout own history =
    (x y : TxnId) (v w : Vote) → vote_of history x ≡ Some v → vote_of history y ≡ Some w
    → (x.0.origin ≡ own.0 → ⊥) → (y.0.origin ≡ own.0 → ⊥) → v.vote ≡ w.vote → x ≡ y

-- ---- what an answer names

-- another transaction that is known there by this body, and conflicts
pub record IsKnownRival (layout : Layout) (own : Actor) (history : List Taken) (y : TxnId) (theirs : BodyParts) (x : TxnId) (body : BodyParts) : Type 0 where
  pub different : y ≡ x → ⊥
  pub known : body_known history y ≡ Some theirs
  pub conflict : conflict_in layout (shard_of own) theirs body ≡ true

-- a vote names each rival of a smaller own timestamp that is known in the step in which the vote was made
abbrev pub VotesNameKnown : Layout → Actor → List Taken → Type 0
VotesNameKnown layout own history =
    (x y : TxnId) (v : Vote) (theirs : BodyParts) (made : VoteMade layout own history x v)
    → IsKnownRival layout own (made.step ∷ made.past) y theirs x made.body → stamp_lt y.0 x.0 ≡ true
    → deps_has v.deps (shard_of own) y ≡ true

-- an AcceptOk names each known rival whose own timestamp is below the one that it accepts
abbrev pub AcceptsNameKnown : Layout → Actor → List Taken → Type 0
AcceptsNameKnown layout own history =
    (step : Taken) (past : List Taken) (from to f g : Actor) (x y : TxnId) (b : Ballot) (sent body theirs : BodyParts) (t : Stamp) (proposed deps : List ShardDeps)
    → StandsAt step past history → step.message ≡ Accept from to x b sent t proposed → IsIn (AcceptOk f g x b deps) step.sent
    → body_known (step ∷ past) x ≡ Some body → IsKnownRival layout own (step ∷ past) y theirs x body → stamp_lt y.0 t ≡ true
    → deps_has deps (shard_of own) y ≡ true

-- ---- late votes

-- Where a step leaves x known with a stamp that isn't below the own timestamp of y, and y isn't known yet, every vote for y is
-- above that stamp if the two conflict by the bodies that the store hears first.
abbrev pub LateVotesAbove : Layout → Actor → List Taken → Type 0
LateVotesAbove layout own history =
    (step : Taken) (past : List Taken) (x y : TxnId) (body theirs : BodyParts) (s : Stamp) (v : Vote)
    → StandsAt step past history → body_known (step ∷ past) x ≡ Some body → body_known (step ∷ past) y ≡ None
    → IsIn s (stamps_of (step ∷ past) x) → stamp_lt s y.0 ≡ false
    → body_known history y ≡ Some theirs → conflict_in layout (shard_of own) body theirs ≡ true
    → vote_of history y ≡ Some v → stamp_lt s v.vote ≡ true

-- ---- records

-- a record with a ballot from b on and below the other
pub record HasBetween (record_of : Option Accepted) (b above : Ballot) : Type 0 where
  pub found : Accepted
  pub found_is : record_of ≡ Some found
  pub from_b : ballot_lt found.ballot b ≡ false
  pub below : ballot_lt found.ballot above ≡ true

-- a store that accepted x at b shows in a view of a greater ballot an accepted record with a ballot from b on
abbrev pub AcceptedIsSeen : Layout → Actor → List Taken → Type 0
AcceptedIsSeen layout own history =
    (step late : Taken) (past before : List Taken) (f g h k : Actor) (x : TxnId) (b above : Ballot) (deps : List ShardDeps) (view : View)
    → StandsAt step past history → IsIn (AcceptOk f g x b deps) step.sent
    → StandsAt late before history → IsIn (RecoverOk h k x above view) late.sent → ballot_lt b above ≡ true
    → HasBetween view.accepted b above

abbrev pub CommittedIsSeen : Layout → Actor → List Taken → Type 0
CommittedIsSeen layout own history =
    (step late : Taken) (past before : List Taken) (f g h k : Actor) (x : TxnId) (b above : Ballot) (view : View)
    → StandsAt step past history → IsIn (CommitOk f g x b) step.sent
    → StandsAt late before history → IsIn (RecoverOk h k x above view) late.sent → ballot_lt b above ≡ true
    → HasBetween view.committed b above

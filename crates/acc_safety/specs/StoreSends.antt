-- What a store with some past sends for a message that it takes: one of seven answers, each with its reason.
use Rattle.std.specs.Prelude.{◌≡◌, ℕ, true, false, List, [], ◌∷◌, ◌++◌, None, Some}
use Rattle.acc_stamp.specs.declared.stamps.Stamp.{Stamp}
use Rattle.acc_stamp.specs.declared.stamps.TxnId.{TxnId}
use Rattle.acc_stamp.specs.declared.stamps.Ballot.{Ballot}
use Rattle.acc_stamp.specs.declared.actors.Actor.{Actor}
use Rattle.acc_stamp.specs.Actor.{shard_of, home_of}
use Rattle.acc_stamp.specs.Stamp.{ballot_lt, zero_ballot}
use Rattle.acc_topology.specs.Layout.{Layout}
use Rattle.acc_deps.specs.declared.shards.ShardDeps.{ShardDeps}
use Rattle.acc_deps.specs.declared.records.Settled.{Settled}
use Rattle.acc_deps.specs.declared.records.View.{View}
use Rattle.acc_txn.specs.declared.parts.BodyParts.{BodyParts}
use Rattle.acc_message.specs.declared.answer.ReadAnswer.{ReadAnswer}
use Rattle.acc_message.specs.declared.message.Message.{Message}
use Rattle.acc_message.specs.declared.message.Message.TheVariants.{PreAccept, PreAcceptOk, Accept, AcceptOk, Commit, CommitOk, Stable, ReadOk, Recover, RecoverOk, Nack, Decided}
use Rattle.acc_message.specs.Fields.{id_of, ballot_of}
use Rattle.acc_message.specs.Taken.{Taken, taking, known, heard_body, body_known}
use Rattle.acc_message.specs.VoteRule.{Vote, vote_for, known_below}
use Rattle.acc_message.specs.BallotRules.{promise_of, stable_of, kept_outcome}
use Rattle.acc_message.specs.Evidence.{view_of}
use Rattle.acc_message.specs.Opening.{Change, changes_of, is_opened, cells_at, written_by_all}
use Rattle.acc_message.specs.StoreRules.{kept_or, read_by, stable_ballots}
use Rattle.acc_safety.specs.Places.{IsIn}

-- the step that takes a message, with nothing sent yet
abbrev pub taking_step : Message → Taken
taking_step m = record { message = m; sent = [] }

-- a change of the step that takes a message, after some of its changes and in front of the others
pub record ChangeAmong (shard : ℕ) (past : List Taken) (m : Message) (c : Change) (before : List Change) : Type 0 where
  pub rest : List Change
  pub changes_are : changes_of shard (taking_step m) past ≡ before ++ c ∷ rest

-- The body in a reason is the one that counts, which the store heard first for the transaction.
pub data StoreSends (layout : Layout) (own : Actor) (past : List Taken) : Message → Message → Type 0 where
  Votes :
      (from to : Actor) (x : TxnId) (b : Ballot) (body counting : BodyParts) (v : Vote)
      → stable_of past x ≡ None → promise_of past x ≡ zero_ballot
      → body_known (taking (PreAccept from to x b body) past) x ≡ Some counting
      → v ≡ vote_for layout own past (taking (PreAccept from to x b body) past) x counting
      → StoreSends layout own past (PreAccept from to x b body) (PreAcceptOk own (home_of x b) x b v.vote v.deps)
  Accepts :
      (from to : Actor) (x : TxnId) (b : Ballot) (body counting : BodyParts) (t : Stamp) (proposed deps : List ShardDeps)
      → stable_of past x ≡ None → ballot_lt b (promise_of past x) ≡ false
      → body_known (taking (Accept from to x b body t proposed) past) x ≡ Some counting
      → deps ≡ known_below layout own (taking (Accept from to x b body t proposed) past) x counting t
      → StoreSends layout own past (Accept from to x b body t proposed) (AcceptOk own (home_of x b) x b deps)
  Commits :
      (from to : Actor) (x : TxnId) (b : Ballot) (body : BodyParts) (t : Stamp) (deps : List ShardDeps)
      → stable_of past x ≡ None → ballot_lt b (promise_of past x) ≡ false
      → StoreSends layout own past (Commit from to x b body t deps) (CommitOk own (home_of x b) x b)
  Reveals :
      (from to : Actor) (x : TxnId) (b : Ballot) (body counting : BodyParts) (view : View)
      → ballot_lt (promise_of past x) b ≡ true
      → body_known (taking (Recover from to x b body) past) x ≡ Some counting
      → view ≡ view_of layout own past (taking (Recover from to x b body) past) x counting
      → StoreSends layout own past (Recover from to x b body) (RecoverOk own (home_of x b) x b view)
  -- the kept outcome, or the present cells, of a transaction that is opened already
  ReadsAtOnce :
      (from to : Actor) (x : TxnId) (b : Ballot) (body : BodyParts) (t : Stamp) (deps : List ShardDeps) (answer : ReadAnswer)
      → is_opened (shard_of own) past x ≡ true
      → answer
      ≡ kept_or (kept_outcome past x) (read_by layout (shard_of own) (heard_body x (known past)) (cells_at layout (shard_of own) past))
      → StoreSends layout own past (Stable from to x b body t deps) (ReadOk own (home_of x b) x b answer)
  -- the cells in front of its own writes, of one that this step opens
  ReadsOnOpening :
      (m : Message) (c : Change) (b : Ballot) (answer : ReadAnswer) (before : List Change)
      → ChangeAmong (shard_of own) past m c before → c.opens ≡ true → IsIn b (stable_ballots (taking m past) c.id)
      → answer
      ≡ read_by layout (shard_of own) (heard_body c.id (known (taking m past)))
      (written_by_all layout (shard_of own) (taking m past) before (cells_at layout (shard_of own) past))
      → StoreSends layout own past m (ReadOk own (home_of c.id b) c.id b answer)
  Refuses :
      (m : Message) (promised : Ballot) → promised ≡ promise_of past (id_of m)
      → StoreSends layout own past m (Nack own (home_of (id_of m) (ballot_of m)) (id_of m) (ballot_of m) promised)
  Tells :
      (m : Message) (s : Settled) → stable_of past (id_of m) ≡ Some s
      → StoreSends layout own past m (Decided own (home_of (id_of m) (ballot_of m)) (id_of m) (ballot_of m) s.t s.deps)

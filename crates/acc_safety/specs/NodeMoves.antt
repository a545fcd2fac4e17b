-- How an attempt at a transaction moves, each move with its reason, and what a node sends.
use Rattle.std.specs.Prelude.{◌≡◌, ℕ, true, false, ◌||◌, ◌⊎◌, List, [], Option, None, Some}
use Rattle.std.specs.List.{list_any}
use Rattle.acc_stamp.specs.declared.stamps.Stamp.{Stamp}
use Rattle.acc_stamp.specs.declared.stamps.TxnId.{TxnId}
use Rattle.acc_stamp.specs.declared.stamps.Ballot.{Ballot}
use Rattle.acc_stamp.specs.declared.actors.Actor.{Actor}
use Rattle.acc_stamp.specs.Actor.{actor_of}
use Rattle.acc_stamp.specs.Stamp.{ballot_lt, ballot_eq, zero_ballot}
use Rattle.acc_topology.specs.Layout.{Layout}
use Rattle.acc_deps.specs.declared.shards.ShardDeps.{ShardDeps}
use Rattle.acc_deps.specs.declared.records.Settled.{Settled}
use Rattle.acc_deps.specs.declared.records.View.{View}
use Rattle.acc_deps.specs.Records.{Stably, stably_all, least_stably, Claim, claims_of, highest_claim, waits_of}
use Rattle.acc_txn.specs.declared.parts.BodyParts.{BodyParts}
use Rattle.acc_txn.specs.declared.outcome.Outcome.{Outcome}
use Rattle.acc_message.specs.declared.message.Message.{Message}
use Rattle.acc_message.specs.declared.message.Message.TheVariants.{PreAccept, Accept, Commit, Stable, Apply, Recover, Nack, Decided, Inform}
use Rattle.acc_message.specs.declared.note.Path.{Path}
use Rattle.acc_message.specs.declared.note.Path.TheVariants.{Fast, Adopted}
use Rattle.acc_message.specs.declared.note.Note.{Note}
use Rattle.acc_message.specs.declared.note.Note.TheVariants.{Begin as BeginNote, Recover as RecoverNote, Blocked, Ended, Decide as DecideNote, Outcome as OutcomeNote, Reply as ReplyNote}
use Rattle.acc_message.specs.Fields.{id_of, ballot_of}
use Rattle.acc_message.specs.Attempts.{Attempt, Voting, Recovering, Accepting, Committing, Executing, counts, majority_everywhere, fast_everywhere, may_be_fast_everywhere, outcome_from}
use Rattle.acc_message.specs.RecoveryDecision.{views_in}
use Rattle.acc_message.specs.Coordinator.{Reaction, stay, begun, recovering, propose, commit, decide, finish, block, end, own_stamp, highest_vote, agreed, path_of, with_answer, home_node, is_decided, is_past_recover}
use Rattle.acc_message.specs.NodeRules.{Act, Begins, Recovers, Slows, Takes, Restarts, Deed, next_id, next_ballot, is_open, attempt_of, node_emits}
use Rattle.acc_safety.specs.Places.{IsIn}

-- ---- what a recovery with a majority of views does

-- no store has a record
pub record NoRecords (answers : List Message) : Type 0 where
  pub no_stable : least_stably (stably_all (views_in answers)) ≡ None
  pub no_claim : highest_claim (claims_of (views_in answers)) ≡ None

-- x can't have been decided at its own timestamp
abbrev pub IsRuledOut : Layout → TxnId → BodyParts → List Message → Type 0
IsRuledOut layout x body answers =
    (may_be_fast_everywhere layout x body answers ≡ false) ⊎ (list_any (λ (v : View). v.superseded) (views_in answers) ≡ true)

-- x may have been decided at its own timestamp, and there is nothing to wait for
pub record IsFree (layout : Layout) (x : TxnId) (body : BodyParts) (answers : List Message) : Type 0 where
  pub may_be_fast : may_be_fast_everywhere layout x body answers ≡ true
  pub not_superseded : list_any (λ (v : View). v.superseded) (views_in answers) ≡ false
  pub no_waits : waits_of (views_in answers) ≡ []

-- ---- moves

-- what an attempt does: it waits, proposes, commits, decides, has an outcome, or ends, blocked or by a greater ballot
pub data Move : Type 0 where
  Wait : Move
  Propose : Settled → Move
  CommitTo : Settled → Move
  DecideBy : Path → Settled → Move
  FinishWith : Settled → Outcome → Move
  BlockBy : List TxnId → Move
  EndBy : Ballot → Move

-- its reaction then
abbrev pub made : Layout → Actor → TxnId → Attempt → Move → Reaction
made layout own x a Wait = stay a
made layout own x a (Propose s) = propose layout own x a s
made layout own x a (CommitTo s) = commit layout own x a s
made layout own x a (DecideBy path s) = decide layout own x a path s
made layout own x a (FinishWith s outcome) = finish layout own x a s outcome
made layout own x a (BlockBy by) = block x a by
made layout own x a (EndBy by) = end x a by

-- What it does with an answer that counts, which stands among its answers already, or with a slow event.
pub data Moves (layout : Layout) (x : TxnId) (a : Attempt) : Move → Type 0 where
  WaitsForMore : Moves layout x a Wait
  DecidesFast :
      a.phase ≡ Voting → fast_everywhere layout x a.body a.answers ≡ true → Moves layout x a (DecideBy Fast (own_stamp x a))
  SlowsDown :
      a.phase ≡ Voting → majority_everywhere layout x a.body a.answers ≡ true → Moves layout x a (Propose (highest_vote x a))
  AdoptsStable :
      (s : Stably) → a.phase ≡ Recovering → majority_everywhere layout x a.body a.answers ≡ true
      → least_stably (stably_all (views_in a.answers)) ≡ Some s
      → Moves layout x a (DecideBy Adopted s.settled)
  AdoptsCommitted :
      (c : Claim) → a.phase ≡ Recovering → majority_everywhere layout x a.body a.answers ≡ true
      → highest_claim (claims_of (views_in a.answers)) ≡ Some c → c.is_committed ≡ true
      → Moves layout x a (CommitTo c.settled)
  AdoptsAccepted :
      (c : Claim) → a.phase ≡ Recovering → majority_everywhere layout x a.body a.answers ≡ true
      → highest_claim (claims_of (views_in a.answers)) ≡ Some c → c.is_committed ≡ false
      → Moves layout x a (Propose c.settled)
  ProposesGreatest :
      a.phase ≡ Recovering → majority_everywhere layout x a.body a.answers ≡ true → NoRecords a.answers
      → IsRuledOut layout x a.body a.answers
      → Moves layout x a (Propose (highest_vote x a))
  ProposesOwn :
      a.phase ≡ Recovering → majority_everywhere layout x a.body a.answers ≡ true → NoRecords a.answers
      → IsFree layout x a.body a.answers
      → Moves layout x a (Propose (own_stamp x a))
  IsBlocked :
      (by : List TxnId) → a.phase ≡ Recovering → majority_everywhere layout x a.body a.answers ≡ true
      → Moves layout x a (BlockBy by)
  CommitsIt :
      (s : Settled) → a.phase ≡ Accepting s → majority_everywhere layout x a.body a.answers ≡ true
      → Moves layout x a (CommitTo (agreed x s a))
  DecidesCommitted :
      (s : Settled) → a.phase ≡ Committing s → majority_everywhere layout x a.body a.answers ≡ true
      → Moves layout x a (DecideBy (path_of a.ballot) s)
  HasOutcome :
      (s : Settled) (outcome : Outcome) → a.phase ≡ Executing s → outcome_from layout a.body a.answers ≡ Some outcome
      → Moves layout x a (FinishWith s outcome)

-- What it does with a message: the attempt that moves is the one before, or this with the message among its answers.
pub data Hears (layout : Layout) (x : TxnId) (a : Attempt) : Message → Attempt → Move → Type 0 where
  Ignores : (m : Message) → Hears layout x a m a Wait
  Counts :
      (m : Message) (move : Move) → ballot_of m ≡ a.ballot → counts layout a m ≡ true → Moves layout x (with_answer a m) move
      → Hears layout x a m (with_answer a m) move
  IsEnded :
      (from to : Actor) (id : TxnId) (ballot promised : Ballot) → ballot ≡ a.ballot → ballot_lt a.ballot promised ≡ true
      → Hears layout x a (Nack from to id ballot promised) a (EndBy promised)
  TakesOver :
      (from to : Actor) (id : TxnId) (ballot : Ballot) (t : Stamp) (deps : List ShardDeps) → ballot ≡ a.ballot
      → is_decided a.phase ≡ false → (is_past_recover a.phase || ballot_eq a.ballot zero_ballot) ≡ true
      → Hears layout x a (Decided from to id ballot t deps) a (DecideBy Adopted (record { t = t; deps = deps }))

-- ---- what becomes of the attempt at x in a step of a node

-- the attempt at x reacts to the step: the attempt that moves, and its move
pub data Reacts (layout : Layout) (node start : ℕ) (past : List Deed) (x : TxnId) : Act → Attempt → Move → Type 0 where
  ToSlow :
      (a : Attempt) (move : Move) → attempt_of layout node start x past ≡ Some a → Moves layout x a move
      → Reacts layout node start past x (Slows x) a move
  ToMessage :
      (before a : Attempt) (m : Message) (move : Move) → attempt_of layout node start x past ≡ Some before → id_of m ≡ x
      → Hears layout x before m a move
      → Reacts layout node start past x (Takes m) a move

pub data AttemptMoves (layout : Layout) (node start : ℕ) (past : List Deed) (x : TxnId) : Act → Option Attempt → Type 0 where
  -- the step isn't about it, or there is none
  Keeps : (act : Act) → AttemptMoves layout node start past x act (attempt_of layout node start x past)
  BeginsIt :
      (txn : ℕ) (body : BodyParts) → next_id node start past ≡ x
      → AttemptMoves layout node start past x (Begins txn body) (Some (begun body))
  RecoversIt :
      (body : BodyParts)
      → AttemptMoves layout node start past x (Recovers x body) (Some (recovering (next_ballot node start past) body))
  MovesOn :
      (act : Act) (a : Attempt) (move : Move) → Reacts layout node start past x act a move
      → AttemptMoves layout node start past x act (made layout (actor_of node 0) x a move).next
  Forgets : AttemptMoves layout node start past x Restarts None

-- ---- what a node sends, and, with a Stable, which decision it notes in this very step

pub data NodeSends (layout : Layout) (node start : ℕ) (past : List Deed) : Act → Message → Type 0 where
  AsksForVotes :
      (txn : ℕ) (body : BodyParts) (store : Actor)
      → NodeSends layout node start past (Begins txn body) (PreAccept (actor_of node 0) store (next_id node start past) zero_ballot body)
  AsksForViews :
      (x : TxnId) (body : BodyParts) (store : Actor)
      → NodeSends layout node start past (Recovers x body) (Recover (actor_of node 0) store x (next_ballot node start past) body)
  Proposes :
      (act : Act) (x : TxnId) (a : Attempt) (s : Settled) (store : Actor) → Reacts layout node start past x act a (Propose s)
      → NodeSends layout node start past act (Accept (actor_of node 0) store x a.ballot a.body s.t s.deps)
  Commits :
      (act : Act) (x : TxnId) (a : Attempt) (s : Settled) (store : Actor) → Reacts layout node start past x act a (CommitTo s)
      → NodeSends layout node start past act (Commit (actor_of node 0) store x a.ballot a.body s.t s.deps)
  Decides :
      (act : Act) (x : TxnId) (a : Attempt) (path : Path) (s : Settled) (store : Actor)
      → Reacts layout node start past x act a (DecideBy path s)
      → IsIn (DecideNote x s.t path s.deps) (node_emits layout node start past act).notes
      → NodeSends layout node start past act (Stable (actor_of node 0) store x a.ballot a.body s.t s.deps)
  Finishes :
      (act : Act) (x : TxnId) (a : Attempt) (s : Settled) (outcome : Outcome) (store : Actor)
      → Reacts layout node start past x act a (FinishWith s outcome)
      → NodeSends layout node start past act (Apply (actor_of node 0) store x a.ballot a.body s.t s.deps outcome)
  Informs :
      (act : Act) (x : TxnId) (a : Attempt) (s : Settled) (outcome : Outcome)
      → Reacts layout node start past x act a (FinishWith s outcome)
      → NodeSends layout node start past act (Inform (actor_of node 0) (home_node x) x a.ballot outcome)

-- ---- what a node notes

pub data NodeNotes (layout : Layout) (node start : ℕ) (past : List Deed) : Act → Note → Type 0 where
  NotesBegin : (txn : ℕ) (body : BodyParts) → NodeNotes layout node start past (Begins txn body) (BeginNote (next_id node start past))
  NotesRecover :
      (x : TxnId) (body : BodyParts) → NodeNotes layout node start past (Recovers x body) (RecoverNote x (next_ballot node start past))
  NotesDecision :
      (act : Act) (x : TxnId) (a : Attempt) (path : Path) (s : Settled) → Reacts layout node start past x act a (DecideBy path s)
      → NodeNotes layout node start past act (DecideNote x s.t path s.deps)
  NotesOutcome :
      (act : Act) (x : TxnId) (a : Attempt) (s : Settled) (outcome : Outcome) → Reacts layout node start past x act a (FinishWith s outcome)
      → NodeNotes layout node start past act (OutcomeNote x outcome.reply)
  NotesReply :
      (act : Act) (x : TxnId) (a : Attempt) (s : Settled) (outcome : Outcome) → Reacts layout node start past x act a (FinishWith s outcome)
      → is_open x past ≡ true → NodeNotes layout node start past act (ReplyNote x outcome.reply)
  NotesTold :
      (from to : Actor) (x : TxnId) (b : Ballot) (outcome : Outcome) → is_open x past ≡ true
      → NodeNotes layout node start past (Takes (Inform from to x b outcome)) (ReplyNote x outcome.reply)
  NotesBlocked :
      (act : Act) (x : TxnId) (a : Attempt) (by : List TxnId) → Reacts layout node start past x act a (BlockBy by)
      → NodeNotes layout node start past act (Blocked x a.ballot by)
  NotesEnded :
      (act : Act) (x : TxnId) (a : Attempt) (by : Ballot) → Reacts layout node start past x act a (EndBy by)
      → NodeNotes layout node start past act (Ended x a.ballot by)

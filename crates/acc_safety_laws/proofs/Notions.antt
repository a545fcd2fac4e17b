-- What serial outcomes rest on. All notions are those of a whole run; what a message says is judged by
-- the notes so far.
use Rattle.std.proofs.Common.{◌≡◌, ℕ, Bool, true, ◌||◌, cond, List, [], ◌∷◌, Option, None, Some, Contains}
use Rattle.acc_stamp.specs.declared.stamps.Stamp.{Stamp}
use Rattle.acc_stamp.specs.declared.stamps.TxnId.{TxnId}
use Rattle.acc_stamp.specs.Stamp.{id_eq, stamp_lt, zero_stamp}
use Rattle.acc_stamp.specs.Actor.{shard_of}
use Rattle.acc_topology.specs.Keys.{shard_of_key}
use Rattle.acc_deps.specs.declared.shards.ShardDeps.{ShardDeps}
use Rattle.acc_deps.specs.declared.records.Settled.{Settled}
use Rattle.acc_value.specs.declared.key.Key.{Key}
use Rattle.acc_value.specs.Pairs.{find}
use Rattle.acc_value.specs.Cells.{cell_of}
use Rattle.acc_txn.specs.declared.parts.BodyParts.{BodyParts}
use Rattle.acc_txn.specs.declared.outcome.Outcome.{Outcome}
use Rattle.acc_txn.specs.Uses.{is_read, is_updated}
use Rattle.acc_txn.specs.Meaning.{outcome_of}
use Rattle.acc_base.specs.Faults.{or_else}
use Rattle.acc_message.specs.declared.answer.ReadAnswer.{ReadAnswer}
use Rattle.acc_message.specs.declared.answer.ReadAnswer.TheVariants.{Values, Known}
use Rattle.acc_message.specs.declared.message.Message.{Message}
use Rattle.acc_message.specs.declared.message.Message.TheVariants.{ReadOk, Apply, Inform}
use Rattle.acc_message.specs.declared.note.Note.{Note}
use Rattle.acc_message.specs.declared.item.Item.{Item}
use Rattle.acc_message.specs.Fields.{id_of}
use Rattle.acc_message.specs.Items.{sent_of, notes_of}
use Rattle.acc_message.specs.BallotRules.{settled_in, outcome_in}
use Rattle.acc_message.specs.Run.{Cluster}
use Rattle.acc_safety.specs.Decisions.{Decision, decisions_of, outcomes_of, is_answered, body_of}
use Rattle.acc_safety.specs.Coverage.{Conflict}
use Rattle.acc_safety.specs.Polls.{IsBody}
use Rattle.acc_safety_laws.proofs.Cell.{Cell}
use Rattle.acc_safety_laws.proofs.Latest.{Writes, IsLatest}

-- the timestamp of the first decision of a transaction
abbrev pub time_among : List Decision → TxnId → Stamp
time_among [] x = zero_stamp
time_among (d ∷ decisions) x = cond (id_eq d.id x) d.t (time_among decisions x)

-- the outcome that the first Apply about a transaction brings
abbrev pub first_apply : List Message → TxnId → Option Outcome
first_apply [] x = None
first_apply (m ∷ ms) x = or_else (outcome_in x m) (first_apply ms x)

-- what an outcome writes to a key that its body writes
abbrev pub written_at : Option BodyParts → Option Outcome → Key → Option Cell
written_at None outcome key = None
written_at (Some body) None key = None
written_at (Some body) (Some outcome) key = cond (is_updated body key) (find outcome.writes key) None

abbrev pub uses : BodyParts → Key → Bool
uses body key = is_read body key || is_updated body key

module _ (cluster : Cluster) (whole : List Item) where
  abbrev pub IsDecision : TxnId → Stamp → List ShardDeps → Type 0
  IsDecision x t deps = Contains (decisions_of (notes_of whole)) (record { id = x; t = t; deps = deps })

  abbrev pub time_of : TxnId → Stamp
  time_of x = time_among (decisions_of (notes_of whole)) x

  abbrev pub IsDecided : TxnId → Type 0
  IsDecided x = (deps : List ShardDeps) × IsDecision x (time_of x) deps

  abbrev pub outcome_first : TxnId → Option Outcome
  outcome_first x = first_apply (sent_of whole) x

  abbrev pub wrote : Writes
  wrote x key = written_at (body_of cluster whole x) (outcome_first x) key

-- both are decided, they conflict in the shard, and y has the smaller timestamp
pub record Below (cluster : Cluster) (whole : List Item) (shard : ℕ) (y x : TxnId) : Type 0 where
  pub conflict : Conflict cluster whole shard y x
  pub first : IsDecided cluster whole y
  pub second : IsDecided cluster whole x
  pub earlier : stamp_lt (time_of cluster whole y) (time_of cluster whole x) ≡ true

-- the cell is the latest that was written to the key below x
abbrev pub IsLatestBelow : Cluster → List Item → TxnId → Key → Cell → Type 0
IsLatestBelow cluster whole x key cell =
    IsLatest (time_of cluster whole) (wrote cluster whole) (λ y. stamp_lt (time_of cluster whole y) (time_of cluster whole x) ≡ true) key cell

-- these notes tell an outcome of x
abbrev pub Answered : List Note → TxnId → Type 0
Answered notes x = is_answered x (outcomes_of notes) ≡ true

-- An outcome of x: what its body means on the latest cells below it. By now outcomes of those below it are noted.
pub record Finished (cluster : Cluster) (whole : List Item) (notes : List Note) (x : TxnId) (outcome : Outcome) : Type 0 where
  pub body : BodyParts
  pub body_is : IsBody cluster whole x body
  pub decided : IsDecided cluster whole x
  pub cells : Key → Cell
  pub outcome_is : outcome ≡ outcome_of body cells
  pub latest : (key : Key) → is_read body key ≡ true → IsLatestBelow cluster whole x key (cells key)
  pub behind : (key : Key) (y : TxnId) → uses body key ≡ true → Below cluster whole (shard_of_key cluster.layout key) y x → Answered notes y

-- the same, and an outcome of x is noted
pub record IsOutcome (cluster : Cluster) (whole : List Item) (notes : List Note) (x : TxnId) (outcome : Outcome) : Type 0 where
  pub finished : Finished cluster whole notes x outcome
  pub noted : Answered notes x

-- What x reads in a shard: of each key there the latest cell below it. Outcomes of those below it there are noted.
pub record Reading (cluster : Cluster) (whole : List Item) (notes : List Note) (x : TxnId) (shard : ℕ) (cells : List (Key × Cell)) : Type 0 where
  pub decided : IsDecided cluster whole x
  pub latest : (body : BodyParts) (key : Key) → IsBody cluster whole x body → is_read body key ≡ true → shard_of_key cluster.layout key ≡ shard
      → IsLatestBelow cluster whole x key (cell_of cells key)
  pub behind : (y : TxnId) → Below cluster whole shard y x → Answered notes y

abbrev pub RightAnswer : Cluster → List Item → List Note → TxnId → ℕ → ReadAnswer → Type 0
RightAnswer cluster whole notes x shard (Values cells) = Reading cluster whole notes x shard cells
RightAnswer cluster whole notes x shard (Known outcome) = IsOutcome cluster whole notes x outcome

-- a message brings the right cells or outcome
abbrev pub IsRight : Cluster → List Item → List Note → Message → Type 0
IsRight cluster whole notes (ReadOk from to id ballot answer) = RightAnswer cluster whole notes id (shard_of from) answer
IsRight cluster whole notes (Apply from to id ballot body t deps outcome) = IsOutcome cluster whole notes id outcome
IsRight cluster whole notes (Inform from to id ballot outcome) = IsOutcome cluster whole notes id outcome
IsRight cluster whole notes _ = Unit {0}

-- the timestamp and the dependencies that a Stable or an Apply brings are those of a decision
abbrev pub SettlesDecided : Cluster → List Item → Message → Type 0
SettlesDecided cluster part m = (s : Settled) → settled_in (id_of m) m ≡ Some s → IsDecision cluster part (id_of m) s.t s.deps

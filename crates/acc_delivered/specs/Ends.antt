-- The attempt that a recover starts, and how it ends.
use Rattle.std.specs.Prelude.{◌≡◌, Bool, false, ◌&&◌, ◌||◌, ◌⊎◌, List, [], ◌∷◌, ◌++◌, is_some, true}
use Rattle.std.specs.List.{list_any}
use Rattle.acc_stamp.specs.declared.stamps.TxnId.{TxnId}
use Rattle.acc_stamp.specs.declared.stamps.Ballot.{Ballot}
use Rattle.acc_stamp.specs.declared.actors.Actor.{Actor}
use Rattle.acc_stamp.specs.Actor.{shard_of}
use Rattle.acc_stamp.specs.Stamp.{id_eq, ballot_eq}
use Rattle.acc_stamp.specs.Rising.{ballot_among}
use Rattle.acc_txn.specs.declared.parts.BodyParts.{BodyParts}
use Rattle.acc_message.specs.declared.entry.Entry.{Entry}
use Rattle.acc_message.specs.declared.note.Note.{Note}
use Rattle.acc_message.specs.declared.note.Note.TheVariants.{Begin as BeginNote, Recover as RecoverNote, Blocked, Ended, Decide, Outcome as OutcomeNote, Reply as ReplyNote}
use Rattle.acc_message.specs.declared.item.Item.{Item}
use Rattle.acc_message.specs.declared.item.Item.TheVariants.{Step, Skipped, Down}
use Rattle.acc_message.specs.Items.{same_actor, notes_of, begins, replies}
use Rattle.acc_message.specs.Coordinator.{home_node}
use Rattle.acc_message.specs.Shares.{stores_used}
use Rattle.acc_message.specs.BallotRules.{kept_outcome}
use Rattle.acc_message.specs.Opening.{is_opened}
use Rattle.acc_message.specs.StoreRules.{stable_ballots}
use Rattle.acc_message.specs.Run.{Cluster, taken_of, is_restart_event}
use Rattle.acc_safety.specs.Decisions.{Decision, decisions_of, is_answered, outcomes_of}
use Rattle.acc_safety.specs.Places.{IsIn}
use Rattle.acc_safety.specs.Polls.{IsBody}
use Rattle.acc_delivered.specs.Rounds.{IsRecover}

-- ---- the attempt that a recover starts

-- the note starts an attempt at x
abbrev pub starts : TxnId → Note → Bool
starts x (BeginNote id) = id_eq id x
starts x (RecoverNote id ballot) = id_eq id x
starts x (Blocked id ballot by) = false
starts x (Ended id ballot by) = false
starts x (Decide id t path deps) = false
starts x (OutcomeNote id reply) = false
starts x (ReplyNote id reply) = false

-- the item is an entry that restarts the actor
abbrev pub restarts : Actor → Item → Bool
restarts a (Step e) = same_actor e.actor a && is_restart_event e.event
restarts a (Skipped step cause) = false
restarts a (Down actor) = false

-- the item restarts the actor, or starts an attempt of it at x
abbrev pub disturbs : Actor → TxnId → Item → Bool
disturbs a x (Step e) = same_actor e.actor a && (is_restart_event e.event || list_any (starts x) e.emitted.notes)
disturbs a x (Skipped step cause) = false
disturbs a x (Down actor) = false

-- The later items, the newest first, begin with the recover that starts the attempt at x with the ballot, and nothing disturbs the
-- attempt after that.
pub record IsAttempt (a : Actor) (x : TxnId) (b : Ballot) (later : List Item) : Type 0 where
  pub entry : Entry
  pub since : List Item
  pub items_are : later ≡ since ++ Step entry ∷ []
  pub recover : IsRecover a x b entry
  pub alone : list_any (disturbs a x) since ≡ false

-- ---- its end

-- the note tells that the attempt at x with the ballot was ended by a greater one, or blocked
abbrev pub tells_ended : TxnId → Ballot → Note → Bool
tells_ended x b (Ended id ballot by) = id_eq id x && ballot_eq ballot b
tells_ended x b _ = false

abbrev pub tells_blocked : TxnId → Ballot → Note → Bool
tells_blocked x b (Blocked id ballot by) = id_eq id x && ballot_eq ballot b
tells_blocked x b _ = false

abbrev pub is_ended : TxnId → Ballot → List Item → Bool
is_ended x b items = list_any (tells_ended x b) (notes_of items)

abbrev pub is_blocked : TxnId → Ballot → List Item → Bool
is_blocked x b items = list_any (tells_blocked x b) (notes_of items)

-- x is among the decisions
abbrev pub was_decided : TxnId → List Item → Bool
was_decided x items = list_any (λ (d : Decision). id_eq d.id x) (decisions_of (notes_of items))

abbrev pub had_outcome : TxnId → List Item → Bool
had_outcome x items = is_answered x (outcomes_of (notes_of items))

-- a fact of each store of x
abbrev pub AtEachStore : Cluster → List Item → TxnId → (Actor → Type 0) → Type 0
AtEachStore cluster items x Fact =
    (body : BodyParts) (store : Actor) → IsBody cluster items x body → IsIn store (stores_used cluster.layout body) → Fact store

-- the store took a Stable about x with the ballot
abbrev pub took_stable : Cluster → List Item → TxnId → Ballot → Actor → Bool
took_stable cluster items x b store = ballot_among b (stable_ballots (taken_of cluster store items) x)

-- the store took an Apply about x, and it has opened x
abbrev pub took_apply : Cluster → List Item → TxnId → Actor → Bool
took_apply cluster items x store = is_some (kept_outcome (taken_of cluster store items) x)

abbrev pub has_opened : Cluster → List Item → TxnId → Actor → Bool
has_opened cluster items x store = is_opened (shard_of store) (taken_of cluster store items) x

-- x is decided, and each of its stores took a Stable with the ballot
pub record IsDecidedAt (cluster : Cluster) (items : List Item) (x : TxnId) (b : Ballot) : Type 0 where
  pub decided : was_decided x items ≡ true
  pub stable : AtEachStore cluster items x (λ store. took_stable cluster items x b store ≡ true)

-- x has an outcome, and each of its stores took an Apply of it
pub record IsFinished (cluster : Cluster) (items : List Item) (x : TxnId) : Type 0 where
  pub outcome : had_outcome x items ≡ true
  pub applies : AtEachStore cluster items x (λ store. took_apply cluster items x store ≡ true)

-- ---- its client

-- An entry begins x, and the node of x restarts in none of the items after it. A restart would close the client.
pub record KeepsClient (x : TxnId) (items : List Item) : Type 0 where
  pub entry : Entry
  pub after : List Item
  pub earlier : List Item
  pub items_are : items ≡ after ++ Step entry ∷ earlier
  pub begins_it : list_any (begins x) entry.emitted.notes ≡ true
  pub up : list_any (restarts (home_node x)) after ≡ false

abbrev pub is_replied : TxnId → List Item → Bool
is_replied x items = list_any (replies x) (notes_of items)

-- ---- all its ends

-- the attempt at x with the ballot was ended, was blocked, or decided
abbrev pub HasEnd : Cluster → List Item → TxnId → Ballot → Type 0
HasEnd cluster items x b = (is_ended x b items ≡ true) ⊎ ((is_blocked x b items ≡ true) ⊎ IsDecidedAt cluster items x b)

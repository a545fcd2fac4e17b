-- Which journals the runs of a plan leave, as far as the journals tell: the rules on each payload, and the first that
-- breaks one.
--     AreLeft plan images      no payload breaks a rule
--     IsFirstFault plan images image detail at      this journal is the first that breaks one: those of nodes come before those of stores,
--                                                   and else they come in the order of the list
-- The details are 1, another version at that byte; 2, cut bytes at that place; and 3, a payload that breaks a rule, at
-- its gate.
use Rattle.std.specs.Prelude.{◌≡◌, ◌⊎◌, ℕ, ◌*◌, ◌==◌, ◌&&◌, nat_le, Bool, true, false, List, [], ◌∷◌, ◌++◌, Option, None, Some, slice_get, Contains}
use Rattle.acc_stamp.specs.declared.stamps.Stamp.{Stamp}
use Rattle.acc_stamp.specs.declared.stamps.TxnId.{TxnId}
use Rattle.acc_stamp.specs.declared.stamps.Ballot.{Ballot}
use Rattle.acc_stamp.specs.declared.actors.Actor.{Actor}
use Rattle.acc_stamp.specs.Actor.{home_of, node_of}
use Rattle.acc_stamp.specs.Stamp.{zero_ballot}
use Rattle.acc_deps.specs.declared.shards.ShardDeps.{ShardDeps}
use Rattle.acc_txn.specs.declared.parts.BodyParts.{BodyParts}
use Rattle.acc_journal.specs.Layout.{Reads, IsForeign, IsCut}
use Rattle.acc_message.specs.declared.message.Message.{Message}
use Rattle.acc_message.specs.declared.message.Message.TheVariants.{PreAccept, PreAcceptOk, Accept, AcceptOk, Commit, CommitOk, Stable, ReadOk, Apply, Recover as RecoverMessage, RecoverOk, Nack, Decided, Inform}
use Rattle.acc_message.specs.Fields.{from_of, id_of, ballot_of, top_of}
use Rattle.acc_message.specs.Run.{clock_start, is_node}
use Rattle.acc_message.specs.Shares.{is_store_of}
use Rattle.acc_message.specs.Taken.{body_in}
use Rattle.acc_payloads.specs.declared.draw.Purpose.{Purpose}
use Rattle.acc_payloads.specs.declared.draw.Purpose.TheVariants.{Begin, Recover}
use Rattle.acc_payloads.specs.declared.draw.Draw.{Draw}
use Rattle.acc_payloads.specs.declared.node.NodePayload.{NodePayload}
use Rattle.acc_payloads.specs.declared.node.NodePayload.TheVariants.{Mark, Draws}
use Rattle.acc_payloads.specs.declared.store.StorePayload.{StorePayload}
use Rattle.acc_payloads.specs.declared.store.StorePayload.TheVariants.{Mark as StoreMark, Takes}
use Rattle.acc_payloads.specs.Journals.{IsJournalOf, IsBadRecord}
use Rattle.acc_payloads.specs.Node.{node_bytes, draws_in, NodeMay}
use Rattle.acc_payloads.specs.Store.{store_bytes, FitsStore, has_mark, store_may}
use Rattle.acc_schedule.specs.Content.{Content}
use Rattle.acc_left.specs.declared.image.Image.{Image}

-- no run that stands within the limits names so great an h or a greater one
abbrev pub greatest_height : ℕ
greatest_height = 2000000000000

-- ---- nodes

-- the transaction is one of the plan, with this home, and its home alone begins it
abbrev pub may_be_drawn : ℕ → Purpose → Option ℕ → Bool
may_be_drawn node purpose None = false
may_be_drawn node Begin (Some home) = home == node
may_be_drawn node Recover (Some home) = true

-- a draw is of a transaction of the plan, and isn't too high
abbrev pub is_draw_of : Content → ℕ → Draw → Bool
is_draw_of plan node d = may_be_drawn node d.purpose (slice_get plan.homes d.txn) && nat_le d.h greatest_height

abbrev pub is_of_plan : Content → ℕ → NodePayload → Bool
is_of_plan plan node Mark = true
is_of_plan plan node (Draws d) = is_draw_of plan node d

-- a payload that may stand after these in the journal of a node: it rises, begins nothing twice, and is of the plan
abbrev pub NodeMayLeave : Content → ℕ → List NodePayload → NodePayload → Type 0
NodeMayLeave plan node before p = NodeMay plan.version (clock_start plan.starts node) before p × (is_of_plan plan node p ≡ true)

pub record IsNodeImage (plan : Content) (image : Image) (items : List NodePayload) : Type 0 where
  pub payloads : List (List ℕ)
  pub reads : Reads image.bytes payloads
  pub journal : IsJournalOf node_bytes (NodeMayLeave plan (node_of image.actor)) payloads items

-- ---- what the journals of nodes tell

-- the journal of some node keeps the rules and has this draw, which drew this stamp
pub record HasDrawn (plan : Content) (images : List Image) (stamp : Stamp) (d : Draw) : Type 0 where
  pub image : Image
  pub among : Contains images image
  pub node : is_node image.actor ≡ true
  pub items : List NodePayload
  pub journal : IsNodeImage plan image items
  pub draws : Contains (draws_in items) d
  pub stamp_is : stamp ≡ record { h = d.h; origin = node_of image.actor * 64 }

-- the journals begin the transaction with this number under this id
pub record Begins (plan : Content) (images : List Image) (id : TxnId) (txn : ℕ) : Type 0 where
  pub draw : Draw
  pub drawn : HasDrawn plan images id.0 draw
  pub begins : draw.purpose ≡ Begin
  pub number : draw.txn ≡ txn

-- they draw this ballot for a recover of the transaction with this number
pub record Recovers (plan : Content) (images : List Image) (ballot : Ballot) (txn : ℕ) : Type 0 where
  pub draw : Draw
  pub drawn : HasDrawn plan images ballot.0 draw
  pub recovers : draw.purpose ≡ Recover
  pub number : draw.txn ≡ txn

-- they begin each of these transactions
abbrev pub AreBegun : Content → List Image → List ShardDeps → Type 0
AreBegun plan images deps =
    (shard : ShardDeps) (x : TxnId) → Contains deps shard → Contains shard.ids x → (number : ℕ) × Begins plan images x number

-- ---- stores

-- the dependencies that a message to a store brings
abbrev pub deps_brought : Message → List ShardDeps
deps_brought (PreAccept from to id ballot body) = []
deps_brought (PreAcceptOk from to id ballot vote deps) = []
deps_brought (Accept from to id ballot body t deps) = deps
deps_brought (AcceptOk from to id ballot deps) = []
deps_brought (Commit from to id ballot body t deps) = deps
deps_brought (CommitOk from to id ballot) = []
deps_brought (Stable from to id ballot body t deps) = deps
deps_brought (ReadOk from to id ballot answer) = []
deps_brought (Apply from to id ballot body t deps outcome) = deps
deps_brought (RecoverMessage from to id ballot body) = []
deps_brought (RecoverOk from to id ballot view) = []
deps_brought (Nack from to id ballot promised) = []
deps_brought (Decided from to id ballot t deps) = []
deps_brought (Inform from to id ballot outcome) = []

-- A message about a transaction that the journals begin, with the plan's body for it, at one of its stores, from the
-- node of its attempt, whose journal draws the ballot. What it depends on is begun.
pub record IsMessageOf (plan : Content) (images : List Image) (own : Actor) (m : Message) : Type 0 where
  pub txn : ℕ
  pub begun : Begins plan images (id_of m) txn
  pub body : BodyParts
  pub planned : slice_get plan.bodies txn ≡ Some body
  pub brings : body_in m ≡ Some body
  pub store : is_store_of plan.topology body own ≡ true
  pub sender : from_of m ≡ home_of (id_of m) (ballot_of m)
  pub ballot : (ballot_of m ≡ zero_ballot) ⊎ Recovers plan images (ballot_of m) txn
  pub deps : AreBegun plan images (deps_brought m)
  pub height : nat_le (top_of m) greatest_height ≡ true

abbrev pub IsTakenOf : Content → List Image → Actor → StorePayload → Type 0
IsTakenOf plan images own StoreMark = Unit {0}
IsTakenOf plan images own (Takes m) = IsMessageOf plan images own m

-- a payload that may stand after these in the journal of a store
abbrev pub StoreMayLeave : Content → List Image → Actor → List StorePayload → StorePayload → Type 0
StoreMayLeave plan images own before p =
    FitsStore p × (store_may plan.version own (has_mark before) p ≡ true) × IsTakenOf plan images own p

pub record IsStoreImage (plan : Content) (images : List Image) (image : Image) : Type 0 where
  pub payloads : List (List ℕ)
  pub items : List StorePayload
  pub reads : Reads image.bytes payloads
  pub journal : IsJournalOf store_bytes (StoreMayLeave plan images image.actor) payloads items

-- ---- all journals

abbrev pub NodesAreLeft : Content → List Image → Type 0
NodesAreLeft plan images =
    (image : Image) → Contains images image → is_node image.actor ≡ true → (items : List NodePayload) × IsNodeImage plan image items

-- those of stores among these keep the rules, by what all journals of nodes tell
abbrev pub StoresAreLeft : Content → List Image → List Image → Type 0
StoresAreLeft plan all images =
    (image : Image) → Contains images image → is_node image.actor ≡ false → IsStoreImage plan all image

pub record AreLeft (plan : Content) (images : List Image) : Type 0 where
  pub nodes : NodesAreLeft plan images
  pub stores : StoresAreLeft plan images images

-- ---- faults

-- bytes that are no journal
abbrev pub IsUnreadable : List ℕ → ℕ → ℕ → Type 0
IsUnreadable bytes detail at = ((detail ≡ 1) × IsForeign bytes at) ⊎ ((detail ≡ 2) × IsCut bytes at)

-- the journal of a node whose first payload that breaks a rule has its gate here
pub record HasBadDraw (plan : Content) (image : Image) (detail at : ℕ) : Type 0 where
  pub kind : detail ≡ 3
  pub payloads : List (List ℕ)
  pub reads : Reads image.bytes payloads
  pub bad : IsBadRecord node_bytes (NodeMayLeave plan (node_of image.actor)) payloads at

pub record HasBadMessage (plan : Content) (images : List Image) (image : Image) (detail at : ℕ) : Type 0 where
  pub kind : detail ≡ 3
  pub payloads : List (List ℕ)
  pub reads : Reads image.bytes payloads
  pub bad : IsBadRecord store_bytes (StoreMayLeave plan images image.actor) payloads at

abbrev pub IsNodeFault : Content → Image → ℕ → ℕ → Type 0
IsNodeFault plan image detail at = IsUnreadable image.bytes detail at ⊎ HasBadDraw plan image detail at

abbrev pub IsStoreFault : Content → List Image → Image → ℕ → ℕ → Type 0
IsStoreFault plan images image detail at = IsUnreadable image.bytes detail at ⊎ HasBadMessage plan images image detail at

-- the first journal of a node that breaks a rule
pub record NodeIsFirst (plan : Content) (images : List Image) (image : Image) (detail at : ℕ) : Type 0 where
  pub before : List Image
  pub after : List Image
  pub whole : images ≡ before ++ image ∷ after
  pub node : is_node image.actor ≡ true
  pub keep : NodesAreLeft plan before
  pub breaks : IsNodeFault plan image detail at

-- those of nodes keep the rules, and this is the first of a store that breaks one
pub record StoreIsFirst (plan : Content) (images : List Image) (image : Image) (detail at : ℕ) : Type 0 where
  pub before : List Image
  pub after : List Image
  pub whole : images ≡ before ++ image ∷ after
  pub store : is_node image.actor ≡ false
  pub nodes : NodesAreLeft plan images
  pub keep : StoresAreLeft plan images before
  pub breaks : IsStoreFault plan images image detail at

abbrev pub IsFirstFault : Content → List Image → Image → ℕ → ℕ → Type 0
IsFirstFault plan images image detail at = NodeIsFirst plan images image detail at ⊎ StoreIsFirst plan images image detail at

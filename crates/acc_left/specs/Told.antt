-- What is kept of journals while they are tested.
--     TellDraws plan draws images      a table has the draws of these journals of nodes, and no others
--     AddsDraws draws more node items      a table with the draws of one more node
--     ListsBegins draws roll      a list of what the draws of a table begin
--     comes_of plan draws own m txn body      what is asked of a message by such a table, but for the body that it brings
use Rattle.std.specs.Prelude.{◌≡◌, ◌↔◌, ℕ, ◌*◌, ◌==◌, ◌&&◌, ◌||◌, nat_le, Bool, false, not, List, map, find, All, Contains, IfSome, Option, None, Some, is_some, option_and_then, if◌then◌else◌}
use Rattle.std.specs.List.{list_all}
use Rattle.std.specs.Borrow.{Bor}
use Rattle.std.specs.BTreeMap.{BTreeMap, get}
use Rattle.acc_base.specs.Faults.{or_else}
use Rattle.acc_stamp.specs.declared.stamps.Stamp.{Stamp}
use Rattle.acc_stamp.specs.declared.stamps.TxnId.{TxnId}
use Rattle.acc_stamp.specs.Rising.{IsRising}
use Rattle.acc_stamp.specs.Actor.{actor_eq, home_of}
use Rattle.acc_stamp.specs.Stamp.{ballot_eq, stamp_cmp, stamp_eq, zero_ballot}
use Rattle.acc_deps.specs.declared.shards.ShardDeps.{ShardDeps}
use Rattle.acc_txn.specs.declared.parts.BodyParts.{BodyParts}
use Rattle.acc_message.specs.declared.message.Message.{Message}
use Rattle.acc_message.specs.Fields.{ballot_of, from_of, id_of, top_of}
use Rattle.acc_message.specs.Shares.{is_store_of}
use Rattle.acc_payloads.specs.declared.draw.Draw.{Draw}
use Rattle.acc_payloads.specs.declared.node.NodePayload.{NodePayload}
use Rattle.acc_payloads.specs.Journals.{IsBadRecord, IsJournalOf}
use Rattle.acc_payloads.specs.Node.{draws_in, is_begin, node_bytes}
use Rattle.acc_payloads.specs.Store.{store_bytes}
use Rattle.acc_payloads.specs.declared.store.StorePayload.{StorePayload}
use Rattle.acc_schedule.specs.Content.{Content}
use Rattle.acc_stamp.specs.declared.actors.Actor.{Actor}
use Rattle.acc_left.specs.declared.image.Image.{Image}
use Rattle.acc_left.specs.Rules.{deps_brought, greatest_height, HasDrawn, NodeMayLeave, StoreMayLeave}

-- the payloads behind references
abbrev pub bytes_in : List (Bor (List ℕ)) → List (List ℕ)
bytes_in = map (λ payload. payload.now)

-- ---- draws by their stamps

abbrev pub Draws : Type 0
Draws = BTreeMap Stamp Draw

abbrev pub draw_at : Draws → Stamp → Option Draw
draw_at draws stamp = get stamp_cmp draws stamp

-- the number of the transaction that a draw begins
abbrev pub begun_with : Draw → Option ℕ
begun_with d = if is_begin d.purpose then Some d.txn else None

-- the number of the transaction that was begun with this id
abbrev pub number_begun : Draws → TxnId → Option ℕ
number_begun draws id = option_and_then begun_with (draw_at draws id.0)

abbrev pub recovers_with : ℕ → Option Draw → Bool
recovers_with txn None = false
recovers_with txn (Some d) = not (is_begin d.purpose) && d.txn == txn

-- these entries, where there are any, are transactions that the draws of the table begin
abbrev pub AreBegins : Draws → List (Option (TxnId × ℕ)) → Type 0
AreBegins draws entries = All (λ entry. IfSome entry (λ e. number_begun draws e.0 ≡ Some e.1)) entries

-- the stamp that a node drew
abbrev pub stamp_drawn : ℕ → Draw → Stamp
stamp_drawn node d = record { h = d.h; origin = node * 64 }

abbrev pub TellDraws : Content → Draws → List Image → Type 0
TellDraws plan draws images = (stamp : Stamp) (d : Draw) → (draw_at draws stamp ≡ Some d) ↔ HasDrawn plan images stamp d

-- each id that a draw of the table begins, with the number of its transaction, and no others; the ids rise
pub record ListsBegins (draws : Draws) (roll : List (TxnId × ℕ)) : Type 0 where
  pub rises : IsRising (map (λ entry. entry.0) roll)
  pub each : (id : TxnId) (txn : ℕ) → Contains roll (id, txn) ↔ (number_begun draws id ≡ Some txn)

-- ---- one node

-- the draw of a node that drew this stamp
abbrev pub draw_in : ℕ → List NodePayload → Stamp → Option Draw
draw_in node items stamp = find (λ (d : Draw). stamp_eq (stamp_drawn node d) stamp) (draws_in items)

abbrev pub AddsDraws : Draws → Draws → ℕ → List NodePayload → Type 0
AddsDraws before after node items = (stamp : Stamp) → draw_at after stamp ≡ or_else (draw_in node items stamp) (draw_at before stamp)

-- the payloads are a journal that the node may leave, and its draws are in the table
pub record IsEntered (plan : Content) (node : ℕ) (payloads : List (List ℕ)) (before after : Draws) : Type 0 where
  pub items : List NodePayload
  pub journal : IsJournalOf node_bytes (NodeMayLeave plan node) payloads items
  pub draws : AddsDraws before after node items

-- where the first bad record is, or that there is none
abbrev pub FindsInNode : Content → ℕ → List (List ℕ) → Draws → Draws → Option ℕ → Type 0
FindsInNode plan node payloads before after None = IsEntered plan node payloads before after
FindsInNode plan node payloads before after (Some gate) = IsBadRecord node_bytes (NodeMayLeave plan node) payloads gate

-- ---- one message

abbrev pub are_begun : Draws → List ShardDeps → Bool
are_begun draws deps = list_all (λ (d : ShardDeps). list_all (λ (id : TxnId). is_some (number_begun draws id)) d.ids) deps

-- it comes from the node of its attempt, which drew the ballot for the transaction with this number
abbrev pub is_from_attempt : Draws → Message → ℕ → Bool
is_from_attempt draws m txn =
    actor_eq (from_of m) (home_of (id_of m) (ballot_of m))
    && (ballot_eq (ballot_of m) zero_ballot || recovers_with txn (draw_at draws (ballot_of m).0))

abbrev pub comes_of : Content → Draws → Actor → Message → ℕ → BodyParts → Bool
comes_of plan draws own m txn body =
    is_store_of plan.topology body own && is_from_attempt draws m txn && are_begun draws (deps_brought m)
    && nat_le (top_of m) greatest_height

-- ---- one store

pub record IsKeptBy (plan : Content) (images : List Image) (own : Actor) (payloads : List (List ℕ)) : Type 0 where
  pub items : List StorePayload
  pub journal : IsJournalOf store_bytes (StoreMayLeave plan images own) payloads items

abbrev pub FindsInStore : Content → List Image → Actor → List (List ℕ) → Option ℕ → Type 0
FindsInStore plan images own payloads None = IsKeptBy plan images own payloads
FindsInStore plan images own payloads (Some gate) = IsBadRecord store_bytes (StoreMayLeave plan images own) payloads gate

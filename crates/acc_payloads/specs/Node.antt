-- The journal of a node.
use Rattle.std.specs.Prelude.{◌≡◌, ℕ, ◌*◌, ◌^◌, max, Bool, true, false, not, ◌==◌, ◌&&◌, nat_lt, nat_le, List, [], ◌∷◌, ◌++◌, Option, None, Some, if◌then◌else◌}
use Rattle.std.specs.List.{list_any}
use Rattle.std.specs.Ordering.{nat_cmp}
use Rattle.std.specs.BTreeMap.{get}
use Rattle.acc_base.specs.Faults.{or_else}
use Rattle.acc_stamp.specs.declared.stamps.TxnId.{TxnId}
use Rattle.acc_payloads.specs.declared.draw.Purpose.{Purpose}
use Rattle.acc_payloads.specs.declared.draw.Purpose.TheVariants.{Begin, Recover}
use Rattle.acc_payloads.specs.declared.draw.Draw.{Draw}
use Rattle.acc_payloads.specs.declared.node.NodePayload.{NodePayload}
use Rattle.acc_payloads.specs.declared.node.NodePayload.TheVariants.{Mark, Draws}
use Rattle.acc_payloads.specs.declared.node.NodeTold.{NodeTold}
use Rattle.acc_payloads.specs.Spelling.{mark_bytes, draw_bytes, FitsDraw}
use Rattle.acc_payloads.specs.Journals.{IsJournalOf, may_mark, appended, marked_after}

abbrev pub node_bytes : NodePayload → List ℕ
node_bytes Mark = mark_bytes
node_bytes (Draws d) = draw_bytes d

abbrev pub FitsNode : NodePayload → Type 0
FitsNode Mark = Unit {0}
FitsNode (Draws d) = FitsDraw d

abbrev pub is_mark : NodePayload → Bool
is_mark Mark = true
is_mark (Draws d) = false

abbrev pub has_mark : List NodePayload → Bool
has_mark items = list_any is_mark items

-- the draws among them, marks aside
abbrev pub draws_in : List NodePayload → List Draw
draws_in [] = []
draws_in (Mark ∷ items) = draws_in items
draws_in (Draws d ∷ items) = d ∷ draws_in items

-- ---- draws

-- the greatest h of the start and of the draws
abbrev pub greatest_drawn : ℕ → List Draw → ℕ
greatest_drawn start [] = start
greatest_drawn start (d ∷ draws) = greatest_drawn (max start d.h) draws

abbrev pub is_begin : Purpose → Bool
is_begin Begin = true
is_begin Recover = false

-- the draw begins the transaction with this number
abbrev pub begins : ℕ → Draw → Bool
begins txn d = is_begin d.purpose && d.txn == txn

-- the stamp that a node drew, as an id
abbrev pub id_drawn_by : ℕ → Draw → TxnId
id_drawn_by node d = record { 0 = record { h = d.h; origin = node * 64 } }

-- the id of the transaction with this number, where one of the draws begins it
abbrev pub begun_by : ℕ → ℕ → List Draw → Option TxnId
begun_by node txn [] = None
begun_by node txn (d ∷ draws) = or_else (if begins txn d then Some (id_drawn_by node d) else None) (begun_by node txn draws)

-- ---- the journal

-- a draw is above the start and all earlier ones, is at most 2^62, and begins no transaction that is begun
abbrev pub may_draw : ℕ → List Draw → Draw → Bool
may_draw start before d =
    nat_lt (greatest_drawn start before) d.h && nat_le d.h (2 ^ 62) && not (is_begin d.purpose && list_any (begins d.txn) before)

abbrev pub node_may : ℕ → ℕ → List NodePayload → NodePayload → Bool
node_may version start before Mark = may_mark version (has_mark before)
node_may version start before (Draws d) = may_draw start (draws_in before) d

abbrev pub NodeMay : ℕ → ℕ → List NodePayload → NodePayload → Type 0
NodeMay version start before p = FitsNode p × (node_may version start before p ≡ true)

abbrev pub IsNodeJournal : ℕ → ℕ → List (List ℕ) → List NodePayload → Type 0
IsNodeJournal version start payloads items = IsJournalOf node_bytes (NodeMay version start) payloads items

-- ---- what is read from it

-- what these payloads of a node with this number and start tell
pub record AreTold (node start : ℕ) (items : List NodePayload) (told : NodeTold) : Type 0 where
  pub marked : told.marked ≡ has_mark items
  pub drawn : told.drawn ≡ greatest_drawn start (draws_in items)
  pub begun : (txn : ℕ) → get nat_cmp told.begun txn ≡ begun_by node txn (draws_in items)

-- payloads are a node's journal, which tells this
pub record IsReadAs (node version start : ℕ) (payloads : List (List ℕ)) (told : NodeTold) : Type 0 where
  pub items : List NodePayload
  pub journal : IsNodeJournal version start payloads items
  pub tells : AreTold node start items told

-- ---- growth

-- after a node's journal its payloads of one draw more are a journal again
pub record GrowsBy (version start : ℕ) (payloads : List (List ℕ)) (items : List NodePayload) (d : Draw) : Type 0 where
  pub later : List NodePayload
  pub journal : IsNodeJournal version start (payloads ++ appended version (has_mark items) (draw_bytes d)) later
  pub draws : draws_in later ≡ draws_in items ++ d ∷ []
  pub marked : has_mark later ≡ marked_after version (has_mark items)

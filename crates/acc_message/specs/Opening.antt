-- Opening: which transactions a store has opened and applied, and its cells.
--     IsOpened      the least set of opened transactions after a step
--     changes_of      the same in one pass over the stable transactions, by their timestamps and then by their ids
use Rattle.std.specs.Prelude.{◌≡◌, ℕ, Bool, true, false, not, cond, ◌==◌, ◌&&◌, ◌||◌, List, [], ◌∷◌, ◌++◌, Option, None, Some, IsTrue, is_some, filter}
use Rattle.std.specs.List.{list_any, list_all, flat_map, fold}
use Rattle.std.specs.Ordering.{ordering_then, is_lt}
use Rattle.acc_stamp.specs.declared.stamps.Stamp.{Stamp}
use Rattle.acc_stamp.specs.declared.stamps.TxnId.{TxnId}
use Rattle.acc_stamp.specs.Stamp.{stamp_cmp, stamp_lt, id_cmp}
use Rattle.acc_stamp.specs.Rising.{id_among, rising_with}
use Rattle.acc_topology.specs.Layout.{Layout}
use Rattle.acc_topology.specs.Keys.{shard_of_key}
use Rattle.acc_deps.specs.Deps.{of_shard}
use Rattle.acc_deps.specs.declared.records.Settled.{Settled}
use Rattle.acc_value.specs.declared.key.Key.{Key}
use Rattle.acc_value.specs.declared.value.Value.{Value}
use Rattle.acc_value.specs.Cells.{applied}
use Rattle.acc_txn.specs.declared.outcome.Outcome.{Outcome}
use Rattle.acc_message.specs.declared.message.Message.{Message}
use Rattle.acc_message.specs.declared.message.Message.TheVariants.{PreAccept, PreAcceptOk, Accept, AcceptOk, Commit, CommitOk, Stable, ReadOk, Apply, Recover, RecoverOk, Nack, Decided, Inform}
use Rattle.acc_message.specs.Taken.{Taken, Heard, known}
use Rattle.acc_message.specs.BallotRules.{stable_of, kept_outcome}

-- ---- the least set

-- whether the dependency's timestamp is the smaller one, so that it has to be applied first
abbrev pub comes_first : Stamp → Settled → Bool
comes_first t earlier = stamp_lt earlier.t t

-- The transactions that are opened once a history has come to this, where those of `before` were opened before: each of
-- these, and each stable transaction of which every dependency in this shard is stable and, where its timestamp is
-- smaller, opened and with an outcome.
pub data IsOpened (shard : ℕ) (history : List Taken) (before : List TxnId) : TxnId → Type 0 where
  Stays : (x : TxnId) → IsTrue (id_among x before) → IsOpened shard history before x
  Opens :
      (x : TxnId) (mine : Settled) → stable_of history x ≡ Some mine
      → ((y : TxnId) → IsTrue (id_among y (of_shard mine.deps shard)) → IsTrue (is_some (stable_of history y)))
      → ((y : TxnId) (theirs : Settled) → IsTrue (id_among y (of_shard mine.deps shard)) → stable_of history y ≡ Some theirs
      → IsTrue (comes_first mine.t theirs) → IsTrue (is_some (kept_outcome history y)))
      → ((y : TxnId) (theirs : Settled) → IsTrue (id_among y (of_shard mine.deps shard)) → stable_of history y ≡ Some theirs
      → IsTrue (comes_first mine.t theirs) → IsOpened shard history before y)
      → IsOpened shard history before x

-- ---- the same in one pass

-- a stable transaction, with its record
pub record Standing : Type 0 where
  pub id : TxnId
  pub settled : Settled

abbrev pub standing_with : TxnId → Option Settled → List Standing
standing_with x None = []
standing_with x (Some settled) = record { id = x; settled = settled } ∷ []

abbrev pub stable_ones : List Taken → List Heard → List Standing
stable_ones history heard = flat_map (λ (k : Heard). standing_with k.id (stable_of history k.id)) heard

-- by the timestamp, and of equal timestamps by the id
abbrev pub standing_lt : Standing → Standing → Bool
standing_lt a b = is_lt (ordering_then (stamp_cmp a.settled.t b.settled.t) (id_cmp a.id b.id))

abbrev pub in_turn : List Standing → List Standing
in_turn [] = []
in_turn (s ∷ rest) = rising_with standing_lt s (in_turn rest)

-- a dependency is stable and, where its timestamp is smaller, among the applied
abbrev pub is_past : Stamp → Bool → Option Settled → Bool
is_past t is_applied None = false
is_past t is_applied (Some earlier) = not (comes_first t earlier) || is_applied

abbrev pub is_ready : ℕ → List Taken → List TxnId → Settled → Bool
is_ready shard history applied_ones mine =
    list_all (λ y. is_past mine.t (id_among y applied_ones) (stable_of history y)) (of_shard mine.deps shard)

-- what a step does to a transaction
pub record Change : Type 0 where
  pub id : TxnId
  pub opens : Bool
  pub applies : Bool

-- In front of the rest of the pass: whether x is opened by now, and whether it was applied before. What is opened and has
-- an outcome is applied.
pub record Turn : Type 0 where
  pub change : Change
  pub is_applied : Bool

abbrev pub turn_of : TxnId → Bool → Bool → Bool → Bool → Turn
turn_of x was_opened was_applied ready has_outcome =
    record {
      change = record { id = x; opens = not was_opened && ready; applies = (was_opened || ready) && has_outcome && not was_applied };
      is_applied = (was_opened || ready) && has_outcome;
    }

abbrev pub with_applied : Bool → TxnId → List TxnId → List TxnId
with_applied false x ids = ids
with_applied true x ids = x ∷ ids

-- one pass, which carries the transactions that are applied by now
abbrev pub pass : ℕ → List Taken → List TxnId → List TxnId → List TxnId → List Standing → List Change
pass shard history opened_before applied_before applied_ones [] = []
pass shard history opened_before applied_before applied_ones (s ∷ rest) =
    let turn : Turn = turn_of s.id (id_among s.id opened_before) (id_among s.id applied_before)
    (is_ready shard history applied_ones s.settled) (is_some (kept_outcome history s.id)) in
    turn.change ∷ pass shard history opened_before applied_before (with_applied turn.is_applied s.id applied_ones) rest

abbrev pub is_change : Change → Bool
is_change c = c.opens || c.applies

-- the transactions that a step opens or applies, in their turn
abbrev pub changes_from : ℕ → List Taken → List TxnId → List TxnId → List Change
changes_from shard history opened_before applied_before =
    filter is_change (pass shard history opened_before applied_before [] (in_turn (stable_ones history (known history))))

abbrev pub opened_by : List Change → List TxnId
opened_by [] = []
opened_by (c ∷ changes) = cond c.opens (c.id ∷ opened_by changes) (opened_by changes)

-- the transactions that have an outcome
abbrev pub with_outcome : List Taken → List TxnId → List TxnId
with_outcome history ids = filter (λ y. is_some (kept_outcome history y)) ids

-- the transactions that are opened
abbrev pub opened_of : ℕ → List Taken → List TxnId
opened_of shard [] = []
opened_of shard (step ∷ past) =
    let before : List TxnId = opened_of shard past in
    opened_by (changes_from shard (step ∷ past) before (with_outcome past before)) ++ before

abbrev pub is_opened : ℕ → List Taken → TxnId → Bool
is_opened shard history x = id_among x (opened_of shard history)

-- applied is opened with an outcome
abbrev pub applied_of : ℕ → List Taken → List TxnId
applied_of shard history = with_outcome history (opened_of shard history)

abbrev pub is_applied : ℕ → List Taken → TxnId → Bool
is_applied shard history x = is_opened shard history x && is_some (kept_outcome history x)

-- what a step does: it opens and applies, in their turn, the transactions for which it can
abbrev pub changes_of : ℕ → Taken → List Taken → List Change
changes_of shard step past = changes_from shard (step ∷ past) (opened_of shard past) (applied_of shard past)

-- only a step that takes one of these opens or applies anything
abbrev pub may_open : Message → Bool
may_open (Stable from to id ballot body t deps) = true
may_open (Apply from to id ballot body t deps outcome) = true
may_open _ = false

-- ---- cells

abbrev pub writes_of : Option Outcome → List (Key × Option Value)
writes_of None = []
writes_of (Some outcome) = outcome.writes

-- the writes of an outcome to the keys of a shard
abbrev pub writes_in : Layout → ℕ → Option Outcome → List (Key × Option Value)
writes_in layout shard outcome = filter (λ w. shard_of_key layout w.0 == shard) (writes_of outcome)

abbrev pub written_by : Layout → ℕ → List Taken → Change → (Key → Option Value) → Key → Option Value
written_by layout shard history c cells =
    cond c.applies (applied cells (writes_in layout shard (kept_outcome history c.id))) cells

abbrev pub written_by_all : Layout → ℕ → List Taken → List Change → (Key → Option Value) → Key → Option Value
written_by_all layout shard history [] cells = cells
written_by_all layout shard history (c ∷ changes) cells =
    written_by_all layout shard history changes (written_by layout shard history c cells)

-- the cells of a store, as what it has applied left them
abbrev pub cells_at : Layout → ℕ → List Taken → Key → Option Value
cells_at layout shard [] = λ key. None
cells_at layout shard (step ∷ past) =
    written_by_all layout shard (step ∷ past) (changes_of shard step past) (cells_at layout shard past)

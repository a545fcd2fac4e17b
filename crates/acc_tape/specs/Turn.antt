-- What a seat knows in the course of a turn.
use Rattle.std.specs.Prelude.{◌≡◌, ◌≢◌, ℕ, ◌+◌, ◌-◌, ◌≤◌, true, List, [], ◌∷◌, ◌++◌, length, sum_by, Option, None, Some, Contains}
use mathlib.Core.List.{IsPrefix}
use Rattle.atomic_table.specs.Table.{Me, Step}
use Rattle.acc_tape.specs.declared.content.Content.{Content}
use Rattle.acc_tape.specs.declared.view.View.{View}
use Rattle.acc_tape.specs.declared.view.Gone.{Gone}
use Rattle.acc_tape.specs.declared.view.Visit.{Visit}
use Rattle.acc_tape.specs.Lists.{items_of}
use Rattle.acc_tape.specs.Visits.{visits_of, AreReserved}
use Rattle.atomic_table.specs.Seated.{TableId}
use Rattle.acc_tape.specs.Seats.{SeatView}

-- how much is reserved for a seat after a turn in which what is reserved for all became `now`
abbrev pub held_after : ℕ → ℕ → ℕ → ℕ
held_after held before now = held + now - before

module _ {E : Type 0} where
  abbrev pub nothing : Content E
  nothing = record { items = []; reserved = 0; reserved_weight = 0; limits = record { items = 0; weight = 0 }; named = 0 }

  -- what stood in the slot when the turn came, and what stands there now
  abbrev pub taken_of : Option (Content E) → Content E
  taken_of None = nothing
  taken_of (Some c) = c

  abbrev pub now_of : List (ℕ × Content E) → Content E
  now_of [] = nothing
  now_of (x ∷ xs) = x.1

  -- a seat with its ticket, and in its turn, in which it knows all visits
  abbrev pub waiting : View E → ℕ → View E
  waiting v t = record v { ticket = Some t }

  abbrev pub knowing : View E → List Visit → View E
  knowing v log = record v { visits = log }

  abbrev pub turning : View E → Content E → List Visit → View E
  turning v c log = record v { taken = Some c; visits = log }

  -- the visit of an actor's seat in which this became what is reserved
  abbrev pub visit_of : ℕ → Content E → Content E → Visit
  visit_of actor before now = record { actor = actor; items = now.reserved - before.reserved; weight = now.reserved_weight - before.reserved_weight; items_back = before.reserved - now.reserved; weight_back = before.reserved_weight - now.reserved_weight }

  -- a seat between its calls
  pub record IsResting (m : Me (Content E) (View E)) : Type 0 where
    pub is_live : m.0.is_live ≡ true
    pub no_ticket : m.0.ticket ≡ None
    pub no_turn : m.0.taken ≡ None
    pub no_slot : m.1 ≡ []
    pub first : m.0.actor ≡ 0 → (m.0.held_items ≡ 0) × (m.0.held_weight ≡ 0)

  -- a seat draws a ticket
  abbrev pub draws : Step (Content E) → Me (Content E) (View E) → ℕ → Me (Content E) (View E) → Type 0
  draws s m found w = (found ≡ s.first → w ≡ (waiting m.0 found, m.1)) × (found ≢ s.first → w ≡ m)

  module _ (actor_of : E → ℕ) where
    -- what a seat learns of what it takes out of the slot, after these visits
    pub record Learns (v : View E) (c : Content E) (log : List Visit) : Type 0 where
      pub seen : IsPrefix v.seen c.items
      pub mine : v.mine ≡ items_of actor_of v.actor c.items
      pub counted : v.held_items ≤ c.reserved
      pub weighed : v.held_weight ≤ c.reserved_weight
      pub visits : IsPrefix v.visits log
      pub own : v.own ≡ visits_of v.actor log
      pub summed : AreReserved log c.reserved c.reserved_weight
      pub holds : AreReserved v.own v.held_items v.held_weight
      pub limits : c.limits ≡ v.limits

    -- a seat looks at the serving number, and takes what stands in the slot where it is its ticket
    abbrev pub looks : Step (Content E) → Me (Content E) (View E) → ℕ → Me (Content E) (View E) → Type 0
    looks s m found w = (m.0.ticket ≡ Some found → (c : Content E) × (log : List Visit) × (w ≡ (turning m.0 c log, (0, c) ∷ m.1)) × Learns m.0 c log) × (m.0.ticket ≢ Some found → w ≡ m)

    -- a seat has its turn
    abbrev pub HasTurn : View E → Me (Content E) (View E) → Type 0
    HasTurn v m = (ticket : ℕ) × (c : Content E) × (log : List Visit) × (m ≡ (turning (waiting v ticket) c log, (0, c) ∷ [])) × Learns v c log

    -- a seat after its turn
    abbrev pub view_after : View E → Content E → Content E → View E
    view_after v before now = record v { seen = now.items; mine = items_of actor_of v.actor now.items; held_items = held_after v.held_items before.reserved now.reserved; held_weight = held_after v.held_weight before.reserved_weight now.reserved_weight; out_count = now.reserved; out_weight = now.reserved_weight; visits = v.visits ++ visit_of v.actor before now ∷ []; own = v.own ++ visit_of v.actor before now ∷ []; named = now.named; ticket = None; taken = None }

    abbrev pub left : Me (Content E) (View E) → Me (Content E) (View E)
    left m = (view_after m.0 (taken_of m.0.taken) (now_of m.1), [])

    -- what a seat may leave in the slot: the same items with some of its own after them, and at least what is reserved for the others
    pub record MayLeave (actor held_items held_weight : ℕ) (before now : Content E) : Type 0 where
      pub new : List E
      pub grows : now.items ≡ before.items ++ new
      pub by_it : (item : E) → Contains new item → (actor_of item ≡ actor) × (actor ≢ 0)
      pub limits : now.limits ≡ before.limits
      pub counts : before.reserved ≤ held_items + now.reserved
      pub weights : before.reserved_weight ≤ held_weight + now.reserved_weight
      pub first : actor ≡ 0 → (now.reserved ≡ before.reserved) × (now.reserved_weight ≡ before.reserved_weight)

-- what stands in the slot is within the limits and fits the rules
pub record IsWithin {E : Type 0} (bytes : E → ℕ) (fits : List E → Type 0) (c : Content E) : Type 0 where
  pub items : length c.items + c.reserved ≤ c.limits.items
  pub weight : sum_by bytes c.items + c.reserved_weight ≤ c.limits.weight
  pub fitting : fits c.items

module _ {E : Type 0} (actor_of : E → ℕ) where
  -- a seat that has taken what stood in the slot may leave what stands there now
  abbrev pub CanLeave : Me (Content E) (View E) → Type 0
  CanLeave m = (m.0.is_live ≡ true) × ((before now : Content E) × (m.0.taken ≡ Some before) × (m.1 ≡ (0, now) ∷ []) × MayLeave actor_of m.0.actor m.0.held_items m.0.held_weight before now)

-- a seat as contracts see it
abbrev pub seat_view : {E : Type 0} → TableId → View E → SeatView E
seat_view table v = record { tape = record { table = table; limits = v.limits }; actor = v.actor; seen = v.seen; mine = v.mine; held_items = v.held_items; held_weight = v.held_weight; out_count = v.out_count; out_weight = v.out_weight; visits = v.visits; own = v.own; made = v.made }

-- a seat that is joined to the first one, and the first one after some were
abbrev pub gone_seat : {E : Type 0} → SeatView E → Gone E
gone_seat s = record { actor = s.actor; seen = s.seen; mine = s.mine; visits = s.visits; own = s.own }

abbrev pub with_joined : {E : Type 0} → Me (Content E) (View E) → List (Gone E) → Me (Content E) (View E)
with_joined m gone = (record m.0 { joined = m.0.joined ++ gone }, m.1)

-- The rule of a tape's table: word 0 is the next ticket, word 1 the ticket that is served, and the slot has what the seats take turns with.
use Rattle.std.specs.Prelude.{◌≡◌, ◌≢◌, ℕ, ◌+◌, ◌<◌, ◌≤◌, Bool, true, false, cond, List, [], ◌∷◌, ◌++◌, length, sum_by, None, Some, Contains, ◌⊎◌}
use mathlib.Core.List.{IsPrefix}
use mathlib.Core.Option.{Option, none, some}
use lib.ListN.{get_elem?}
use Rattle.atomic_table.specs.Table.{State}
use Rattle.acc_tape.specs.declared.content.Limits.{Limits}
use Rattle.acc_tape.specs.declared.content.Content.{Content}
use Rattle.acc_tape.specs.declared.view.View.{View}
use Rattle.acc_tape.specs.declared.view.Gone.{Gone}
use Rattle.acc_tape.specs.declared.view.Visit.{Visit}
use Rattle.acc_tape.specs.Lists.{items_of}
use Rattle.acc_tape.specs.Visits.{visits_of, AreReserved}

abbrev pub one_if : Bool → ℕ
one_if b = cond b 1 0

module _ {E : Type 0} where
  -- what stands in the slot is b, or a seat has taken it
  abbrev pub SlotIs : List (View E) → Content E → Option (Content E) → Type 0
  SlotIs views b slot = (slot ≡ some b) ⊎ ((slot ≡ none) × ((id : ℕ) × (v : View E) × (get_elem? views id ≡ some v) × (v.is_live ≡ true) × (v.taken ≡ Some b)))

  -- a seat that was joined to the first one has no ticket, no turn and no reservation
  abbrev pub IsSpent : View E → Type 0
  IsSpent v = (v.ticket ≡ None) × (v.taken ≡ None) × (v.held_items ≡ 0) × (v.held_weight ≡ 0)

  -- the first seat after it was split for the actor that the slot named, and the new seat
  abbrev pub splitter : View E → View E
  splitter v = record v { made = v.made ++ v.named ∷ [] }

  abbrev pub newcomer : View E → View E
  newcomer v = record v { actor = v.named; mine = []; held_items = 0; held_weight = 0; own = []; made = []; joined = [] }

  -- the first seat after another was joined to it
  abbrev pub gone_of : View E → Gone E
  gone_of w = record { actor = w.actor; seen = w.seen; mine = w.mine; visits = w.visits; own = w.own }

  abbrev pub joiner : View E → View E → View E
  joiner v w = record v { joined = v.joined ++ gone_of w ∷ [] }

  -- the view of the first seat of a new tape
  abbrev pub first_view : Limits → View E
  first_view limits = record { is_live = true; limits = limits; actor = 0; seen = []; mine = []; held_items = 0; held_weight = 0; out_count = 0; out_weight = 0; visits = []; own = []; named = 0; made = []; joined = []; ticket = None; taken = None }

  -- the view of a seat that was joined to the first one
  abbrev pub spent_view : View E
  spent_view = record { is_live = false; limits = record { items = 0; weight = 0 }; actor = 0; seen = []; mine = []; held_items = 0; held_weight = 0; out_count = 0; out_weight = 0; visits = []; own = []; named = 0; made = []; joined = []; ticket = None; taken = None }

  -- A seat knows a beginning of all visits, in which its own stand in their order, and knows them all in its turn. What it holds was reserved in its own.
  pub record IsLogged (log : List Visit) (v : View E) : Type 0 where
    pub visits : IsPrefix v.visits log
    pub own : v.own ≡ visits_of v.actor log
    pub turn : (c : Content E) → v.taken ≡ Some c → v.visits ≡ log
    pub holds : AreReserved v.own v.held_items v.held_weight

  -- a seat that was joined to the first one knew such a beginning
  pub record WasLogged (log : List Visit) (g : Gone E) : Type 0 where
    pub visits : IsPrefix g.visits log
    pub own : g.own ≡ visits_of g.actor log

  module _ (actor_of : E → ℕ) where
    -- a seat at its place id: each ticket has one holder and each actor one seat
    pub record Sits (limits : Limits) (b : Content E) (ticket serving : ℕ) (slot : Option (Content E)) (made : List ℕ) (gone : List (Gone E)) (seat_of holder : ℕ → ℕ) (id : ℕ) (v : View E) : Type 0 where
      pub limits_are : v.limits ≡ limits
      pub seen : IsPrefix v.seen b.items
      pub mine : v.mine ≡ items_of actor_of v.actor b.items
      pub seat : seat_of v.actor ≡ id
      pub first : v.actor ≡ 0 → (v.made ≡ made) × (v.joined ≡ gone) × (v.held_items ≡ 0) × (v.held_weight ≡ 0)
      pub among : v.actor ≢ 0 → Contains made v.actor
      pub apart : (g : Gone E) → Contains gone g → g.actor ≢ v.actor
      pub waits : (t : ℕ) → v.ticket ≡ Some t → (serving ≤ t) × (t < ticket) × (holder t ≡ id)
      pub turn : (c : Content E) → v.taken ≡ Some c → (c ≡ b) × (v.ticket ≡ Some serving) × (slot ≡ none)

    -- a seat that was joined to the first one, of which the list has what it entered
    pub record Left (b : Content E) (made : List ℕ) (g : Gone E) : Type 0 where
      pub seen : IsPrefix g.seen b.items
      pub mine : g.mine ≡ items_of actor_of g.actor b.items
      pub among : Contains made g.actor

    pub record Holds (limits : Limits) (s : State (Content E) (View E)) : Type 0 where
      pub b : Content E
      pub ticket : ℕ
      pub serving : ℕ
      pub slot : Option (Content E)
      pub made : List ℕ
      pub gone : List (Gone E)
      pub seat_of : ℕ → ℕ
      pub holder : ℕ → ℕ
      pub words_are : s.words ≡ ticket ∷ serving ∷ []
      pub homes_are : s.homes ≡ slot ∷ []
      pub slot_is : SlotIs s.views b slot
      pub low : ticket ≤ 4611686018427387904
      pub served : serving ≤ ticket
      pub limits_are : b.limits ≡ limits
      -- the seats
      pub live : (id : ℕ) (v : View E) → get_elem? s.views id ≡ some v → v.is_live ≡ true → Sits limits b ticket serving slot made gone seat_of holder id v
      pub spent : (id : ℕ) (v : View E) → get_elem? s.views id ≡ some v → v.is_live ≡ false → IsSpent v
      -- what they hold is what is reserved, and each that was split is live or was joined
      pub reserved : sum_by (λ v. v.held_items) s.views ≡ b.reserved
      pub reserved_weight : sum_by (λ v. v.held_weight) s.views ≡ b.reserved_weight
      -- what is reserved was reserved in visits of the first seat and of those that were split
      pub log : List Visit
      pub logged : (id : ℕ) (v : View E) → get_elem? s.views id ≡ some v → v.is_live ≡ true → IsLogged log v
      pub gone_logged : (g : Gone E) → Contains gone g → WasLogged log g
      pub all_logged : (visit : Visit) → Contains log visit → (visit.actor ≡ 0) ⊎ Contains made visit.actor
      pub summed : AreReserved log b.reserved b.reserved_weight
      pub counted : sum_by (λ v. one_if v.is_live) s.views + length gone ≡ length made + 1
      -- each item is of an actor for which a seat was split, and that seat is live or was joined
      pub all_made : (item : E) → Contains b.items item → Contains made (actor_of item)
      pub no_first : (actor : ℕ) → Contains made actor → actor ≢ 0
      pub left : (g : Gone E) → Contains gone g → Left b made g
      pub accounted : (actor : ℕ) → Contains made actor → ((g : Gone E) × Contains gone g × (g.actor ≡ actor)) ⊎ ((v : View E) × (get_elem? s.views (seat_of actor) ≡ some v) × (v.is_live ≡ true) × (v.actor ≡ actor))

-- Seats as contracts see them.
use Rattle.std.specs.Prelude.{◌≡◌, ◌⊎◌, ℕ, ◌+◌, ◌≤◌, List, [], ◌∷◌, ◌++◌, length, sum_by, take, All, Any}
use mathlib.Core.List.{IsPrefix}
use Rattle.atomic_table.specs.Seated.{TableId}
use Rattle.acc_tape.specs.declared.content.Limits.{Limits}
use Rattle.acc_tape.specs.declared.view.Visit.{Visit}
use Rattle.acc_tape.specs.Lists.{items_of}
use Rattle.acc_tape.specs.Visits.{visits_of, AreReserved}

-- which tape it is, and its limits
pub record TapeName : Type 0 where
  pub table : TableId
  pub limits : Limits

-- The tape of a seat, its actor, the list that it has seen, the items that it entered, how many items and bytes are reserved for it, how many were reserved for all seats at its last call, the visits of all seats at the tape up to its own last one, its own visits, and the actors for which it was split. Each call is a visit. The first seat has actor 0, and it alone is split.
pub record SeatView (E : Type 0) : Type 0 where
  pub tape : TapeName
  pub actor : ℕ
  pub seen : List E
  pub mine : List E
  pub held_items : ℕ
  pub held_weight : ℕ
  pub out_count : ℕ
  pub out_weight : ℕ
  pub visits : List Visit
  pub own : List Visit
  pub made : List ℕ

-- What holds of a seat after each call: it has seen the whole list, which begins with what it had seen and fits the tape's rules. The items of its actor in it are those that it entered, in order. The list and all reservations are within the limits, and what is reserved for the seat is among them. The same of the visits: they begin with those that it knew, and its own stand there in order. All that is reserved was reserved in them, and what is reserved for the seat in its own.
pub record Turns {E : Type 0} (actor_of bytes : E → ℕ) (fits : List E → Type 0) (old new : SeatView E) : Type 0 where
  pub tape : new.tape ≡ old.tape
  pub actor : new.actor ≡ old.actor
  pub seen : IsPrefix old.seen new.seen
  pub mine : items_of actor_of new.actor new.seen ≡ new.mine
  pub within_items : length new.seen + new.out_count ≤ new.tape.limits.items
  pub within_weight : sum_by bytes new.seen + new.out_weight ≤ new.tape.limits.weight
  pub counted : new.held_items ≤ new.out_count
  pub weighed : new.held_weight ≤ new.out_weight
  pub visits : IsPrefix old.visits new.visits
  pub own : visits_of new.actor new.visits ≡ new.own
  pub reserved : AreReserved new.visits new.out_count new.out_weight
  pub holds : AreReserved new.own new.held_items new.held_weight
  pub fitting : fits new.seen

-- The visit comes last of all, and of the seat's own: after visits that begin with those that the seat knew.
pub record Visited {E : Type 0} (old new : SeatView E) (visit : Visit) : Type 0 where
  pub before : List Visit
  pub last : new.visits ≡ before ++ visit ∷ []
  pub begins : IsPrefix old.visits before
  pub own_last : new.own ≡ old.own ++ visit ∷ []

-- All visits that there were, in one order, in which each seat knew a beginning and its own stand in their order: each is one of the first seat or of one of the others.
pub record InOneOrder {E : Type 0} (first : SeatView E) (others : List (SeatView E)) : Type 0 where
  pub all : List Visit
  pub first_knew : IsPrefix first.visits all
  pub first_own : visits_of first.actor all ≡ first.own
  pub seats : All (λ (seat : SeatView E). IsPrefix seat.visits all × (visits_of seat.actor all ≡ seat.own)) others
  pub owned : All (λ (visit : Visit). (visit.actor ≡ first.actor) ⊎ Any (λ (seat : SeatView E). seat.actor ≡ visit.actor) others) all

-- The item fits after every list that fits, begins with what the seat has seen and has no other item of its actor than those that the seat entered. So it may be entered whatever others entered meanwhile.
abbrev pub FitsBehind : {E : Type 0} → (E → ℕ) → (List E → Type 0) → SeatView E → E → Type 0
FitsBehind {E} actor_of fits seat item = (before : List E) → IsPrefix seat.seen before → items_of actor_of seat.actor before ≡ seat.mine → fits before → fits (before ++ item ∷ [])

-- The same of items that are entered one after another: whatever others entered, each front of them fits.
abbrev pub FitAllBehind : {E : Type 0} → (E → ℕ) → (List E → Type 0) → SeatView E → List E → Type 0
FitAllBehind {E} actor_of fits seat entering = (before : List E) → IsPrefix seat.seen before → items_of actor_of seat.actor before ≡ seat.mine → fits before → (k : ℕ) → fits (before ++ take k entering)

-- The items stand last, after a list that fits, begins with what the seat had seen, and has of the seat's actor just what the seat had entered.
pub record ComeLast {E : Type 0} (actor_of : E → ℕ) (fits : List E → Type 0) (old : SeatView E) (seen entering : List E) : Type 0 where
  pub before : List E
  pub seen_is : seen ≡ before ++ entering
  pub begins : IsPrefix old.seen before
  pub mine : items_of actor_of old.actor before ≡ old.mine
  pub fitting : fits before

-- the same of one item
abbrev pub ComesLast : {E : Type 0} → (E → ℕ) → (List E → Type 0) → SeatView E → List E → E → Type 0
ComesLast actor_of fits old seen item = ComeLast actor_of fits old seen (item ∷ [])

-- The visits of seats at a tape, one after the other.
use Rattle.std.specs.Prelude.{◌≡◌, ℕ, ◌+◌, List, sum_by}
use Rattle.acc_tape.specs.declared.view.Visit.{Visit}
use Rattle.acc_tape.specs.Lists.{items_of}

-- the visits of the seat of an actor, in their order
abbrev pub visits_of : ℕ → List Visit → List Visit
visits_of actor visits = items_of (λ (visit : Visit). visit.actor) actor visits

-- a visit in which nothing was reserved and nothing given up, one in which so much was reserved, and one in which so much was given up
abbrev pub plain_visit : ℕ → Visit
plain_visit actor = record { actor = actor; items = 0; weight = 0; items_back = 0; weight_back = 0 }

abbrev pub reserving : ℕ → ℕ → ℕ → Visit
reserving actor items weight = record { actor = actor; items = items; weight = weight; items_back = 0; weight_back = 0 }

abbrev pub giving_up : ℕ → ℕ → ℕ → Visit
giving_up actor items weight = record { actor = actor; items = 0; weight = 0; items_back = items; weight_back = weight }

-- So many items and bytes are reserved after the visits: those that were reserved without those that were given up.
pub record AreReserved (visits : List Visit) (count bytes : ℕ) : Type 0 where
  pub items_are : sum_by (λ (visit : Visit). visit.items) visits ≡ count + sum_by (λ (visit : Visit). visit.items_back) visits
  pub weight_is : sum_by (λ (visit : Visit). visit.weight) visits ≡ bytes + sum_by (λ (visit : Visit). visit.weight_back) visits

-- Lists of items.
use Rattle.std.specs.Prelude.{ℕ, ◌==◌, List, filter}

-- the items of an actor, in their order
abbrev pub items_of : {E : Type 0} → (E → ℕ) → ℕ → List E → List E
items_of actor_of actor items = filter (λ item. actor_of item == actor) items

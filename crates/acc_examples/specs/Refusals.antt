-- A promise of a run that holds of each of some lists of items, or of none of them.
use Rattle.std.specs.Prelude.{List}
use Rattle.std.specs.List.{AllByRecursion}
use Rattle.acc_message.specs.declared.item.Item.{Item}

abbrev pub HoldsOfEach : (List Item → Type 0) → List (List Item) → Type 0
HoldsOfEach Promise lists = AllByRecursion Promise lists

abbrev pub HoldsOfNone : (List Item → Type 0) → List (List Item) → Type 0
HoldsOfNone Promise lists = AllByRecursion (λ items. Promise items → ⊥) lists

-- The values of a list whose copies share them.
use Rattle.std.specs.Prelude.{List, [], Option, None, Some, Vec}
use Rattle.std.specs.Arc.{arc_value}
use Rattle.std.specs.declared.sync.Arc.{Arc}

-- none where nothing is held
abbrev pub items_of : {T A B : Type 0} → Option (Arc (Vec T A) B) → List T
items_of None = []
items_of (Some items) = (arc_value items).items

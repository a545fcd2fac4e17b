-- Pairs of a key and a cell, whose copies share them.
use Rattle.std.specs.Prelude.{List, [], ◌∷◌, Option}
use Rattle.std.specs.Arc.{arc_value}
use Rattle.acc_value.specs.declared.key.Key.{Key}
use Rattle.acc_value.specs.declared.value.Value.{Value}
use Rattle.acc_value.specs.declared.shared_pairs.Form.{Form}
use Rattle.acc_value.specs.declared.shared_pairs.Form.TheVariants.{Nothing, One, Many}

-- the pairs of each form
abbrev pub pairs_of : Form → List (Key × Option Value)
pairs_of Nothing = []
pairs_of (One alone) = arc_value alone ∷ []
pairs_of (Many pairs) = (arc_value pairs).items

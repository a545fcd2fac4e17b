-- The values of a list, of which one alone stands in place.
use Rattle.std.specs.Prelude.{List, []}
use Rattle.acc_base.specs.declared.short_list.Form.{Form}
use Rattle.acc_base.specs.declared.short_list.Form.TheVariants.{Nothing, One, Many}

-- the values of each form
abbrev pub values_of : {T : Type 0} → Form T → List T
values_of Nothing = []
values_of (One alone) = alone
values_of (Many values) = values.value.items

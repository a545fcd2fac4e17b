-- A text that stands in place if it is short.
use Rattle.std.specs.Prelude.{ℕ, List}
use Rattle.std.specs.Arc.{arc_value}
use Rattle.acc_base.specs.declared.inline.Form.{Form}
use Rattle.acc_base.specs.declared.inline.Form.TheVariants.{Short, Long}

-- the bytes of either form
abbrev pub bytes_of : Form → List ℕ
bytes_of (Short bytes) = bytes
bytes_of (Long items) = (arc_value items).items

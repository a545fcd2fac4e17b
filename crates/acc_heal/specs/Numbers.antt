-- Numbers, as they are kept.
use Rattle.std.specs.Prelude.{ℕ, List}
use Rattle.acc_heal.specs.declared.numbers.Form.{Form}
use Rattle.acc_heal.specs.declared.numbers.Form.TheVariants.{Narrow, Wide}

-- the numbers of each form
abbrev pub numbers_of : Form → List ℕ
numbers_of (Narrow numbers) = numbers.items
numbers_of (Wide numbers) = numbers.items

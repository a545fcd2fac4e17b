-- The values that cells hold.
use Rattle.std.specs.Prelude.{ℕ, ℤ, Bool, nat_eq, List, Option, Some, None}
use Rattle.std.specs.Option.{option_eq}
use Rattle.std.specs.Ordering.{on, eq_of_both, int_eq}
use Rattle.std.specs.Cmp.Lexicographic.{pointwise}
use Rattle.acc_value.specs.declared.value.Value.{Value}
use Rattle.acc_value.specs.declared.value.Value.TheVariants.{Number, Text}

-- the number or the text that a value is
abbrev pub number_in : Value → Option ℤ
number_in (Number number) = Some number
number_in (Text text) = None

abbrev pub text_in : Value → Option (List ℕ)
text_in (Number number) = None
text_in (Text text) = Some text

-- the two are one value
abbrev pub value_eq : Value → Value → Bool
value_eq = eq_of_both (on number_in (option_eq int_eq)) (on text_in (option_eq (pointwise nat_eq)))

-- Whether a body has a text value.
use Rattle.std.specs.Prelude.{Bool, true, false, List}
use Rattle.std.specs.List.{list_any}
use Rattle.acc_txn.specs.declared.parts.Term.{Term}
use Rattle.acc_txn.specs.declared.parts.Term.TheVariants.{Number, Name, Null, Text}
use Rattle.acc_txn.specs.declared.parts.Part.{Part}
use Rattle.acc_txn.specs.declared.parts.BodyParts.{BodyParts}
use Rattle.acc_txn.specs.Rules.{some_expression}

abbrev pub is_text_term : Term → Bool
is_text_term (Number number) = false
is_text_term (Name name) = false
is_text_term Null = false
is_text_term (Text text) = true

abbrev pub has_text_term : List Part → Bool
has_text_term sum = list_any (λ part. is_text_term part.term) sum

-- some term of its conditions or of its updates is a text
abbrev pub has_text_value : BodyParts → Bool
has_text_value parts = some_expression has_text_term parts

-- Terms that a text of the language can say. Numbers fit 64 bits with their signs, as their type has it; text values are said in
-- version 2 alone, which the flag `texts` tells.
use Rattle.std.specs.Prelude.{◌^◌, Bool, false, not, nat_lt, ℤ, pos, negsuc, List, ◌≡◌}
use Rattle.std.specs.List.{list_any}
use Rattle.acc_txn.specs.declared.parts.Term.{Term}
use Rattle.acc_txn.specs.declared.parts.Term.TheVariants.{Number, Name, Null, Text}
use Rattle.acc_txn.specs.declared.parts.Part.{Part}
use Rattle.acc_txn.specs.declared.parts.BodyParts.{BodyParts}
use Rattle.acc_txn.specs.Rules.{some_expression}

-- the number is below -2^63 or above 2^63 - 1
abbrev pub is_wide : ℤ → Bool
is_wide (pos n) = not (nat_lt n (2 ^ 63))
is_wide (negsuc n) = not (nat_lt n (2 ^ 63))

-- no text says the term
abbrev pub is_unsaid : Bool → Term → Bool
is_unsaid texts (Number number) = is_wide number
is_unsaid texts (Name name) = false
is_unsaid texts Null = false
is_unsaid texts (Text text) = not texts

abbrev pub has_unsaid_term : Bool → List Part → Bool
has_unsaid_term texts sum = list_any (λ part. is_unsaid texts part.term) sum

-- each term of the body can be said
abbrev pub IsSaid : Bool → BodyParts → Type 0
IsSaid texts parts = some_expression (has_unsaid_term texts) parts ≡ false

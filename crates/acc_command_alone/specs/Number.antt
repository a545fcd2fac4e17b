-- Words that spell a number of a range.
use Rattle.std.specs.Prelude.{◌≡◌, ◌≤◌, ℕ, List, Option, Some, None}
use Rattle.std.specs.Str.Parse.{digits_value, without_leading_plus, IsNumeral}

-- the number that the digits after a plus sign or without one give
abbrev pub value_of : List ℕ → ℕ
value_of word = digits_value 10 (without_leading_plus word)

-- one or more decimal digits, with a plus sign in front or without, that give a number of the range
pub record SpellsIn (least most : ℕ) (word : List ℕ) : Type 0 where
  pub digits : IsNumeral 10 (without_leading_plus word)
  pub above : least ≤ value_of word
  pub below : value_of word ≤ most

-- the number that a word spells, or none where it spells none of the range
abbrev pub IsNumberOf : ℕ → ℕ → List ℕ → Option ℕ → Type 0
IsNumberOf least most word (Some n) = SpellsIn least most word × (n ≡ value_of word)
IsNumberOf least most word None = ¬ (SpellsIn least most word)

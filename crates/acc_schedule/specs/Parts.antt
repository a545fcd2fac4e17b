-- Names and the parts of paths, as the reader has them.
use Rattle.std.specs.Prelude.{ℕ, List, Bool, decimal}
use Rattle.std.specs.List.{list_any}
use Rattle.std.specs.Borrow.{Bor}
use Rattle.std.specs.Str.{bytes_eq}
use Rattle.acc_schedule.specs.declared.path.Part.{Part}
use Rattle.acc_schedule.specs.declared.path.Part.TheVariants.{Field, Place}

abbrev pub part_text : Part → List ℕ
part_text (Field name) = name.now
part_text (Place place) = decimal place

-- the key is one of the names
abbrev pub is_among : List ℕ → List (Bor (List ℕ)) → Bool
is_among key names = list_any (λ name. bytes_eq key name.now) names

-- The lines of looks.
use Rattle.std.specs.Prelude.{ℕ, ◌+◌, List, [], ◌∷◌, ◌++◌, Option, None, Some, codes, decimal}
use Rattle.acc_report_line.specs.Texts.{cell_text}
use Rattle.acc_glance.specs.declared.seen.Seen.{Seen}
use Rattle.acc_glance.specs.declared.seen.Sight.{Sight}

abbrev pub end_text : ℕ → Option Sight → List ℕ
end_text from None = codes "open from " ++ decimal from
end_text from (Some sight) =
    cell_text sight.cell ++ codes " from " ++ decimal from ++ codes " at " ++ decimal sight.at ++ codes " to " ++ decimal sight.to

abbrev pub seen_text : ℕ → Seen → List ℕ
seen_text number seen = codes "glance " ++ decimal number ++ codes " " ++ end_text seen.from seen.end ++ codes "\n"

-- from this number on
abbrev pub seens_text_from : ℕ → List Seen → List ℕ
seens_text_from number [] = []
seens_text_from number (seen ∷ seens) = seen_text number seen ++ seens_text_from (number + 1) seens

abbrev pub seens_text : List Seen → List ℕ
seens_text seens = seens_text_from 0 seens

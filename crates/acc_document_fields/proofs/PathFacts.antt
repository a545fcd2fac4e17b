-- The text of a path that goes one field on.
use Rattle.std.proofs.Common.{◌≡◌, ℕ, List, [], ◌∷◌, ◌++◌, ap, ◌∙◌}
use Rattle.std.proofs.lemmas.Grind.{flat_map-append}
use Rattle.std.proofs.lemmas.List.{append-nil}
use Rattle.acc_schedule.specs.Paths.{Path, pointer, path_text}

pub path_text-inside : (path : Path) (name : List ℕ) → path_text (path ++ name ∷ []) ≡ pointer path ++ 47 ∷ name
path_text-inside [] name = append-nil (47 ∷ name)
path_text-inside (part ∷ path) name =
    flat_map-append (λ part. 47 ∷ part) (part ∷ path) (name ∷ []) ∙ ap (λ text. pointer (part ∷ path) ++ text) (append-nil (47 ∷ name))

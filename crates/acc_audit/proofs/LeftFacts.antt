-- A list of names that is gone through from its front.
use Rattle.std.proofs.Common.{◌≡◌, ℕ, ◌+◌, ◌<◌, List, [], ◌∷◌, length, take, drop, get_or, Bool, true, ◌&&◌, ⊎_elim, sym, ap, ap₂, ◌∙◌, arith, add-one, drop-cons}
use Rattle.std.specs.List.{list_all}
use Rattle.std.proofs.lemmas.Bool.{cases_lt}
use Rattle.std.proofs.lemmas.List.{drop_all, length-drop, take_all}
use Rattle.std.proofs.lemmas.List.Folds.{list_all_more}

next_left : (names : List (List ℕ)) (i : ℕ) → i < length names → drop i names ≡ get_or names i [] ∷ drop (i + 1) names
next_left names i h = rw add-one (drop-cons names i [] h)

-- what is left after some names is the next one, and what is left after it
pub left_more : (names rest others : List (List ℕ)) (i : ℕ) (name : List ℕ) → rest ≡ drop i names → rest ≡ name ∷ others
    → (i < length names) × (name ≡ get_or names i []) × (others ≡ drop (i + 1) names)
left_more names rest others i name left first =
    ⊎_elim (λ less.
    let both : name ∷ others ≡ get_or names i [] ∷ drop (i + 1) names = sym first ∙ left ∙ next_left names i less in
    let one : name ≡ get_or names i [] = cc in
    let more : others ≡ drop (i + 1) names = cc in
    (less, one, more)) (λ most.
    let none : name ∷ others ≡ [] = sym first ∙ left ∙ drop_all i names most in absurd cc) (cases_lt i (length names))

-- where nothing is left, these are all of them
pub left_none : (names rest : List (List ℕ)) (i : ℕ) → rest ≡ drop i names → rest ≡ [] → take i names ≡ names
left_none names rest i left none =
    let short : length (drop i names) ≡ 0 = ap length (sym left ∙ none) in
    take_all i names (omega (arith, short, length-drop i names))

-- one name more is as the others are
pub all_so_far : (test : List ℕ → Bool) (names : List (List ℕ)) (i : ℕ) (name : List ℕ) → i < length names → name ≡ get_or names i [] → list_all test (take i names) ≡ true → test name ≡ true
    → list_all test (take (i + 1) names) ≡ true
all_so_far test names i name within at so_far here =
    list_all_more test names i [] within ∙ ap₂ ◌&&◌ so_far (ap test (sym at) ∙ here)

-- Tests of all elements of a list, from its front.
use Rattle.std.proofs.Common.{◌≡◌, ℕ, ◌+◌, ◌<◌, Bool, true, false, ◌&&◌, List, [], ◌∷◌, ◌++◌, length, get_or, take, drop, refl, sym, ap, ◌∙◌}
use Rattle.std.specs.List.{list_all}
use Rattle.std.proofs.lemmas.List.{take_more, drop_more, take-append-drop}

and_and : (a b c : Bool) → ((a && b) && c) ≡ (a && (b && c))
and_and true b c = refl
and_and false b c = refl

and_true : (a : Bool) → a ≡ (a && true)
and_true true = refl
and_true false = refl

and_false : (a : Bool) → (a && false) ≡ false
and_false true = refl
and_false false = refl

module _ {A : Type 0} (p : A → Bool) where
  all_both : (xs ys : List A) → list_all p (xs ++ ys) ≡ (list_all p xs && list_all p ys)
  all_both [] ys = refl
  all_both (x ∷ xs) ys = ap (λ b. p x && b) (all_both xs ys) ∙ sym (and_and (p x) (list_all p xs) (list_all p ys))

  pub all_more : (xs : List A) (i : ℕ) (d : A) → i < length xs → list_all p (take i xs) ≡ true → p (get_or xs i d) ≡ true → list_all p (take (i + 1) xs) ≡ true
  all_more xs i d within so_far here =
      ap (list_all p) (take_more xs i d within) ∙ all_both (take i xs) (get_or xs i d ∷ [])
      ∙ ap (λ b. b && (p (get_or xs i d) && true)) so_far ∙ ap (λ b. b && true) here

  pub not_all_here : (xs : List A) (i : ℕ) (d : A) → i < length xs → p (get_or xs i d) ≡ false → list_all p xs ≡ false
  not_all_here xs i d within here =
      ap (list_all p) (sym (take-append-drop i xs)) ∙ all_both (take i xs) (drop i xs)
      ∙ ap (λ list. list_all p (take i xs) && list_all p list) (drop_more xs i d within)
      ∙ ap (λ b. list_all p (take i xs) && (b && list_all p (drop (i + 1) xs))) here
      ∙ and_false (list_all p (take i xs))

-- The first of a list that passes a test.
use Rattle.std.proofs.Common.{◌≡◌, ℕ, ◌+◌, ◌<◌, ◌≤◌, Bool, true, false, cond, List, [], ◌∷◌, ◌++◌, length, take, drop, get_or, take_all, None, Some, refl, sym, ◌∙◌, ap}
use Rattle.std.specs.List.{find}
use Rattle.std.proofs.lemmas.List.{append_assoc, take-append-drop, take_more}

module _ {T : Type 0} (p : T → Bool) where
  after_none : (xs ys : List T) → find p xs ≡ None → find p (xs ++ ys) ≡ find p ys
  after_none [] ys none = refl
  after_none (x ∷ xs) ys none = by (p x) none (after_none xs ys)
    where
      by : (b : Bool) → cond b (Some x) (find p xs) ≡ None → (find p xs ≡ None → find p (xs ++ ys) ≡ find p ys) → cond b (Some x) (find p (xs ++ ys)) ≡ find p ys
      by true none rest = absurd cc
      by false none rest = rest none

  at_place : (xs : List T) (i : ℕ) (d : T) → i < length xs → xs ≡ take i xs ++ get_or xs i d ∷ drop (i + 1) xs
  at_place xs i d within =
      sym (take-append-drop (i + 1) xs) ∙ ap (λ front. front ++ drop (i + 1) xs) (take_more xs i d within) ∙ append_assoc (take i xs) (get_or xs i d ∷ []) (drop (i + 1) xs)

  pub found_at : (xs ys : List T) (i : ℕ) (d : T) → xs ≡ ys → i < length xs → find p (take i xs) ≡ None → p (get_or xs i d) ≡ true → Some (get_or xs i d) ≡ find p ys
  found_at xs ys i d same within none passes =
      sym
      (ap (find p) (sym same ∙ at_place xs i d within) ∙ after_none (take i xs) (get_or xs i d ∷ drop (i + 1) xs) none
      ∙ ap (λ (b : Bool). cond b (Some (get_or xs i d)) (find p (drop (i + 1) xs))) passes)

  pub none_up_to : (xs : List T) (i : ℕ) (d : T) → i < length xs → find p (take i xs) ≡ None → p (get_or xs i d) ≡ false → find p (take (i + 1) xs) ≡ None
  none_up_to xs i d within none fails =
      ap (find p) (take_more xs i d within) ∙ after_none (take i xs) (get_or xs i d ∷ []) none ∙ ap (λ (b : Bool). cond b (Some (get_or xs i d)) None) fails

  pub none_at_all : (xs ys : List T) (i : ℕ) → xs ≡ ys → length xs ≤ i → find p (take i xs) ≡ None → None ≡ find p ys
  none_at_all xs ys i same all none = sym (ap (find p) (sym same ∙ sym (take_all i xs all)) ∙ none)

-- A loop over a list by value: the items so far and those that are left.
use Rattle.std.proofs.Common.{◌≡◌, ℕ, List, [], ◌∷◌, ◌++◌, length, refl, sym, ◌∙◌, ap, arith}
use Rattle.std.proofs.lemmas.List.{append_assoc, append-nil}

module _ {X : Type 0} where
  pub one_more : (before : List X) (x : X) (left after all : List X) → before ++ left ≡ all → left ≡ x ∷ after → (before ++ x ∷ []) ++ after ≡ all
  one_more before x left after all is next = append_assoc before (x ∷ []) after ∙ ap (λ l. before ++ l) (sym next) ∙ is

  none_left : (left : List X) → length left ≡ 0 → left ≡ []
  none_left [] h = refl
  none_left (x ∷ left) h = absurd (omega (arith, h))

  pub all_out : (before left all : List X) (len : ℕ) → before ++ left ≡ all → len ≡ length left → len ≡ 0 → before ≡ all
  all_out before left all len is count none =
      sym (append-nil before) ∙ ap (λ l. before ++ l) (sym (none_left left (sym count ∙ none))) ∙ is

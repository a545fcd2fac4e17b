-- Promises of a run that a test decides, so that examples are computed: the tests of all elements.
use Rattle.std.proofs.Common.{◌≡◌, Bool, true, false, List, [], ◌∷◌, Contains, sym, ◌∙◌}
use Rattle.std.specs.List.{AllByRecursion, list_any, list_all}
use Rattle.std.proofs.lemmas.Bool.{true≢false, and_parts, or_parts}
use Rattle.std.proofs.lemmas.List.Elements.{All-contains, All-contains_itself}
use Rattle.std.proofs.lemmas.List.Sums.{AllPass-from_list_all, list_all-from_AllPass}

module _ {T : Type 0} (test : T → Bool) where
  pub all_sound : (xs : List T) (x : T) → list_all test xs ≡ true → Contains xs x → test x ≡ true
  all_sound xs x h there = All-contains (λ y. test y ≡ true) xs x (AllPass-from_list_all test xs h) there

  pub all_complete : (xs : List T) → ((x : T) → Contains xs x → test x ≡ true) → list_all test xs ≡ true
  all_complete xs h = list_all-from_AllPass test xs (λ k d lt. h _ (All-contains_itself xs k d lt))

  pub each_by : (P : T → Type 0) → ((x : T) → test x ≡ true → P x) → (xs : List T) → list_all test xs ≡ true → AllByRecursion P xs
  each_by P sound [] h = tt
  each_by P sound (x ∷ xs) h =
      let parts = and_parts (test x) (list_all test xs) h in (sound x parts.0, each_by P sound xs parts.1)

  pub none_by : (P : T → Type 0) → ((x : T) → P x → test x ≡ true) → (xs : List T) → list_any test xs ≡ false → AllByRecursion (λ x. P x → ⊥) xs
  none_by P complete [] h = tt
  none_by P complete (x ∷ xs) h =
      let parts = or_parts (test x) (list_any test xs) h in
      ((λ p. true≢false (sym (complete x p) ∙ parts.0)), none_by P complete xs parts.1)

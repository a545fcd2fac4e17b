-- Journals: one payload more, and why none is refused.
use Rattle.std.proofs.Common.{◌≡◌, ℕ, List, [], ◌∷◌, ◌++◌, map, append_assoc, sym, subst, ◌∙◌}
use Rattle.std.proofs.lemmas.List.{append-nil}
use Rattle.acc_payloads.specs.Journals.{EachMay, IsJournalOf, IsBadRecord}

module _ {A : Type 0} (May : List A → A → Type 0) where
  pub each_snoc : (before items : List A) (x : A) → EachMay May before items → May (before ++ items) x → EachMay May before (items ++ x ∷ [])
  each_snoc before [] x each may = (subst (λ (b : List A). May b x) (append-nil before) may, tt)
  each_snoc before (y ∷ items) x each may =
      (each.0, each_snoc (before ++ y ∷ []) items x each.1 (subst (λ (b : List A). May b x) (sym (append_assoc before (y ∷ []) items)) may))

  -- the items of a journal after those of another one are the same, as long as these go on
  module _ (bytes : A → List ℕ) (same : (b c : List A) (x y : A) → May b x → May c y → bytes x ≡ bytes y → x ≡ y) where
    pub no_bad : (front items before : List A) (payload : List ℕ) (behind : List (List ℕ))
        → map bytes items ≡ map bytes before ++ payload ∷ behind → EachMay May front items → EachMay May front before
        → ((x : A) → payload ≡ bytes x → May (front ++ before) x → ⊥) → ⊥
    no_bad front [] [] payload behind e each other bad = absurd cc
    no_bad front [] (y ∷ before) payload behind e each other bad = absurd cc
    no_bad front (x ∷ items) [] payload behind e each other bad =
        let is : payload ≡ bytes x = cc in
        bad x is (subst (λ (b : List A). May b x) (sym (append-nil front)) each.0)
    no_bad front (x ∷ items) (y ∷ before) payload behind e each other bad =
        let heads : bytes x ≡ bytes y = cc in
        let tails : map bytes items ≡ map bytes before ++ payload ∷ behind = cc in
        let one : x ≡ y = same front front x y each.0 other.0 heads in
        let rest : EachMay May (front ++ y ∷ []) items = subst (λ (z : A). EachMay May (front ++ z ∷ []) items) one each.1 in
        no_bad (front ++ y ∷ []) items before payload behind tails rest other.1
        (λ z is may. bad z is (subst (λ (b : List A). May b z) (append_assoc front (y ∷ []) before) may))

    pub never : (payloads : List (List ℕ)) (items : List A) → IsJournalOf bytes May payloads items → (place : ℕ) → IsBadRecord bytes May payloads place → ⊥
    never payloads items journal place b =
        no_bad [] items b.before b.payload b.behind (sym journal.spelled ∙ b.whole) journal.each b.each b.bad

pub each_alike : {A : Type 0} (May Other : List A → A → Type 0) → ((before : List A) (x : A) → May before x → Other before x) → (before items : List A) → EachMay May before items → EachMay Other before items
each_alike May Other to before [] each = tt
each_alike May Other to before (x ∷ items) each = (to before x each.0, each_alike May Other to (before ++ x ∷ []) items each.1)

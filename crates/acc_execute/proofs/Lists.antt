-- The lists of who waits for whom, while they are changed one after another.
use Rattle.std.proofs.Common.{◌≡◌, Bool, true, false, cond, List, [], ◌∷◌, None, Some, ◌⊎◌, inl, inr, ⊎_elim, refl, sym, ap, ◌∙◌, subst}
use Rattle.std.specs.BTreeMap as tree
use Rattle.acc_stamp.specs.declared.stamps.TxnId.{TxnId}
use Rattle.acc_stamp.specs.Stamp.{id_cmp}
use Rattle.acc_record.specs.Shelf.{Waits, watches_in, watchers}
use Rattle.acc_opening.specs.declared.touched.Touched.{Touched}
use Rattle.acc_opening.specs.Touched.{TouchedWaits, is_same, watches_with, watches_now}
use Rattle.acc_opening.proofs.StateFacts.{is_same-true}
use Rattle.acc_actor_laws.proofs.Standing.{not_none}
use Rattle.acc_actor_laws.proofs.OpeningFacts.{some_is}
use Rattle.std.specs.Map.{lookup}
use Rattle.acc_execute.specs.Executed.{FitsIn, AllFit}

module _ (left rest : TouchedWaits) (old new : Waits) (id : TxnId) (change : Touched)
    (first : tree.get id_cmp left id ≡ Some change)
    (taken : (q : TxnId) → tree.get id_cmp rest q ≡ cond (is_same id q) None (tree.get id_cmp left q))
    (changed : watchers new id ≡ watches_with (Some change) (watchers old id))
    (others : (y : TxnId) → is_same id y ≡ false → tree.get id_cmp new y ≡ tree.get id_cmp old y) where
  same_by : (y : TxnId) (b : Bool) → is_same id y ≡ b
      → watches_with (cond b None (tree.get id_cmp left y)) (watchers new y) ≡ watches_now left old y
  same_by y true e =
      let same : id ≡ y = is_same-true id y e in
      ap (watchers new) (sym same) ∙ changed ∙ ap (λ t. watches_with t (watchers old id)) (sym first) ∙ ap (watches_now left old) same
  same_by y false e = ap (λ list. watches_with (tree.get id_cmp left y) (watches_in list)) (others y e)

  -- what is left to be changed makes the same lists
  pub left_same : (y : TxnId) → watches_now rest new y ≡ watches_now left old y
  left_same y = ap (λ t. watches_with t (watchers new y)) (taken y) ∙ same_by y (is_same id y) refl

  fits_by : AllFit left old → (y : TxnId) (t : Touched) (b : Bool) → is_same id y ≡ b → cond b None (tree.get id_cmp left y) ≡ Some t → FitsIn t (tree.get id_cmp new y)
  fits_by fit y t true e there = absurd (not_none t there)
  fits_by fit y t false e there = subst (FitsIn t) (sym (others y e)) (fit y t there)

  pub left_fits : AllFit left old → AllFit rest new
  left_fits fit y t there = fits_by fit y t (is_same id y) refl (sym (taken y) ∙ there)

-- ---- making room

-- each list that is changed fits, or its turn is to come
abbrev pub FitBut : TouchedWaits → List (TxnId × Touched) → Waits → Type 0
FitBut touched rest waits =
    (y : TxnId) (t : Touched) → tree.get id_cmp touched y ≡ Some t → FitsIn t (tree.get id_cmp waits y) ⊎ (lookup (tree.is_at (id_cmp y)) rest ≡ Some t)

module _ (touched : TouchedWaits) (old new : Waits) (id : TxnId) (change : Touched) (rest : List (TxnId × Touched))
    (fits : FitsIn change (tree.get id_cmp new id))
    (kept : (y : TxnId) (t : Touched) → FitsIn t (tree.get id_cmp old y) → FitsIn t (tree.get id_cmp new y)) where
  one_fits : (y : TxnId) (t : Touched) (b : Bool) → is_same y id ≡ b → cond b (Some change) (lookup (tree.is_at (id_cmp y)) rest) ≡ Some t
      → FitsIn t (tree.get id_cmp new y) ⊎ (lookup (tree.is_at (id_cmp y)) rest ≡ Some t)
  one_fits y t true e is =
      inl
      (subst (λ z. FitsIn t (tree.get id_cmp new z)) (sym (is_same-true y id e))
      (subst (λ z. FitsIn z (tree.get id_cmp new id)) (some_is change t is) fits))
  one_fits y t false e is = inr is

  pub fit_more : FitBut touched ((id, change) ∷ rest) old → FitBut touched rest new
  fit_more so_far y t there =
      ⊎_elim (λ f. inl (kept y t f)) (λ is. one_fits y t (is_same y id) refl is) (so_far y t there)

pub fit_first : (touched : TouchedWaits) (waits : Waits) → FitBut touched touched.entries waits
fit_first touched waits y t there = inr there

pub fit_all : (touched : TouchedWaits) (waits : Waits) → FitBut touched [] waits → AllFit touched waits
fit_all touched waits so_far y t there = ⊎_elim (λ f. f) (λ none. absurd (not_none t none)) (so_far y t there)

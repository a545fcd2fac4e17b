-- Marks of messages, with an Apply more.
use Rattle.std.proofs.Common.{◌≡◌, ℕ, ◌≤◌, List, [], ◌∷◌, ◌++◌, length, map, Some, refl, ◌∙◌, ap, arith}
use Rattle.std.specs.List.{AllByRecursion}
use Rattle.std.proofs.lemmas.List.{map-append}
use Rattle.acc_stamp.specs.declared.stamps.TxnId.{TxnId}
use Rattle.acc_heal.specs.Applies.{marked, KeepsMarks}

module _ (before after : List TxnId) (kept : KeepsMarks before after) where
  all_still : (marks : List ℕ) → AllByRecursion (λ mark. mark ≤ length before) marks → map (marked after) marks ≡ map (marked before) marks
  all_still [] within = refl
  all_still (mark ∷ marks) within =
      ap (λ o. o ∷ map (marked after) marks) (kept mark within.0).0 ∙ ap (λ l. marked before mark ∷ l) (all_still marks within.1)

  -- with one mark more
  pub marked_more : (marks : List ℕ) (mark : ℕ) (id : TxnId) → marked after mark ≡ Some id → AllByRecursion (λ m. m ≤ length before) marks
      → map (marked after) (marks ++ mark ∷ []) ≡ map (marked before) marks ++ Some id ∷ []
  marked_more marks mark id points within =
      map-append (marked after) marks (mark ∷ []) ∙ ap (λ l. l ++ marked after mark ∷ []) (all_still marks within)
      ∙ ap (λ o. map (marked before) marks ++ o ∷ []) points

  -- no mark passes the ids
  pub all_within : (marks : List ℕ) → AllByRecursion (λ m. m ≤ length before) marks → AllByRecursion (λ m. m ≤ length after) marks
  all_within [] within = tt
  all_within (m ∷ marks) within = ((kept m within.0).1, all_within marks within.1)

  pub all_within_more : (marks : List ℕ) (mark : ℕ) → mark ≡ length after → AllByRecursion (λ m. m ≤ length before) marks
      → AllByRecursion (λ m. m ≤ length after) (marks ++ mark ∷ [])
  all_within_more [] mark is within = (omega (arith, is), tt)
  all_within_more (m ∷ marks) mark is within = ((kept m within.0).1, all_within_more marks mark is within.1)

-- Decisions agree.
use Rattle.std.proofs.Common.{◌≡◌, ◌⊎◌, inl, inr, ℕ, ◌<◌, ◌≤◌, List, Bool, true, false, not, ◌&&◌, ◌||◌, Some, refl, sym, ap, ◌∙◌, arith, slice_get}
use Rattle.std.specs.List.{list_any}
use Rattle.std.specs.Str.{bytes_eq}
use Rattle.std.proofs.lemmas.Bool.{true≢false, cases_lt}
use Rattle.std.proofs.lemmas.Slice.Eq.{bytes_eq-Decides}
use Rattle.acc_stamp.specs.declared.stamps.Stamp.{Stamp}
use Rattle.acc_stamp.specs.Stamp.{stamp_eq}
use Rattle.acc_stamp.proofs.Order.{stamp_order}
use Rattle.acc_txn.specs.declared.parts.BodyParts.{BodyParts}
use Rattle.acc_message.specs.declared.note.Path.{Path}
use Rattle.acc_report_line.specs.declared.line.Line.{Line}
use Rattle.acc_report_line.specs.declared.line.Line.TheVariants.{Decide}
use Rattle.acc_audit.specs.Said.{decides_another, decides_otherwise}
use Rattle.acc_audit.specs.Fronts.{before}
use Rattle.acc_audit.specs.Rules.{KeepsRules}
use Rattle.acc_audit_laws.specs.Meaning.{LinesAgree, StandsAt}
use Rattle.acc_audit_laws.proofs.Kept.{among_before, test_kept}

both_false : (a b : Bool) → (a || b) ≡ false → (a ≡ false) × (b ≡ false)
both_false false b h = (refl, h)
both_false true b h = absurd (true≢false h)

refuted : (a b : Bool) → a ≡ true → (a && not b) ≡ false → b ≡ true
refuted true true holds fails = refl
refuted true false holds fails = absurd (true≢false fails)
refuted false b holds fails = absurd (true≢false (sym holds))

refuted_back : (a b : Bool) → b ≡ true → (not a && b) ≡ false → a ≡ true
refuted_back true b holds fails = refl
refuted_back false true holds fails = absurd (true≢false fails)
refuted_back false false holds fails = absurd (true≢false (sym holds))

module _ (names : List (List ℕ)) (bodies : List BodyParts) (lines : List Line) (keeps : KeepsRules names bodies lines) where
  -- a decision, and one that stands before it
  in_order : (i j : ℕ) (name other : List ℕ) (t u : Stamp) (p q : Path) (deps more : List (List ℕ)) → i < j → StandsAt lines i (Decide name t p deps) → StandsAt lines j (Decide other u q more) → (other ≡ name → u ≡ t) × (u ≡ t → other ≡ name)
  in_order i j name other t u p q deps more earlier first second =
      let third = test_kept names bodies lines j (Decide other u q more) 2 keeps second in
      let parts = both_false (list_any (decides_otherwise other u) (before lines j)) (list_any (decides_another other u) (before lines j)) third in (
        λ same. (stamp_order.decides u t).0 (refuted (bytes_eq other name) (stamp_eq u t) ((bytes_eq-Decides other name).1 same) (none_of (decides_otherwise other u) parts.0)),
        λ same. (bytes_eq-Decides other name).0 (refuted_back (bytes_eq other name) (stamp_eq u t) ((stamp_order.decides u t).1 same) (none_of (decides_another other u) parts.1)),
      )
    where
      none_of : (test : Line → Bool) → list_any test (before lines j) ≡ false → test (Decide name t p deps) ≡ false
      none_of test none = by_test (test (Decide name t p deps)) refl
        where
          by_test : (b : Bool) → test (Decide name t p deps) ≡ b → b ≡ false
          by_test false is = refl
          by_test true is = sym (sym none ∙ among_before lines i j (Decide name t p deps) test first earlier is)

  same_line : (i j : ℕ) (name other : List ℕ) (t u : Stamp) (p q : Path) (deps more : List (List ℕ)) → i ≡ j → StandsAt lines i (Decide name t p deps) → StandsAt lines j (Decide other u q more) → (name ≡ other → t ≡ u) × (t ≡ u → name ≡ other)
  same_line i j name other t u p q deps more equal first second =
      let one : Some (Decide name t p deps) ≡ Some (Decide other u q more) = sym first ∙ ap (slice_get lines) equal ∙ second in
      (λ same. cc, λ same. cc)

  pub lines_agree : LinesAgree lines
  lines_agree name other t u first second = by_order (cases_lt first.place second.place) (cases_lt second.place first.place)
    where
      by_order : (first.place < second.place) ⊎ (second.place ≤ first.place) → (second.place < first.place) ⊎ (first.place ≤ second.place) → (name ≡ other → t ≡ u) × (t ≡ u → name ≡ other)
      by_order (inl less) more =
          let both = in_order first.place second.place name other t u first.path second.path first.deps second.deps less first.stands second.stands in
          (λ same. sym (both.0 (sym same)), λ same. sym (both.1 (sym same)))
      by_order (inr not_less) (inl less) = in_order second.place first.place other name u t second.path first.path second.deps first.deps less second.stands first.stands
      by_order (inr not_less) (inr not_more) =
          same_line first.place second.place name other t u first.path second.path first.deps second.deps (omega (arith, not_less, not_more)) first.stands second.stands

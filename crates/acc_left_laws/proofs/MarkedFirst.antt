-- Payloads that stand with one mark in front of them, where the version is 2.
use Rattle.std.proofs.Common.{◌≡◌, ℕ, ◌<◌, ◌^◌, Bool, true, false, not, cond, ◌||◌, List, [], ◌∷◌, ◌++◌, length, refl, sym, ap, ◌∙◌, arith}
use Rattle.std.specs.List.{AllByRecursion}
use Rattle.std.specs.Str.{bytes_eq}
use Rattle.std.proofs.lemmas.Bool.{and_from, eq-eqb, true≢false}
use Rattle.std.proofs.lemmas.List.Folds.{list_any-append}
use Rattle.acc_journal.specs.Layout.{AreShort}
use Rattle.acc_message.specs.declared.message.Message.{Message}
use Rattle.acc_message_code.specs.Fitting.{FitsMessage}
use Rattle.acc_message_code.specs.MessageSpelling.{message_bytes}
use Rattle.acc_payloads.specs.Spelling.{mark_bytes}
use Rattle.acc_payloads.specs.Items.{has_mark_among, without_marks, AreMarked, MayBeMarked}
use Rattle.acc_payloads.specs.Journals.{may_mark, EachMay}
use Rattle.acc_payloads.specs.Texts.{has_text}
use Rattle.acc_payloads.proofs.StoreJournals.{no_mark}
use Rattle.acc_left.specs.Leaves.{marked}

-- a payload that is no mark, is short, and has a text value in version 2 alone
pub record IsPayload (version : ℕ) (payload : List ℕ) : Type 0 where
  pub other : bytes_eq payload mark_bytes ≡ false
  pub short : length payload < 2 ^ 32
  pub texts : (m : Message) → FitsMessage m → payload ≡ message_bytes m → has_text m ≡ true → version ≡ 2

abbrev pub ArePayloads : ℕ → List (List ℕ) → Type 0
ArePayloads version payloads = AllByRecursion (IsPayload version) payloads

is_other : (payload : List ℕ) → bytes_eq payload mark_bytes ≡ false → payload ≡ mark_bytes → ⊥
is_other payload other same = true≢false (sym (ap (λ (p : List ℕ). bytes_eq p mark_bytes) same) ∙ other)

or_false : (b : Bool) → (b || false) ≡ b
or_false true = refl
or_false false = refl

still_marked : (before : List (List ℕ)) (payload : List ℕ) → has_mark_among before ≡ true → has_mark_among (before ++ payload ∷ []) ≡ true
still_marked before payload has =
    list_any-append (λ (p : List ℕ). bytes_eq p mark_bytes) before (payload ∷ []) ∙ ap (λ (b : Bool). b || (bytes_eq payload mark_bytes || false)) has

module _ (version : ℕ) where
  after_mark : (payloads before : List (List ℕ)) → has_mark_among before ≡ true → ArePayloads version payloads → EachMay (MayBeMarked version) before payloads
  after_mark [] before has are = tt
  after_mark (payload ∷ payloads) before has are = (
    record { marks = λ same. absurd (is_other payload are.0.other same); texts = λ m fits is text. has },
    after_mark payloads (before ++ payload ∷ []) (still_marked before payload has) are.1,
  )

  without_mark : (payloads before : List (List ℕ)) → (version ≡ 2 → ⊥) → ArePayloads version payloads → EachMay (MayBeMarked version) before payloads
  without_mark [] before none are = tt
  without_mark (payload ∷ payloads) before none are = (
    record { marks = λ same. absurd (is_other payload are.0.other same); texts = λ m fits is text. absurd (none (are.0.texts m fits is text)) },
    without_mark payloads (before ++ payload ∷ []) none are.1,
  )

  not_two : may_mark version false ≡ false → version ≡ 2 → ⊥
  not_two none two = true≢false (sym (and_from _ true (eq-eqb version 2 two) refl) ∙ none)

  at_first : may_mark version false ≡ true → MayBeMarked version [] mark_bytes
  at_first may = record { marks = λ _. may; texts = λ m fits is text. absurd (no_mark m fits is) }

  by_version : (b : Bool) (payload : List ℕ) (payloads : List (List ℕ)) → may_mark version false ≡ b → ArePayloads version (payload ∷ payloads)
      → AreMarked version (cond b (mark_bytes ∷ payload ∷ []) (payload ∷ []) ++ payloads)
  by_version true payload payloads may are = (at_first may, after_mark (payload ∷ payloads) (mark_bytes ∷ []) refl are)
  by_version false payload payloads none are = without_mark (payload ∷ payloads) [] (not_two none) are

  -- they break no rule on marks
  pub first_marked : (payloads : List (List ℕ)) → ArePayloads version payloads → AreMarked version (marked version payloads)
  first_marked [] are = tt
  first_marked (payload ∷ payloads) are = by_version (may_mark version false) payload payloads refl are

  kept : (payloads : List (List ℕ)) → ArePayloads version payloads → without_marks payloads ≡ payloads
  kept [] are = refl
  kept (payload ∷ payloads) are =
      ap (λ (b : Bool). cond (not b) (payload ∷ without_marks payloads) (without_marks payloads)) are.0.other ∙ ap (λ (l : List (List ℕ)). payload ∷ l) (kept payloads are.1)

  kept_by : (b : Bool) (payload : List ℕ) (payloads : List (List ℕ)) → ArePayloads version (payload ∷ payloads)
      → without_marks (cond b (mark_bytes ∷ payload ∷ []) (payload ∷ []) ++ payloads) ≡ payload ∷ payloads
  kept_by true payload payloads are = kept (payload ∷ payloads) are
  kept_by false payload payloads are = kept (payload ∷ payloads) are

  -- and are the payloads again without the mark
  pub first_kept : (payloads : List (List ℕ)) → ArePayloads version payloads → without_marks (marked version payloads) ≡ payloads
  first_kept [] are = refl
  first_kept (payload ∷ payloads) are = kept_by (may_mark version false) payload payloads are

  all_short : (payloads : List (List ℕ)) → ArePayloads version payloads → AreShort payloads
  all_short [] are = tt
  all_short (payload ∷ payloads) are = (are.0.short, all_short payloads are.1)

  short_by : (b : Bool) (payload : List ℕ) (payloads : List (List ℕ)) → ArePayloads version (payload ∷ payloads)
      → AreShort (cond b (mark_bytes ∷ payload ∷ []) (payload ∷ []) ++ payloads)
  short_by true payload payloads are = (omega arith, all_short (payload ∷ payloads) are)
  short_by false payload payloads are = all_short (payload ∷ payloads) are

  pub first_short : (payloads : List (List ℕ)) → ArePayloads version payloads → AreShort (marked version payloads)
  first_short [] are = tt
  first_short (payload ∷ payloads) are = short_by (may_mark version false) payload payloads are

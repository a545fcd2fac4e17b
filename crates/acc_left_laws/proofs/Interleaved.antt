-- A journal with its marks, where what stands between them is known.
use Rattle.std.proofs.Common.{◌≡◌, ℕ, Bool, true, false, not, cond, List, [], ◌∷◌, ◌++◌, map, append-nil, append_assoc, refl, sym, ap, subst, ◌∙◌}
use Rattle.std.specs.Str.{bytes_eq}
use Rattle.std.proofs.lemmas.List.{map-append}
use Rattle.std.proofs.lemmas.Slice.Eq.{bytes_eq-Decides}
use Rattle.acc_payloads.specs.Spelling.{mark_bytes}
use Rattle.acc_payloads.specs.Journals.{EachMay}
use Rattle.acc_payloads.specs.Items.{AreMarked, MayBeMarked, without_marks}

-- the payloads are those of some items, each of which may stand there, and between the marks stand these
pub record Interleaved {X A : Type 0} (bytes : A → List ℕ) (contents : List A → List X) (May : List A → A → Type 0) (before : List A) (payloads : List (List ℕ)) (xs : List X) : Type 0 where
  pub items : List A
  pub spelled : payloads ≡ map bytes items
  pub each : EachMay May before items
  pub contents_are : contents (before ++ items) ≡ contents before ++ xs

module _ {X A : Type 0} (mark : A) (of : X → A) (bytes : A → List ℕ) (contents : List A → List X) (version : ℕ) (mark_is : bytes mark ≡ mark_bytes)
    (past_mark : (before : List A) → contents (before ++ mark ∷ []) ≡ contents before) (past_one : (before : List A) (x : X) → contents (before ++ of x ∷ []) ≡ contents before ++ x ∷ [])
    (May : List A → A → Type 0) (Next : List X → X → Type 0) (may_mark : (before : List A) → MayBeMarked version (map bytes before) mark_bytes → May before mark)
    (may_one : (before : List A) (x : X) → Next (contents before) x → MayBeMarked version (map bytes before) (bytes (of x)) → May before (of x)) where
  abbrev spells : X → List ℕ
  spells x = bytes (of x)

  abbrev Known : List A → List (List ℕ) → List X → Type 0
  Known before payloads xs = Interleaved bytes contents May before payloads xs

  -- what is known of the rest, wherever it stands
  abbrev RestKnown : List (List ℕ) → Type 0
  RestKnown payloads =
      (before : List A) (xs : List X) → EachMay (MayBeMarked version) (map bytes before) payloads → without_marks payloads ≡ map spells xs → EachMay Next (contents before) xs
      → Known before payloads xs

  one_more : (before : List A) (y : A) (payload : List ℕ) (payloads : List (List ℕ)) (new xs : List X) → payload ≡ bytes y → May before y
      → contents (before ++ y ∷ []) ≡ contents before ++ new → Known (before ++ y ∷ []) payloads xs → Known before (payload ∷ payloads) (new ++ xs)
  one_more before y payload payloads new xs is may more rest = record {
    items = y ∷ rest.items;
    spelled = ap (λ (p : List ℕ). p ∷ payloads) is ∙ ap (λ (ps : List (List ℕ)). bytes y ∷ ps) rest.spelled;
    each = (may, rest.each);
    contents_are =
        ap contents (sym (append_assoc before (y ∷ []) rest.items)) ∙ rest.contents_are ∙ ap (λ (l : List X). l ++ xs) more ∙ append_assoc (contents before) new xs;
  }

  marks_past : (before : List A) (y : A) (payload : List ℕ) (payloads : List (List ℕ)) → payload ≡ bytes y → EachMay (MayBeMarked version) (map bytes before ++ payload ∷ []) payloads
      → EachMay (MayBeMarked version) (map bytes (before ++ y ∷ [])) payloads
  marks_past before y payload payloads is marks =
      subst (λ (l : List (List ℕ)). EachMay (MayBeMarked version) l payloads) (ap (λ (p : List ℕ). map bytes before ++ p ∷ []) is ∙ sym (map-append bytes before (y ∷ []))) marks

  module _ (payload : List ℕ) (payloads : List (List ℕ)) (before : List A) (may : MayBeMarked version (map bytes before) payload)
      (marks : EachMay (MayBeMarked version) (map bytes before ++ payload ∷ []) payloads) (rest : RestKnown payloads) where
    at_mark : (xs : List X) → payload ≡ mark_bytes → without_marks payloads ≡ map spells xs → EachMay Next (contents before) xs → Known before (payload ∷ payloads) xs
    at_mark xs is others each =
        one_more before mark payload payloads [] xs (is ∙ sym mark_is) (may_mark before (subst (MayBeMarked version (map bytes before)) is may))
        (past_mark before ∙ sym (append-nil (contents before)))
        (rest (before ++ mark ∷ []) xs (marks_past before mark payload payloads (is ∙ sym mark_is) marks) others (subst (λ (l : List X). EachMay Next l xs) (sym (past_mark before)) each))

    at_one : (xs : List X) → payload ∷ without_marks payloads ≡ map spells xs → EachMay Next (contents before) xs → Known before (payload ∷ payloads) xs
    at_one [] is each = absurd cc
    at_one (x ∷ xs) is each =
        let head : payload ≡ spells x = cc in
        let tail : without_marks payloads ≡ map spells xs = cc in
        one_more before (of x) payload payloads (x ∷ []) xs head (may_one before x each.0 (subst (MayBeMarked version (map bytes before)) head may)) (past_one before x)
        (rest (before ++ of x ∷ []) xs (marks_past before (of x) payload payloads head marks) tail (subst (λ (l : List X). EachMay Next l xs) (sym (past_one before x)) each.1))

    by_mark : (b : Bool) (xs : List X) → bytes_eq payload mark_bytes ≡ b → cond (not b) (payload ∷ without_marks payloads) (without_marks payloads) ≡ map spells xs
        → EachMay Next (contents before) xs → Known before (payload ∷ payloads) xs
    by_mark true xs e is each = at_mark xs ((bytes_eq-Decides payload mark_bytes).0 e) is each
    by_mark false xs e is each = at_one xs is each

  walk : (payloads : List (List ℕ)) → RestKnown payloads
  walk [] before [] marks is each = record {
    items = [];
    spelled = refl;
    each = tt;
    contents_are = ap contents (append-nil before) ∙ sym (append-nil (contents before));
  }
  walk [] before (x ∷ xs) marks is each = absurd cc
  walk (payload ∷ payloads) before xs marks is each = by_mark payload payloads before marks.0 marks.1 (walk payloads) (bytes_eq payload mark_bytes) xs refl is each

  pub interleaved : (payloads : List (List ℕ)) (xs : List X) → AreMarked version payloads → without_marks payloads ≡ map spells xs → EachMay Next (contents []) xs → Known [] payloads xs
  interleaved payloads xs marks is each = walk payloads [] xs marks is each

-- What is read is spelled so, and was checked: selects and sums.
use Rattle.std.proofs.Common.{◌≡◌, ◌≤◌, ℕ, Bool, true, false, not, ◌||◌, ◌&&◌, cond, List, [], ◌∷◌, ◌++◌, length, codes, Option, Some, None, pos, Ok, refl, sym, ap, ◌∙◌, subst, true≢false, inl, inr, arith}
use Rattle.std.specs.Prelude.{neg_ℤ}
use Rattle.acc_token.specs.Tokens.{Token, Word, Mark, Number as Digits, Quoted, Strange, End, token_at, behind, says_word, says_mark}
use Rattle.acc_value.specs.Footprint.{used}
use Rattle.acc_txn.specs.declared.parts.Let.{Let}
use Rattle.acc_txn.specs.declared.parts.Select.{Select}
use Rattle.acc_txn.specs.declared.parts.Select.TheVariants.{Nothing, Names, Get}
use Rattle.acc_txn.specs.declared.parts.Term.{Term}
use Rattle.acc_txn.specs.declared.parts.Term.TheVariants.{Number, Name, Null, Text}
use Rattle.acc_txn.specs.declared.parts.Part.{Part}
use Rattle.acc_lang.specs.declared.error.LangKind.{LangKind}
use Rattle.acc_lang.specs.declared.error.LangKind.TheVariants.{Number as NumberKind}
use Rattle.acc_lang.specs.Faults.{fault_behind_minus, exceeds}
use Rattle.acc_lang.specs.Reading.{◌>>=◌, passed, step, standing_of, from_key, is_number, is_quoted, number_of, text_of, one_item, more_items, items, begins_get, get, selected, select, negative, plain, null, text_value, term, is_sign, part_of, one_part, more_parts, expression, named}
use Rattle.acc_lang.specs.Grammar.{Spells, Each, Behind, NameSpelled, SelectSpelled, TermSpelled, PartSpelled, ExpressionSpelled}
use Rattle.acc_lang.proofs.Taking.{misplaced}
use Rattle.acc_lang.proofs.Steps.{both, taken, word_token, mark_token, number_token, quoted_token, join}
use Rattle.acc_lang.proofs.Fits.{IsFitTerm, IsFitPart, IsFitSum, IsFitSelect, Uses, uses_after_select, at_end, after_at_end}
use Rattle.acc_lang.proofs.Found.{ok_same, word_first, mark_first, from_tokens, from_key_found}
use Rattle.acc_lang.proofs.FoundParts.{each_found, named_found}

-- items and parts are checked by nothing but their count
abbrev pub Any : {S X : Type 0} → S → X → Type 0
Any so_far x = Unit {0}

begins_parts : (a b : Bool) → (a && b) ≡ true → (a ≡ true) × (b ≡ true)
begins_parts true true is = (refl, refl)
begins_parts true false is = cc
begins_parts false b is = cc

pub passed_behind : (found : Option LangKind) (text rest : List ℕ) → passed found text ≡ Ok rest → (found ≡ None) × (behind text ≡ rest)
passed_behind None text rest is = (refl, cc)
passed_behind (Some kind) text rest is = cc

-- a plus or a minus, which tells whether the term is taken away
sign_token : (token : Token) → is_sign token ≡ true → token ≡ Mark (cond (says_mark (codes "-") token) (codes "-") (codes "+"))
sign_token token is = minus (says_mark (codes "-") token) refl is where
  minus : (b : Bool) → says_mark (codes "-") token ≡ b → (says_mark (codes "+") token || b) ≡ true → token ≡ Mark (cond b (codes "-") (codes "+"))
  minus true begins is = mark_token (codes "-") token begins
  minus false begins is = plus (says_mark (codes "+") token) refl is where
    plus : (a : Bool) → says_mark (codes "+") token ≡ a → (a || false) ≡ true → token ≡ Mark (codes "+")
    plus true begins is = mark_token (codes "+") token begins
    plus false begins is = cc

module _ (texts : Bool) where
  pub item_found : (lets : List Let) (so_far : List ℕ) (text : List ℕ) (y : List ℕ × List ℕ) → one_item texts lets false so_far text ≡ Ok y
      → (name : ℕ) × (y.0 ≡ at_end so_far name) × Behind (Mark (codes ",") ∷ []) (NameSpelled lets) name text y.1 × Any so_far name
  unfolding one_item
  item_found lets so_far text y is =
      let a = mark_first texts (codes ",") text _ y is in
      let p = both (named texts false lets (behind text)) _ y a.1 in
      let n = named_found texts false lets (behind text) p.0 p.1 in
      let same = ok_same (so_far ++ p.0.0 ∷ [], p.0.1) y p.2 in
      (p.0.0, sym (ap (λ y. y.0) same), (behind text, (a.0, refl), subst (λ place. NameSpelled lets p.0.0 (behind text) place) (ap (λ y. y.1) same) n.0), tt)

  pub item_full : (lets : List Let) (so_far : List ℕ) (text : List ℕ) (y : List ℕ × List ℕ) → one_item texts lets true so_far text ≡ Ok y → ⊥
  unfolding one_item
  item_full lets so_far text y is =
      let a = mark_first texts (codes ",") text _ y is in
      let p = both (named texts true lets (behind text)) _ y a.1 in
      absurd (true≢false (named_found texts true lets (behind text) p.0 p.1).1)

  pub items_found : (lets : List Let) (text : List ℕ) (y : List ℕ × List ℕ) → items texts lets text ≡ Ok y
      → (name : ℕ) × (names : List ℕ) × (y.0 ≡ name ∷ names) × (a : List ℕ) × (b : List ℕ) × NameSpelled lets name text a
      × Each (Behind (Mark (codes ",") ∷ []) (NameSpelled lets)) names a b × Spells (Mark (codes ";") ∷ []) b y.1 × (length names ≤ 15)
  unfolding items more_items
  items_found lets text y is =
      let p = both (named texts false lets text) _ y is in
      let n = named_found texts false lets text p.0 p.1 in
      let q = both (more_items texts lets 15 (p.0.0 ∷ []) p.0.1) _ y p.2 in
      let e = each_found (says_mark (codes ",")) (one_item texts lets) at_end (Behind (Mark (codes ",") ∷ []) (NameSpelled lets)) Any (item_found lets) (item_full lets) 15 (p.0.0 ∷ []) p.0.1 q.0 q.1 in
      let m = mark_first texts (codes ";") q.0.1 _ y q.2 in
      let same = ok_same (q.0.0, behind q.0.1) y m.1 in
      (p.0.0, e.0, sym (ap (λ y. y.0) same) ∙ e.1 ∙ after_at_end (p.0.0 ∷ []) e.0, p.0.1, q.0.1, n.0, e.2, (m.0, ap (λ y. y.1) same), e.4)

  -- a select that was read after SELECT
  pub selected_found : (uses : Uses) (lets : List Let) (text : List ℕ) (y : (Select × Uses) × List ℕ) → token_at text ≡ Word (codes "select") → selected texts uses lets (behind text) ≡ Ok y
      → SelectSpelled lets y.0.0 text y.1 × IsFitSelect uses y.0.0 × (y.0.1 ≡ uses_after_select uses y.0.0)
  unfolding selected get
  selected_found uses lets text y begins is = chosen (begins_get (behind text)) is where
    get_found : get texts uses (behind text) ≡ Ok y → SelectSpelled lets y.0.0 text y.1 × IsFitSelect uses y.0.0 × (y.0.1 ≡ uses_after_select uses y.0.0)
    get_found is =
        let a = word_first texts (codes "v") (behind text) _ y is in
        let p = both (from_key texts false uses (behind (behind text))) _ y a.1 in
        let k = from_key_found texts false uses (behind (behind text)) p.0 p.1 in
        let m = mark_first texts (codes ";") p.0.1 _ y p.2 in
        let same = ok_same ((Get p.0.0, used uses p.0.0 false), behind p.0.1) y m.1 in
        subst (λ (y : (Select × Uses) × List ℕ). SelectSpelled lets y.0.0 text y.1 × IsFitSelect uses y.0.0 × (y.0.1 ≡ uses_after_select uses y.0.0)) same
        ((begins, (a.0, join (from_tokens p.0.0) (Mark (codes ";") ∷ []) _ _ _ k.0 (m.0, refl))), k.1, refl)

    names_found : (items texts lets (behind text) >>= (λ names. Ok ((Names names.0, uses), names.1))) ≡ Ok y
        → SelectSpelled lets y.0.0 text y.1 × IsFitSelect uses y.0.0 × (y.0.1 ≡ uses_after_select uses y.0.0)
    names_found is =
        let p = both (items texts lets (behind text)) _ y is in
        let i = items_found lets (behind text) p.0 p.1 in
        let same : ((Names (i.0 ∷ i.1), uses), p.0.1) ≡ y = ap (λ names. ((Names names, uses), p.0.1)) (sym i.2) ∙ ok_same ((Names p.0.0, uses), p.0.1) y p.2 in
        subst (λ (y : (Select × Uses) × List ℕ). SelectSpelled lets y.0.0 text y.1 × IsFitSelect uses y.0.0 × (y.0.1 ≡ uses_after_select uses y.0.0)) same
        ((i.3, i.4, (behind text, (begins, refl), i.5), i.6, i.7), omega (arith, i.8), refl)

    chosen : (b : Bool) → cond b (get texts uses (behind text)) (items texts lets (behind text) >>= (λ names. Ok ((Names names.0, uses), names.1))) ≡ Ok y
        → SelectSpelled lets y.0.0 text y.1 × IsFitSelect uses y.0.0 × (y.0.1 ≡ uses_after_select uses y.0.0)
    chosen true is = get_found is
    chosen false is = names_found is

  pub select_found : (uses : Uses) (lets : List Let) (text : List ℕ) (y : (Select × Uses) × List ℕ) → select texts uses lets text ≡ Ok y
      → SelectSpelled lets y.0.0 text y.1 × IsFitSelect uses y.0.0 × (y.0.1 ≡ uses_after_select uses y.0.0)
  unfolding select
  select_found uses lets text y is = chosen (says_word (codes "select") (token_at text)) refl is where
    chosen : (b : Bool) → says_word (codes "select") (token_at text) ≡ b → cond b (selected texts uses lets (behind text)) (Ok ((Nothing, uses), text)) ≡ Ok y
        → SelectSpelled lets y.0.0 text y.1 × IsFitSelect uses y.0.0 × (y.0.1 ≡ uses_after_select uses y.0.0)
    chosen true begins is = selected_found uses lets text y (word_token (codes "select") (token_at text) begins) is
    chosen false begins is =
        subst (λ (y : (Select × Uses) × List ℕ). SelectSpelled lets y.0.0 text y.1 × IsFitSelect uses y.0.0 × (y.0.1 ≡ uses_after_select uses y.0.0)) (ok_same ((Nothing, uses), text) y is) (refl, tt, refl)

  -- a number after a minus sign
  behind_minus : (token : Token) → fault_behind_minus (not texts) token ≡ None → (token ≡ Digits (Some (number_of token))) × (number_of token ≤ 9223372036854775808)
  unfolding fault_behind_minus
  behind_minus (Word letters) none = misplaced (not texts) (Word letters) none
  behind_minus (Mark mark) none = misplaced (not texts) (Mark mark) none
  behind_minus (Digits None) none = cc
  behind_minus (Digits (Some n)) none = (refl, limit n (exceeds 9223372036854775808 (Some n)) refl none) where
    limit : (n : ℕ) (b : Bool) → exceeds 9223372036854775808 (Some n) ≡ b → cond b (Some NumberKind) None ≡ None → n ≤ 9223372036854775808
    limit n true large none = cc
    limit n false small none = grind arith
  behind_minus (Quoted text closed) none = misplaced (not texts) (Quoted text closed) none
  behind_minus Strange none = cc
  behind_minus End none = cc

  pub negative_found : (extra : Bool) (lets : List Let) (text : List ℕ) (y : Term × List ℕ) → token_at text ≡ Mark (codes "-") → negative texts extra text ≡ Ok y
      → TermSpelled texts lets y.0 text y.1 × IsFitTerm y.0 × (extra ≡ false)
  unfolding negative
  negative_found extra lets text y begins is =
      let p = both (step (not texts) (standing_of true extra true) text) _ y is in
      let t = taken (not texts) true extra true text p.0 p.1 in
      let q = both (passed (fault_behind_minus (not texts) (token_at p.0)) p.0) _ y p.2 in
      let f = passed_behind (fault_behind_minus (not texts) (token_at p.0)) p.0 q.0 q.1 in
      let d = behind_minus (token_at p.0) f.0 in
      let n = number_of (token_at p.0) in (
        subst (λ (y : Term × List ℕ). TermSpelled texts lets y.0 text y.1) (ok_same (Number (neg_ℤ (pos n)), q.0) y q.2)
            (inr (n, d.1, refl, (begins, subst (λ place. Spells (Digits (Some n) ∷ []) place q.0) (sym t.follows) (d.0, f.1)))),
        subst (λ (y : Term × List ℕ). IsFitTerm y.0) (ok_same (Number (neg_ℤ (pos n)), q.0) y q.2) tt,
        t.room,
      )

  pub plain_found : (extra : Bool) (lets : List Let) (text : List ℕ) (y : Term × List ℕ) → is_number (token_at text) ≡ true → plain texts extra text ≡ Ok y
      → TermSpelled texts lets y.0 text y.1 × IsFitTerm y.0 × (extra ≡ false)
  unfolding plain
  plain_found extra lets text y begins is =
      let p = both (step (not texts) (standing_of true extra true) text) _ y is in
      let t = taken (not texts) true extra true text p.0 p.1 in
      let d = number_token (token_at text) begins t.sound.small in
      let n = number_of (token_at text) in (
        subst (λ (y : Term × List ℕ). TermSpelled texts lets y.0 text y.1) (ok_same (Number (pos n), p.0) y p.2)
            (inl (n, d.1, refl, (d.0, t.follows))),
        subst (λ (y : Term × List ℕ). IsFitTerm y.0) (ok_same (Number (pos n), p.0) y p.2) tt,
        t.room,
      )

  pub null_found : (extra : Bool) (lets : List Let) (text : List ℕ) (y : Term × List ℕ) → token_at text ≡ Word (codes "null") → null texts extra text ≡ Ok y
      → TermSpelled texts lets y.0 text y.1 × IsFitTerm y.0 × (extra ≡ false)
  unfolding null
  null_found extra lets text y begins is =
      let p = both (step (not texts) (standing_of true extra true) text) _ y is in
      let t = taken (not texts) true extra true text p.0 p.1 in
      subst (λ (y : Term × List ℕ). TermSpelled texts lets y.0 text y.1 × IsFitTerm y.0 × (extra ≡ false)) (ok_same (Null, p.0) y p.2) ((begins, t.follows), tt, t.room)

  pub text_found : (extra : Bool) (lets : List Let) (text : List ℕ) (y : Term × List ℕ) → texts ≡ true → is_quoted (token_at text) ≡ true → text_value texts extra text ≡ Ok y
      → TermSpelled texts lets y.0 text y.1 × IsFitTerm y.0 × (extra ≡ false)
  unfolding text_value
  text_found extra lets text y allowed begins is =
      let p = both (step false (standing_of true extra true) text) _ y is in
      let t = taken false true extra true text p.0 p.1 in
      let q = quoted_token false (token_at text) begins t.sound.whole in
      subst (λ (y : Term × List ℕ). TermSpelled texts lets y.0 text y.1 × IsFitTerm y.0 × (extra ≡ false)) (ok_same (Text (text_of (token_at text)), p.0) y p.2)
      ((allowed, (q.0, t.follows)), q.1, t.room)

  pub term_found : (extra : Bool) (lets : List Let) (text : List ℕ) (y : Term × List ℕ) → term texts extra lets text ≡ Ok y → TermSpelled texts lets y.0 text y.1 × IsFitTerm y.0 × (extra ≡ false)
  unfolding term
  term_found extra lets text y is = signed (says_mark (codes "-") (token_at text)) refl is where
    name_found : (named texts extra lets text >>= (λ name. Ok (Name name.0, name.1))) ≡ Ok y → TermSpelled texts lets y.0 text y.1 × IsFitTerm y.0 × (extra ≡ false)
    name_found is =
        let p = both (named texts extra lets text) _ y is in
        let n = named_found texts extra lets text p.0 p.1 in
        subst (λ (y : Term × List ℕ). TermSpelled texts lets y.0 text y.1 × IsFitTerm y.0 × (extra ≡ false)) (ok_same (Name p.0.0, p.0.1) y p.2) (n.0, tt, n.1)

    word : (b : Bool) → says_word (codes "null") (token_at text) ≡ b → cond b (null texts extra text) (named texts extra lets text >>= (λ name. Ok (Name name.0, name.1))) ≡ Ok y
        → TermSpelled texts lets y.0 text y.1 × IsFitTerm y.0 × (extra ≡ false)
    word true begins is = null_found extra lets text y (word_token (codes "null") (token_at text) begins) is
    word false begins is = name_found is

    text_or_word : (b : Bool) → (is_quoted (token_at text) && texts) ≡ b
        → cond b (text_value texts extra text) (cond (says_word (codes "null") (token_at text)) (null texts extra text) (named texts extra lets text >>= (λ name. Ok (Name name.0, name.1)))) ≡ Ok y
        → TermSpelled texts lets y.0 text y.1 × IsFitTerm y.0 × (extra ≡ false)
    text_or_word true begins is = let b = begins_parts (is_quoted (token_at text)) texts begins in text_found extra lets text y b.1 b.0 is
    text_or_word false begins is = word (says_word (codes "null") (token_at text)) refl is

    unsigned : (b : Bool) → is_number (token_at text) ≡ b
        → cond b (plain texts extra text)
        (cond (is_quoted (token_at text) && texts) (text_value texts extra text)
        (cond (says_word (codes "null") (token_at text)) (null texts extra text) (named texts extra lets text >>= (λ name. Ok (Name name.0, name.1))))) ≡ Ok y
        → TermSpelled texts lets y.0 text y.1 × IsFitTerm y.0 × (extra ≡ false)
    unsigned true begins is = plain_found extra lets text y begins is
    unsigned false begins is = text_or_word (is_quoted (token_at text) && texts) refl is

    signed : (b : Bool) → says_mark (codes "-") (token_at text) ≡ b
        → cond b (negative texts extra text)
        (cond (is_number (token_at text)) (plain texts extra text)
        (cond (is_quoted (token_at text) && texts) (text_value texts extra text)
        (cond (says_word (codes "null") (token_at text)) (null texts extra text) (named texts extra lets text >>= (λ name. Ok (Name name.0, name.1)))))) ≡ Ok y
        → TermSpelled texts lets y.0 text y.1 × IsFitTerm y.0 × (extra ≡ false)
    signed true begins is = negative_found extra lets text y (mark_token (codes "-") (token_at text) begins) is
    signed false begins is = unsigned (is_number (token_at text)) refl is

  pub part_found : (lets : List Let) (so_far : List Part) (text : List ℕ) (y : List Part × List ℕ) → one_part texts lets false so_far text ≡ Ok y
      → (part : Part) × (y.0 ≡ at_end so_far part) × PartSpelled texts lets part text y.1 × IsFitPart so_far part
  unfolding one_part
  part_found lets so_far text y is =
      let p = both (step (not texts) (standing_of (is_sign (token_at text)) false true) text) _ y is in
      let t = taken (not texts) (is_sign (token_at text)) false true text p.0 p.1 in
      let q = both (term texts false lets p.0) _ y p.2 in
      let f = term_found false lets p.0 q.0 q.1 in
      let part = part_of (says_mark (codes "-") (token_at text)) q.0.0 in
      let same = ok_same (so_far ++ part ∷ [], q.0.1) y q.2 in (
        part,
        sym (ap (λ y. y.0) same),
        (p.0, (sign_token (token_at text) t.allows, t.follows), subst (λ place. TermSpelled texts lets q.0.0 p.0 place) (ap (λ y. y.1) same) f.0),
        f.1,
      )

  pub part_full : (lets : List Let) (so_far : List Part) (text : List ℕ) (y : List Part × List ℕ) → one_part texts lets true so_far text ≡ Ok y → ⊥
  unfolding one_part
  part_full lets so_far text y is =
      let p = both (step (not texts) (standing_of (is_sign (token_at text)) false true) text) _ y is in
      let q = both (term texts true lets p.0) _ y p.2 in
      absurd (true≢false (term_found true lets p.0 q.0 q.1).2)

  -- the terms after a first one
  pub parts_found : (lets : List Let) (first : Term) (start text : List ℕ) (y : List Part × List ℕ) → TermSpelled texts lets first start text → IsFitTerm first
      → more_parts texts lets 15 (part_of false first ∷ []) text ≡ Ok y → ExpressionSpelled texts lets y.0 start y.1 × IsFitSum y.0
  unfolding more_parts
  parts_found lets first start text y spelled fit is =
      let e = each_found is_sign (one_part texts lets) at_end (PartSpelled texts lets) IsFitPart (part_found lets) (part_full lets) 15 (part_of false first ∷ []) text y is in
      let all : y.0 ≡ part_of false first ∷ e.0 = e.1 ∙ after_at_end (part_of false first ∷ []) e.0 in
      subst (λ sum. ExpressionSpelled texts lets sum start y.1 × IsFitSum sum) (sym all) ((text, refl, spelled, e.2), record { few = omega (arith, e.4); terms = (fit, e.3) })

  pub expression_found : (lets : List Let) (text : List ℕ) (y : List Part × List ℕ) → expression texts lets text ≡ Ok y
      → ExpressionSpelled texts lets y.0 text y.1 × IsFitSum y.0
  unfolding expression
  expression_found lets text y is =
      let p = both (term texts false lets text) _ y is in
      let f = term_found false lets text p.0 p.1 in
      parts_found lets p.0.0 text p.0.1 y f.0 f.1 p.2

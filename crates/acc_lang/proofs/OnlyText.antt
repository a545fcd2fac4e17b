-- What is spelled and fits is read: sums, conditions and updates.
use Rattle.std.proofs.Common.{◌≡◌, ◌≤◌, ℕ, Bool, true, false, cond, List, [], ◌∷◌, ◌++◌, length, codes, nat_lt, Some, Ok, refl, sym, ap, ◌∙◌, subst, ⊎_elim, arith, not}
use Rattle.std.specs.Prelude.{ℤ}
use Rattle.std.specs.Str.{bytes_eq}
use Rattle.std.proofs.lemmas.Slice.Eq.{bytes_eq-Decides}
use Rattle.acc_token.specs.Tokens.{Mark, token_at, behind, says_word, says_mark}
use Rattle.acc_txn.specs.declared.parts.Let.{Let}
use Rattle.acc_txn.specs.declared.parts.Operator.{Operator}
use Rattle.acc_txn.specs.declared.parts.Operator.TheVariants.{Equal, Differs, Less, AtMost, More, AtLeast}
use Rattle.acc_txn.specs.declared.parts.Term.{Term}
use Rattle.acc_txn.specs.declared.parts.Term.TheVariants.{Number, Name, Null, Text}
use Rattle.acc_txn.specs.declared.parts.Part.{Part}
use Rattle.acc_txn.specs.declared.parts.Condition.{Condition}
use Rattle.acc_txn.specs.declared.parts.Condition.TheVariants.{Compare, IsNull, IsNotNull}
use Rattle.acc_txn.specs.Words.{is_reserved}
use Rattle.acc_lang.specs.Faults.{fault_behind_minus}
use Rattle.acc_lang.specs.Reading.{step, standing_of, take_word, named, negative, plain, null, text_value, term, is_sign, part_of, one_part, more_parts, expression, operator_of, operator, null_test, comparison, condition_from, condition}
use Rattle.acc_lang.specs.Grammar.{Spells, Each, Behind, NumberSpelled, TermSpelled, PartSpelled, ExpressionSpelled, operator_mark, ConditionSpelled}
use Rattle.acc_lang.proofs.Steps.{word_only, takes_word, takes_mark, takes_number, takes_quoted}
use Rattle.acc_lang.proofs.Fits.{IsFitTerm, IsFitPart, IsFitSum, IsFitCondition, AreNamed, InTurn, at_end, after_at_end}
use Rattle.acc_lang.proofs.Only.{then_ok, each_only, named_only}

-- a number within a limit doesn't exceed it
within : (limit n : ℕ) → n ≤ limit → nat_lt limit n ≡ false
within limit n few = grind arith

sign_mark : (minus : Bool) → is_sign (Mark (cond minus (codes "-") (codes "+"))) ≡ true
sign_mark true = refl
sign_mark false = refl

sign_minus : (minus : Bool) → says_mark (codes "-") (Mark (cond minus (codes "-") (codes "+"))) ≡ minus
sign_minus true = refl
sign_minus false = refl

plainly : (part : Part) → part.minus ≡ false → part_of false part.term ≡ part
plainly part is = λ i. record { minus = sym is i; term = part.term }

-- the terms after a first one, which has no sign
others_fit : (first : Part) (parts : List Part) → first.minus ≡ false → InTurn at_end IsFitPart (first ∷ []) parts → InTurn at_end IsFitPart (part_of false first.term ∷ []) parts
others_fit first parts plus fit = subst (λ part. InTurn at_end IsFitPart (part ∷ []) parts) (sym (plainly first plus)) fit

operator_same : (op : Operator) → operator_of (Mark (operator_mark op)) ≡ Some op
operator_same Equal = refl
operator_same Differs = refl
operator_same Less = refl
operator_same AtMost = refl
operator_same More = refl
operator_same AtLeast = refl

operator_no_sign : (op : Operator) → is_sign (Mark (operator_mark op)) ≡ false
operator_no_sign Equal = refl
operator_no_sign Differs = refl
operator_no_sign Less = refl
operator_no_sign AtMost = refl
operator_no_sign More = refl
operator_no_sign AtLeast = refl

-- a word that isn't reserved is no word of the language
not_null : (word : List ℕ) → is_reserved word ≡ false → bytes_eq word (codes "null") ≡ false
not_null word free = tested (bytes_eq word (codes "null")) refl where
  tested : (b : Bool) → bytes_eq word (codes "null") ≡ b → b ≡ false
  tested true same =
      let reserved : is_reserved (codes "null") ≡ false = subst (λ w. is_reserved w ≡ false) ((bytes_eq-Decides word (codes "null")).0 same) free in
      cc
  tested false other = refl

module _ (texts : Bool) where
  number_only : (lets : List Let) (number : ℤ) (text rest : List ℕ) → NumberSpelled number text rest → term texts false lets text ≡ Ok (Number number, rest)
  unfolding term plain negative fault_behind_minus
  number_only lets number text rest spelled =
      ⊎_elim
      (λ plainly.
      let n = plainly.0 in
      let small = within 9223372036854775807 n plainly.1 in
      rw plainly.3.0
      (then_ok (step (not texts) (standing_of true false true) text) _ (behind text) _ (takes_number (not texts) n text plainly.3.0 small)
      (λ i. Ok (Number (sym plainly.2 i), plainly.3.1 i))))
      (λ minus.
      let n = minus.0 in
      let small = within 9223372036854775808 n minus.1 in
      rw minus.3.0
      (then_ok (step (not texts) (standing_of true false true) text) _ (behind text) _ (takes_mark (not texts) (codes "-") text minus.3.0)
      (rw minus.3.1.0 (rw small (λ i. Ok (Number (sym minus.2 i), minus.3.1.1 i))))))
      spelled

  pub term_only : (lets : List Let) (t : Term) (text rest : List ℕ) → AreNamed lets → TermSpelled texts lets t text rest → IsFitTerm t → term texts false lets text ≡ Ok (t, rest)
  unfolding term null text_value
  term_only lets (Number number) text rest names spelled fit = number_only lets number text rest spelled
  term_only lets (Name name) text rest names spelled fit =
      let l = spelled.0 in
      let other = not_null l.name (names.free name l spelled.1).free in
      rw spelled.2.0 (rw other (then_ok (named texts false lets text) _ (name, rest) _ (named_only texts lets name text rest names spelled) refl))
  term_only lets Null text rest names spelled fit =
      rw spelled.0 (then_ok (step (not texts) (standing_of true false true) text) _ (behind text) _ (takes_word (not texts) (codes "null") text spelled.0 refl) (ap (λ place. Ok (Null, place)) spelled.1))
  term_only lets (Text t) text rest names spelled fit =
      rw (spelled.1.0, spelled.0)
      (then_ok (step false (standing_of true false true) text) _ (behind text) _ (takes_quoted false t text spelled.1.0 fit)
      (ap (λ place. Ok (Text t, place)) spelled.1.1))

  pub part_only : (lets : List Let) → AreNamed lets → (so_far : List Part) (part : Part) (text rest : List ℕ) → PartSpelled texts lets part text rest → IsFitPart so_far part
      → (is_sign (token_at text) ≡ true) × (one_part texts lets false so_far text ≡ Ok (at_end so_far part, rest))
  unfolding one_part
  part_only lets names so_far part text rest spelled fit =
      let is = spelled.1.0 in
      let sign : is_sign (token_at text) ≡ true = ap is_sign is ∙ sign_mark part.minus in
      let minus : says_mark (codes "-") (token_at text) ≡ part.minus = ap (says_mark (codes "-")) is ∙ sign_minus part.minus in (
        sign,
        then_ok (step (not texts) (standing_of (is_sign (token_at text)) false true) text) _ (behind text) _
            (rw sign (takes_mark (not texts) (cond part.minus (codes "-") (codes "+")) text is))
            (then_ok (term texts false lets (behind text)) _ (part.term, rest) _
            (ap (term texts false lets) spelled.1.1 ∙ term_only lets part.term spelled.0 rest names spelled.2 fit)
            (ap (λ minus. Ok (so_far ++ part_of minus part.term ∷ [], rest)) minus)),
      )

  -- the terms after a first one
  pub parts_only : (lets : List Let) (first : Term) (parts : List Part) (text rest : List ℕ) → AreNamed lets → Each (PartSpelled texts lets) parts text rest → length parts ≤ 15 → InTurn at_end IsFitPart (part_of false first ∷ []) parts
      → is_sign (token_at rest) ≡ false → more_parts texts lets 15 (part_of false first ∷ []) text ≡ Ok (part_of false first ∷ parts, rest)
  unfolding more_parts
  parts_only lets first parts text rest names spelled few fit ends =
      each_only is_sign (one_part texts lets) at_end (PartSpelled texts lets) IsFitPart (part_only lets names) parts 15 (part_of false first ∷ []) text rest spelled
      fit few ends
      ∙ ap (λ all. Ok (all, rest)) (after_at_end (part_of false first ∷ []) parts)

  pub expression_only : (lets : List Let) (sum : List Part) (text rest : List ℕ) → AreNamed lets → ExpressionSpelled texts lets sum text rest → IsFitSum sum
      → is_sign (token_at rest) ≡ false → expression texts lets text ≡ Ok (sum, rest)
  unfolding expression
  expression_only lets [] text rest names spelled fit ends = absurd spelled
  expression_only lets (first ∷ parts) text rest names spelled fit ends =
      let few = fit.few in
      then_ok (term texts false lets text) _ (first.term, spelled.0) _ (term_only lets first.term text spelled.0 names spelled.2 fit.terms.0)
      (parts_only lets first.term parts spelled.0 rest names spelled.3 (omega arith) (others_fit first parts spelled.1 fit.terms.1) ends
      ∙ ap (λ part. Ok (part ∷ parts, rest)) (plainly first spelled.1))

  operator_only : (op : Operator) (text rest : List ℕ) → Spells (Mark (operator_mark op) ∷ []) text rest → operator texts text ≡ Ok (op, rest)
  unfolding operator
  operator_only op text rest spelled =
      let found : operator_of (token_at text) ≡ Some op = ap operator_of spelled.0 ∙ operator_same op in
      rw found (then_ok (step (not texts) (standing_of true false true) text) _ (behind text) _ (takes_mark (not texts) (operator_mark op) text spelled.0) (ap (λ place. Ok (op, place)) spelled.1))

  comparison_only : (lets : List Let) (op : Operator) (first : Part) (left right : List Part) (text place rest : List ℕ) → AreNamed lets → first.minus ≡ false
      → Each (PartSpelled texts lets) left text place → Behind (Mark (operator_mark op) ∷ []) (ExpressionSpelled texts lets) right place rest
      → IsFitSum (first ∷ left) → IsFitSum right → is_sign (token_at rest) ≡ false
      → comparison texts lets first.term text ≡ Ok (Compare op (first ∷ left) right, rest)
  unfolding comparison
  comparison_only lets op first left right text place rest names plus spelled behind_op fit fit_right ends =
      let few = fit.few in
      then_ok (more_parts texts lets 15 (part_of false first.term ∷ []) text) _ (part_of false first.term ∷ left, place) _
      (parts_only lets first.term left text place names spelled (omega arith) (others_fit first left plus fit.terms.1) (ap is_sign behind_op.1.0 ∙ operator_no_sign op))
      (then_ok (operator texts place) _ (op, behind_op.0) _ (operator_only op place behind_op.0 behind_op.1)
      (then_ok (expression texts lets behind_op.0) _ (right, rest) _ (expression_only lets right behind_op.0 rest names behind_op.2 fit_right ends)
      (ap (λ part. Ok (Compare op (part ∷ left) right, rest)) (plainly first plus))))

  -- after the first term of a comparison stands a sign or an operator, and not IS
  not_is : (lets : List Let) (op : Operator) (left right : List Part) (text place rest : List ℕ) → Each (PartSpelled texts lets) left text place
      → Behind (Mark (operator_mark op) ∷ []) (ExpressionSpelled texts lets) right place rest → says_word (codes "is") (token_at text) ≡ false
  not_is lets op [] right text place rest spelled behind_op = ap (λ at. says_word (codes "is") (token_at at)) spelled ∙ ap (says_word (codes "is")) behind_op.1.0
  not_is lets op (part ∷ left) right text place rest spelled behind_op = ap (says_word (codes "is")) spelled.1.1.0

  condition_from_only : (lets : List Let) (op : Operator) (first : Part) (left right : List Part) (t : Term) (text place rest : List ℕ) → AreNamed lets → first.minus ≡ false → first.term ≡ t
      → Each (PartSpelled texts lets) left text place → Behind (Mark (operator_mark op) ∷ []) (ExpressionSpelled texts lets) right place rest
      → IsFitSum (first ∷ left) → IsFitSum right → is_sign (token_at rest) ≡ false
      → condition_from texts lets t text ≡ Ok (Compare op (first ∷ left) right, rest)
  unfolding condition_from
  condition_from_only lets op first left right (Number number) text place rest names plus is spelled behind_op fit fit_right ends =
      ap (λ t. comparison texts lets t text) (sym is) ∙ comparison_only lets op first left right text place rest names plus spelled behind_op fit fit_right ends
  condition_from_only lets op first left right (Text t) text place rest names plus is spelled behind_op fit fit_right ends =
      ap (λ t. comparison texts lets t text) (sym is) ∙ comparison_only lets op first left right text place rest names plus spelled behind_op fit fit_right ends
  condition_from_only lets op first left right Null text place rest names plus is spelled behind_op fit fit_right ends =
      ap (λ t. comparison texts lets t text) (sym is) ∙ comparison_only lets op first left right text place rest names plus spelled behind_op fit fit_right ends
  condition_from_only lets op first left right (Name name) text place rest names plus is spelled behind_op fit fit_right ends =
      rw (not_is lets op left right text place rest spelled behind_op)
      (ap (λ t. comparison texts lets t text) (sym is) ∙ comparison_only lets op first left right text place rest names plus spelled behind_op fit fit_right ends)

  pub condition_only : (lets : List Let) (c : Condition) (text rest : List ℕ) → AreNamed lets → ConditionSpelled texts lets c text rest → IsFitCondition c
      → is_sign (token_at rest) ≡ false → condition texts false lets text ≡ Ok (c, rest)
  unfolding condition condition_from null_test
  condition_only lets (Compare op [] right) text rest names spelled fit ends = absurd spelled.1
  condition_only lets (Compare op (first ∷ left) right) text rest names spelled fit ends =
      let e = spelled.1 in
      then_ok (term texts false lets text) _ (first.term, e.0) _ (term_only lets first.term text e.0 names e.2 fit.0.terms.0)
      (condition_from_only lets op first left right first.term e.0 spelled.0 rest names e.1 refl e.3 spelled.2 fit.0 fit.1 ends)
  condition_only lets (IsNull name) text rest names spelled fit ends =
      let place = spelled.0 in
      then_ok (term texts false lets text) _ (Name name, place) _ (term_only lets (Name name) text place names spelled.1 tt)
      (rw spelled.2.0 (rw spelled.2.1.0
      (then_ok (take_word texts (codes "null") (behind place)) _ (behind (behind place)) _ (word_only texts (codes "null") (behind place) spelled.2.1.0 refl)
      (ap (λ at. Ok (IsNull name, at)) spelled.2.1.1))))
  condition_only lets (IsNotNull name) text rest names spelled fit ends =
      let place = spelled.0 in
      then_ok (term texts false lets text) _ (Name name, place) _ (term_only lets (Name name) text place names spelled.1 tt)
      (rw spelled.2.0 (rw spelled.2.1.0
      (then_ok (take_word texts (codes "null") (behind (behind place))) _ (behind (behind (behind place))) _ (word_only texts (codes "null") (behind (behind place)) spelled.2.1.1.0 refl)
      (ap (λ at. Ok (IsNotNull name, at)) spelled.2.1.1.1))))

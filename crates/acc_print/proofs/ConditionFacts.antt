-- Conditions are spelled by their canonical texts.
use Rattle.std.proofs.Common.{◌≡◌, ℕ, Bool, true, false, List, [], ◌∷◌, ◌++◌, length, refl, sym, subst, append_assoc}
use Rattle.std.specs.Prelude.{codes}
use Rattle.std.specs.List.{flat_map, list_any}
use Rattle.std.proofs.lemmas.Bool.{or_parts}
use Rattle.acc_token.specs.Tokens.{Word, Mark, continues_word, token_at, token_of, token_len, behind, after_blanks}
use Rattle.acc_txn.specs.declared.parts.Let.{Let}
use Rattle.acc_txn.specs.declared.parts.Operator.{Operator}
use Rattle.acc_txn.specs.declared.parts.Operator.TheVariants.{Equal, Differs, Less, AtMost, More, AtLeast}
use Rattle.acc_txn.specs.declared.parts.Part.{Part}
use Rattle.acc_txn.specs.declared.parts.Condition.{Condition}
use Rattle.acc_txn.specs.declared.parts.Condition.TheVariants.{Compare, IsNull, IsNotNull}
use Rattle.acc_txn.specs.Rules.{has_bad_name, is_malformed, mentions_unbound, asks_unbound, condition_has}
use Rattle.acc_print.specs.Canonical.{cell_text, sum_text, operator_text, condition_text}
use Rattle.acc_print.specs.Numbers.{has_unsaid_term}
use Rattle.acc_lang.specs.Grammar.{Spells, Each, Behind, ConditionSpelled, operator_mark}
use Rattle.acc_print.proofs.TokenFacts.{stops, goes_on, word_stop, spaced, letters}
use Rattle.acc_print.proofs.KeyFacts.{behind3}
use Rattle.acc_print.proofs.SumFacts.{cell_spelled, sum_spelled}

-- what the rules say of one condition, where there are so many LETs
pub record IsGoodCondition (texts : Bool) (lets : ℕ) (condition : Condition) : Type 0 where
  pub shaped : condition_has is_malformed condition ≡ false
  pub bound : condition_has (mentions_unbound lets) condition ≡ false
  pub asked : asks_unbound lets condition ≡ false
  pub said : condition_has (has_unsaid_term texts) condition ≡ false

-- what the rules say of conditions
pub record AreGoodConditions (texts : Bool) (lets : ℕ) (conditions : List Condition) : Type 0 where
  pub shaped : list_any (condition_has is_malformed) conditions ≡ false
  pub bound : list_any (condition_has (mentions_unbound lets)) conditions ≡ false
  pub asked : list_any (asks_unbound lets) conditions ≡ false
  pub said : list_any (condition_has (has_unsaid_term texts)) conditions ≡ false

pub first_condition : (texts : Bool) (lets : ℕ) (condition : Condition) (conditions : List Condition) → AreGoodConditions texts lets (condition ∷ conditions) → IsGoodCondition texts lets condition
first_condition texts lets condition conditions h = record {
  shaped = (or_parts (condition_has is_malformed condition) _ h.shaped).0;
  bound = (or_parts (condition_has (mentions_unbound lets) condition) _ h.bound).0;
  asked = (or_parts (asks_unbound lets condition) _ h.asked).0;
  said = (or_parts (condition_has (has_unsaid_term texts) condition) _ h.said).0;
}

pub other_conditions : (texts : Bool) (lets : ℕ) (condition : Condition) (conditions : List Condition) → AreGoodConditions texts lets (condition ∷ conditions) → AreGoodConditions texts lets conditions
other_conditions texts lets condition conditions h = record {
  shaped = (or_parts (condition_has is_malformed condition) _ h.shaped).1;
  bound = (or_parts (condition_has (mentions_unbound lets) condition) _ h.bound).1;
  asked = (or_parts (asks_unbound lets condition) _ h.asked).1;
  said = (or_parts (condition_has (has_unsaid_term texts) condition) _ h.said).1;
}

operator_spelled : (op : Operator) (rest : List ℕ) → Spells (Mark (operator_mark op) ∷ []) (operator_text op ++ rest) (32 ∷ rest)
unfolding token_at token_of token_len behind after_blanks
operator_spelled Equal rest = (refl, refl)
operator_spelled Differs rest = (refl, refl)
operator_spelled Less rest = (refl, refl)
operator_spelled AtMost rest = (refl, refl)
operator_spelled More rest = (refl, refl)
operator_spelled AtLeast rest = (refl, refl)

operator_stops : (op : Operator) (rest : List ℕ) → stops goes_on (operator_text op ++ rest) ≡ true
operator_stops Equal rest = refl
operator_stops Differs rest = refl
operator_stops Less rest = refl
operator_stops AtMost rest = refl
operator_stops More rest = refl
operator_stops AtLeast rest = refl

null_spelled : (rest : List ℕ) → stops continues_word rest ≡ true → Spells (Word (codes "null") ∷ []) (codes " NULL" ++ rest) rest
null_spelled rest stop = spaced (Word (codes "null")) [] (codes "NULL" ++ rest) rest (letters 78 (codes "ULL") rest rest [] refl refl stop refl)

module _ (texts : Bool) (lets : List Let) (named : has_bad_name lets ≡ false) where
  -- expression operator expression
  comparison_spelled : (op : Operator) (left right : List Part) (rest : List ℕ) → IsGoodCondition texts (length lets) (Compare op left right) →
      stops goes_on rest ≡ true → ConditionSpelled texts lets (Compare op left right) (32 ∷ (sum_text lets left ++ (operator_text op ++ (sum_text lets right ++ rest)))) rest
  comparison_spelled op left right rest h stop =
      let shaped = or_parts (is_malformed left) (is_malformed right) h.shaped in
      let bound = or_parts (mentions_unbound (length lets) left) (mentions_unbound (length lets) right) h.bound in
      let fits = or_parts ((has_unsaid_term texts) left) ((has_unsaid_term texts) right) h.said in
      let next = operator_text op ++ (sum_text lets right ++ rest) in
      let first = sum_spelled texts lets named left next shaped.0 bound.0 fits.0 (operator_stops op (sum_text lets right ++ rest)) in
      let second = sum_spelled texts lets named right rest shaped.1 bound.1 fits.1 stop in
      (next, first, (32 ∷ sum_text lets right ++ rest, operator_spelled op (sum_text lets right ++ rest), second))

  pub condition_spelled : (condition : Condition) (rest : List ℕ) → IsGoodCondition texts (length lets) condition → stops goes_on rest ≡ true →
      ConditionSpelled texts lets condition (32 ∷ condition_text lets condition ++ rest) rest
  unfolding token_at token_of token_len behind after_blanks
  condition_spelled (Compare op left right) rest h stop =
      subst (λ from. ConditionSpelled texts lets (Compare op left right) (32 ∷ from) rest) (sym (behind3 (sum_text lets left) (operator_text op) (sum_text lets right) rest))
      (comparison_spelled op left right rest h stop)
  condition_spelled (IsNull number) rest h stop =
      let next = codes " IS NULL" ++ rest in
      let name = cell_spelled lets named number next h.asked refl in
      subst (λ from. ConditionSpelled texts lets (IsNull number) (32 ∷ from) rest) (sym (append_assoc (cell_text lets number) (codes " IS NULL") rest))
      (next, name, (refl, null_spelled rest (word_stop rest stop)))
  condition_spelled (IsNotNull number) rest h stop =
      let next = codes " IS NOT NULL" ++ rest in
      let name = cell_spelled lets named number next h.asked refl in
      subst (λ from. ConditionSpelled texts lets (IsNotNull number) (32 ∷ from) rest) (sym (append_assoc (cell_text lets number) (codes " IS NOT NULL") rest))
      (next, name, (refl, (refl, null_spelled rest (word_stop rest stop))))

  pub ands_stop : (conditions : List Condition) (rest : List ℕ) → stops goes_on rest ≡ true →
      stops goes_on (flat_map (λ c. codes " AND " ++ condition_text lets c) conditions ++ rest) ≡ true
  ands_stop [] rest stop = stop
  ands_stop (condition ∷ conditions) rest stop = refl

  -- { AND condition }
  pub ands_spelled : (conditions : List Condition) (rest : List ℕ) → AreGoodConditions texts (length lets) conditions → stops goes_on rest ≡ true →
      Each (Behind (Word (codes "and") ∷ []) (ConditionSpelled texts lets)) conditions
      (flat_map (λ c. codes " AND " ++ condition_text lets c) conditions ++ rest) rest
  unfolding token_at token_of token_len behind after_blanks
  ands_spelled [] rest h stop = refl
  ands_spelled (condition ∷ conditions) rest h stop =
      let others = flat_map (λ c. codes " AND " ++ condition_text lets c) conditions in
      let next = others ++ rest in
      let first = condition_spelled condition next (first_condition texts (length lets) condition conditions h) (ands_stop conditions rest stop) in (
        next,
        subst (λ from. Behind (Word (codes "and") ∷ []) (ConditionSpelled texts lets) condition from next)
            (sym (append_assoc (codes " AND " ++ condition_text lets condition) others rest)) (32 ∷ condition_text lets condition ++ next, (refl, refl), first),
        ands_spelled conditions rest (other_conditions texts (length lets) condition conditions h) stop,
      )

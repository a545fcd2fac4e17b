-- What is read is spelled so, and was checked: conditions, updates and the whole text.
use Rattle.std.proofs.Common.{◌≡◌, ◌≤◌, ℕ, Bool, true, false, not, ◌||◌, cond, List, [], ◌∷◌, ◌++◌, length, codes, Option, Some, None, is_some, unwrap_or, Ok, refl, sym, ap, ◌∙◌, subst, true≢false, inl, inr, append_assoc, arith}
use Rattle.std.proofs.lemmas.List.{append-nil}
use Rattle.acc_token.specs.Tokens.{Token, Word, Mark, token_at, behind, says_word, says_mark}
use Rattle.acc_value.specs.Footprint.{used}
use Rattle.acc_txn.specs.declared.parts.Let.{Let}
use Rattle.acc_txn.specs.declared.parts.Operator.{Operator}
use Rattle.acc_txn.specs.declared.parts.Operator.TheVariants.{Equal, Differs, Less, AtMost, More, AtLeast}
use Rattle.acc_txn.specs.declared.parts.Term.{Term}
use Rattle.acc_txn.specs.declared.parts.Term.TheVariants.{Number, Name, Null, Text}
use Rattle.acc_txn.specs.declared.parts.Condition.{Condition}
use Rattle.acc_txn.specs.declared.parts.Condition.TheVariants.{Compare, IsNull, IsNotNull}
use Rattle.acc_txn.specs.declared.parts.Update.{Update}
use Rattle.acc_txn.specs.declared.parts.Update.TheVariants.{Set, Delete}
use Rattle.acc_lang.specs.Reading.{◌>>=◌, step, standing_of, take_word, skip_mark, where_key, from_key, term, more_parts, expression, operator_of, operator, null_test, comparison, condition_from, condition, one_condition, more_conditions, conditions, assignment, removal, begins_update, update, key_written, one_update, more_updates, guarded, unguarded, action}
use Rattle.acc_lang.specs.Grammar.{Spells, Each, Behind, MaybeSemicolon, NameSpelled, TermSpelled, operator_mark, ConditionSpelled, UpdateSpelled, ActionSpelled}
use Rattle.acc_lang.proofs.Steps.{both, taken, word_token, mark_token, join}
use Rattle.acc_lang.proofs.Fits.{IsFitTerm, IsFitCondition, ThisCondition, IsFitUpdate, Uses, after, InTurn, at_end, after_at_end, with_update}
use Rattle.acc_lang.proofs.Found.{ok_same, word_first, mark_first, table_first, where_tokens, where_key_found, from_tokens, from_key_found}
use Rattle.acc_lang.proofs.FoundParts.{each_found, some_is}
use Rattle.acc_lang.proofs.FoundSums.{term_found, parts_found, expression_found}

-- one mark of several
this_mark : (token : Token) (mark : List ℕ) (this op : Operator) (others : Option Operator) (b : Bool) → says_mark mark token ≡ b → mark ≡ operator_mark this
    → (others ≡ Some op → token ≡ Mark (operator_mark op)) → cond b (Some this) others ≡ Some op → token ≡ Mark (operator_mark op)
this_mark token mark this op others true begins spelled rest is =
    let same : this ≡ op = cc in
    mark_token mark token begins ∙ ap Mark (spelled ∙ ap operator_mark same)
this_mark token mark this op others false begins spelled rest is = rest is

operator_token : (token : Token) (op : Operator) → operator_of token ≡ Some op → token ≡ Mark (operator_mark op)
operator_token token op is =
    this_mark token (codes "=") Equal op _ (says_mark (codes "=") token) refl refl
    (λ is. this_mark token (codes "!=") Differs op _ (says_mark (codes "!=") token) refl refl
    (λ is. this_mark token (codes "<") Less op _ (says_mark (codes "<") token) refl refl
    (λ is. this_mark token (codes "<=") AtMost op _ (says_mark (codes "<=") token) refl refl
    (λ is. this_mark token (codes ">") More op _ (says_mark (codes ">") token) refl refl
    (λ is. this_mark token (codes ">=") AtLeast op None (says_mark (codes ">=") token) refl refl
    (λ none. cc) is) is) is) is) is) is

other_word : (a b : Bool) → (a || b) ≡ true → a ≡ false → b ≡ true
other_word true b is none = cc
other_word false b is none = is

-- a semicolon that may stand there
pub semicolon_found : (text : List ℕ) → MaybeSemicolon text (skip_mark (codes ";") text)
unfolding skip_mark
semicolon_found text = skipped (says_mark (codes ";") (token_at text)) refl where
  skipped : (b : Bool) → says_mark (codes ";") (token_at text) ≡ b → MaybeSemicolon text (cond b (behind text) text)
  skipped true begins = inr (mark_token (codes ";") (token_at text) begins, refl)
  skipped false begins = inl refl

pub updates_alone : (so_far updates : List Update) (uses : Uses) → (after with_update (so_far, uses) updates).0 ≡ so_far ++ updates
updates_alone so_far [] uses = sym (append-nil so_far)
updates_alone so_far (u ∷ updates) uses = updates_alone (so_far ++ u ∷ []) updates (used uses (key_written u) true) ∙ append_assoc so_far (u ∷ []) updates

module _ (texts : Bool) where
  pub operator_found : (text : List ℕ) (y : Operator × List ℕ) → operator texts text ≡ Ok y → Spells (Mark (operator_mark y.0) ∷ []) text y.1
  unfolding operator
  operator_found text y is =
      let p = both (step (not texts) (standing_of (is_some (operator_of (token_at text))) false true) text) _ y is in
      let t = taken (not texts) (is_some (operator_of (token_at text))) false true text p.0 p.1 in
      let op = some_is (operator_of (token_at text)) t.allows in
      let same = ok_same (unwrap_or (operator_of (token_at text)) Equal, p.0) y p.2 in
      let chosen : op.0 ≡ y.0 = sym (ap (λ o. unwrap_or o Equal) op.1) ∙ ap (λ y. y.0) same in
      (operator_token (token_at text) op.0 op.1 ∙ ap (λ op. Mark (operator_mark op)) chosen, t.follows ∙ ap (λ y. y.1) same)

  pub comparison_found : (lets : List Let) (first : Term) (start text : List ℕ) (y : Condition × List ℕ) → TermSpelled texts lets first start text → IsFitTerm first → comparison texts lets first text ≡ Ok y
      → ConditionSpelled texts lets y.0 start y.1 × IsFitCondition y.0
  unfolding comparison
  comparison_found lets first start text y spelled fit is =
      let p = both (more_parts texts lets 15 (_ ∷ []) text) _ y is in
      let l = parts_found texts lets first start text p.0 spelled fit p.1 in
      let q = both (operator texts p.0.1) _ y p.2 in
      let o = operator_found p.0.1 q.0 q.1 in
      let r = both (expression texts lets q.0.1) _ y q.2 in
      let e = expression_found texts lets q.0.1 r.0 r.1 in
      subst (λ (y : Condition × List ℕ). ConditionSpelled texts lets y.0 start y.1 × IsFitCondition y.0) (ok_same (Compare q.0.0 p.0.0 r.0.0, r.0.1) y r.2)
      ((p.0.1, l.0, (q.0.1, o, e.0)), (l.1, e.1))

  pub null_test_found : (lets : List Let) (name : ℕ) (start text : List ℕ) (y : Condition × List ℕ) → NameSpelled lets name start text → token_at text ≡ Word (codes "is")
      → null_test texts name (behind text) ≡ Ok y → ConditionSpelled texts lets y.0 start y.1 × IsFitCondition y.0
  unfolding null_test
  null_test_found lets name start text y spelled begins is = negated (says_word (codes "not") (token_at (behind text))) refl is where
    negated : (b : Bool) → says_word (codes "not") (token_at (behind text)) ≡ b
        → cond b (take_word texts (codes "null") (behind (behind text)) >>= (λ t. Ok (IsNotNull name, t))) (take_word texts (codes "null") (behind text) >>= (λ t. Ok (IsNull name, t))) ≡ Ok y
        → ConditionSpelled texts lets y.0 start y.1 × IsFitCondition y.0
    negated true not is =
        let a = word_first texts (codes "null") (behind (behind text)) _ y is in
        subst (λ (y : Condition × List ℕ). ConditionSpelled texts lets y.0 start y.1 × IsFitCondition y.0) (ok_same (IsNotNull name, behind (behind (behind text))) y a.1)
        ((text, spelled, (begins, (word_token (codes "not") _ not, (a.0, refl)))), tt)
    negated false not is =
        let a = word_first texts (codes "null") (behind text) _ y is in
        subst (λ (y : Condition × List ℕ). ConditionSpelled texts lets y.0 start y.1 × IsFitCondition y.0) (ok_same (IsNull name, behind (behind text)) y a.1)
        ((text, spelled, (begins, (a.0, refl))), tt)

  pub condition_from_found : (lets : List Let) (first : Term) (start text : List ℕ) (y : Condition × List ℕ) → TermSpelled texts lets first start text → IsFitTerm first → condition_from texts lets first text ≡ Ok y
      → ConditionSpelled texts lets y.0 start y.1 × IsFitCondition y.0
  unfolding condition_from
  condition_from_found lets (Number number) start text y spelled fit is = comparison_found lets (Number number) start text y spelled fit is
  condition_from_found lets Null start text y spelled fit is = comparison_found lets Null start text y spelled fit is
  condition_from_found lets (Text t) start text y spelled fit is = comparison_found lets (Text t) start text y spelled fit is
  condition_from_found lets (Name name) start text y spelled fit is = tested (says_word (codes "is") (token_at text)) refl is where
    tested : (b : Bool) → says_word (codes "is") (token_at text) ≡ b → cond b (null_test texts name (behind text)) (comparison texts lets (Name name) text) ≡ Ok y
        → ConditionSpelled texts lets y.0 start y.1 × IsFitCondition y.0
    tested true begins is = null_test_found lets name start text y spelled (word_token (codes "is") (token_at text) begins) is
    tested false begins is = comparison_found lets (Name name) start text y spelled fit is

  pub condition_found : (extra : Bool) (lets : List Let) (text : List ℕ) (y : Condition × List ℕ) → condition texts extra lets text ≡ Ok y
      → ConditionSpelled texts lets y.0 text y.1 × IsFitCondition y.0 × (extra ≡ false)
  unfolding condition
  condition_found extra lets text y is =
      let p = both (term texts extra lets text) _ y is in
      let t = term_found texts extra lets text p.0 p.1 in
      let c = condition_from_found lets p.0.0 text p.0.1 y t.0 t.1 p.2 in
      (c.0, c.1, t.2)

  pub one_condition_found : (lets : List Let) (so_far : List Condition) (text : List ℕ) (y : List Condition × List ℕ) → one_condition texts lets false so_far text ≡ Ok y
      → (next : Condition) × (y.0 ≡ at_end so_far next) × Behind (Word (codes "and") ∷ []) (ConditionSpelled texts lets) next text y.1 × ThisCondition so_far next
  unfolding one_condition
  one_condition_found lets so_far text y is =
      let a = word_first texts (codes "and") text _ y is in
      let p = both (condition texts false lets (behind text)) _ y a.1 in
      let c = condition_found false lets (behind text) p.0 p.1 in
      let same = ok_same (so_far ++ p.0.0 ∷ [], p.0.1) y p.2 in
      (p.0.0, sym (ap (λ y. y.0) same), (behind text, (a.0, refl), subst (λ place. ConditionSpelled texts lets p.0.0 (behind text) place) (ap (λ y. y.1) same) c.0), c.1)

  pub one_condition_full : (lets : List Let) (so_far : List Condition) (text : List ℕ) (y : List Condition × List ℕ) → one_condition texts lets true so_far text ≡ Ok y → ⊥
  unfolding one_condition
  one_condition_full lets so_far text y is =
      let a = word_first texts (codes "and") text _ y is in
      let p = both (condition texts true lets (behind text)) _ y a.1 in
      absurd (true≢false (condition_found true lets (behind text) p.0 p.1).2)

  pub conditions_found : (lets : List Let) (text : List ℕ) (y : List Condition × List ℕ) → conditions texts lets text ≡ Ok y
      → (guard : Condition) × (guards : List Condition) × (y.0 ≡ guard ∷ guards) × (a : List ℕ) × (b : List ℕ) × ConditionSpelled texts lets guard text a
      × Each (Behind (Word (codes "and") ∷ []) (ConditionSpelled texts lets)) guards a b × Spells (Word (codes "then") ∷ []) b y.1
      × (length guards ≤ 15) × IsFitCondition guard × InTurn at_end ThisCondition (guard ∷ []) guards
  unfolding conditions more_conditions
  conditions_found lets text y is =
      let p = both (condition texts false lets text) _ y is in
      let c = condition_found false lets text p.0 p.1 in
      let q = both (more_conditions texts lets 15 (p.0.0 ∷ []) p.0.1) _ y p.2 in
      let e = each_found (says_word (codes "and")) (one_condition texts lets) at_end (Behind (Word (codes "and") ∷ []) (ConditionSpelled texts lets)) ThisCondition (one_condition_found lets) (one_condition_full lets) 15 (p.0.0 ∷ []) p.0.1 q.0 q.1 in
      let w = word_first texts (codes "then") q.0.1 _ y q.2 in
      let same = ok_same (q.0.0, behind q.0.1) y w.1 in
      (p.0.0, e.0, sym (ap (λ y. y.0) same) ∙ e.1 ∙ after_at_end (p.0.0 ∷ []) e.0, p.0.1, q.0.1, c.0, e.2, (w.0, ap (λ y. y.1) same), e.4, c.1, e.3)

  pub assignment_found : (uses : Uses) (all : List Update) (lets : List Let) (text : List ℕ) (y : Update × List ℕ) → token_at text ≡ Word (codes "update") → assignment texts uses lets (behind text) ≡ Ok y
      → UpdateSpelled texts lets y.0 text y.1 × IsFitUpdate (all, uses) y.0
  unfolding assignment
  assignment_found uses all lets text y begins is =
      let n = table_first texts (behind text) _ y is in
      let a = word_first texts (codes "set") (behind (behind text)) _ y n.3 in
      let b = word_first texts (codes "v") (behind (behind (behind text))) _ y a.1 in
      let c = mark_first texts (codes "=") (behind (behind (behind (behind text)))) _ y b.1 in
      let start = behind (behind (behind (behind (behind text)))) in
      let p = both (expression texts lets start) _ y c.1 in
      let e = expression_found texts lets start p.0 p.1 in
      let q = both (where_key texts true uses n.0 p.0.1) _ y p.2 in
      let k = where_key_found texts true uses n.0 p.0.1 q.0 n.2 q.1 in
      let m = mark_first texts (codes ";") q.0.1 _ y q.2 in
      subst (λ (y : Update × List ℕ). UpdateSpelled texts lets y.0 text y.1 × IsFitUpdate (all, uses) y.0) (ok_same (Set q.0.0 p.0.0, behind q.0.1) y m.1)
      ((p.0.1, (start, (begins, (n.1 ∙ ap Word (sym k.0), (a.0, (b.0, (c.0, refl))))), e.0), join (where_tokens q.0.0) (Mark (codes ";") ∷ []) _ _ _ k.1 (m.0, refl)), (k.2, e.1))

  pub removal_found : (uses : Uses) (all : List Update) (lets : List Let) (text : List ℕ) (y : Update × List ℕ) → token_at text ≡ Word (codes "delete") → removal texts uses (behind text) ≡ Ok y
      → UpdateSpelled texts lets y.0 text y.1 × IsFitUpdate (all, uses) y.0
  unfolding removal
  removal_found uses all lets text y begins is =
      let p = both (from_key texts true uses (behind text)) _ y is in
      let k = from_key_found texts true uses (behind text) p.0 p.1 in
      let m = mark_first texts (codes ";") p.0.1 _ y p.2 in
      subst (λ (y : Update × List ℕ). UpdateSpelled texts lets y.0 text y.1 × IsFitUpdate (all, uses) y.0) (ok_same (Delete p.0.0, behind p.0.1) y m.1)
      ((begins, join (from_tokens p.0.0) (Mark (codes ";") ∷ []) _ _ _ k.0 (m.0, refl)), k.1)

  pub update_found : (extra : Bool) (uses : Uses) (all : List Update) (lets : List Let) (text : List ℕ) (y : Update × List ℕ) → update texts extra uses lets text ≡ Ok y
      → UpdateSpelled texts lets y.0 text y.1 × IsFitUpdate (all, uses) y.0 × (extra ≡ false)
  unfolding update
  update_found extra uses all lets text y is =
      let p = both (step (not texts) (standing_of (begins_update (token_at text)) extra true) text) _ y is in
      let t = taken (not texts) (begins_update (token_at text)) extra true text p.0 p.1 in
      let u = chosen t.allows (says_word (codes "update") (token_at text)) refl (subst (λ place. cond (says_word (codes "update") (token_at text)) (assignment texts uses lets place) (removal texts uses place) ≡ Ok y) (sym t.follows) p.2) in
      (u.0, u.1, t.room) where
        chosen : begins_update (token_at text) ≡ true → (b : Bool) → says_word (codes "update") (token_at text) ≡ b
            → cond b (assignment texts uses lets (behind text)) (removal texts uses (behind text)) ≡ Ok y → UpdateSpelled texts lets y.0 text y.1 × IsFitUpdate (all, uses) y.0
        chosen begins true word is = assignment_found uses all lets text y (word_token (codes "update") (token_at text) word) is
        chosen begins false word is =
            removal_found uses all lets text y (word_token (codes "delete") (token_at text) (other_word (says_word (codes "update") (token_at text)) (says_word (codes "delete") (token_at text)) begins word)) is

  pub one_update_found : (lets : List Let) (so_far : List Update × Uses) (text : List ℕ) (y : (List Update × Uses) × List ℕ) → one_update texts lets false so_far text ≡ Ok y
      → (next : Update) × (y.0 ≡ with_update so_far next) × UpdateSpelled texts lets next text y.1 × IsFitUpdate so_far next
  unfolding one_update
  one_update_found lets so_far text y is =
      let p = both (update texts false so_far.1 lets text) _ y is in
      let u = update_found false so_far.1 so_far.0 lets text p.0 p.1 in
      let same = ok_same (with_update so_far p.0.0, p.0.1) y p.2 in
      (p.0.0, sym (ap (λ y. y.0) same), subst (λ place. UpdateSpelled texts lets p.0.0 text place) (ap (λ y. y.1) same) u.0, u.1)

  pub one_update_full : (lets : List Let) (so_far : List Update × Uses) (text : List ℕ) (y : (List Update × Uses) × List ℕ) → one_update texts lets true so_far text ≡ Ok y → ⊥
  unfolding one_update
  one_update_full lets so_far text y is =
      let p = both (update texts true so_far.1 lets text) _ y is in
      absurd (true≢false (update_found true so_far.1 so_far.0 lets text p.0 p.1).2)

  pub updates_found : (lets : List Let) (room : ℕ) (so_far : List Update × Uses) (text : List ℕ) (y : (List Update × Uses) × List ℕ) → more_updates texts lets room so_far text ≡ Ok y
      → (updates : List Update) × (y.0 ≡ after with_update so_far updates) × Each (UpdateSpelled texts lets) updates text y.1 × InTurn with_update IsFitUpdate so_far updates × (length updates ≤ room)
  unfolding more_updates
  updates_found lets room so_far text y is =
      each_found begins_update (one_update texts lets) with_update (UpdateSpelled texts lets) IsFitUpdate (one_update_found lets) (one_update_full lets) room so_far text y is

  -- conditions and updates, and the keys after them
  pub record ActionFound (lets : List Let) (uses : Uses) (text : List ℕ) (y : ((List Condition × List Update) × Uses) × List ℕ) : Type 0 where
    pub spelled : ActionSpelled texts lets y.0.0.0 y.0.0.1 text y.1
    pub few_guards : length y.0.0.0 ≤ 16
    pub guards : InTurn at_end ThisCondition [] y.0.0.0
    pub few_updates : length y.0.0.1 ≤ 16
    pub updates : InTurn with_update IsFitUpdate ([], uses) y.0.0.1
    pub uses_are : y.0.1 ≡ (after with_update ([], uses) y.0.0.1).1

  pub unguarded_found : (uses : Uses) (lets : List Let) (text : List ℕ) (y : ((List Condition × List Update) × Uses) × List ℕ) → unguarded texts uses lets text ≡ Ok y → ActionFound lets uses text y
  unfolding unguarded
  unguarded_found uses lets text y is =
      let p = both (more_updates texts lets 16 ([], uses) text) _ y is in
      let u = updates_found lets 16 ([], uses) text p.0 p.1 in
      let all : p.0.0.0 ≡ u.0 = ap (λ s. s.0) u.1 ∙ updates_alone [] u.0 uses in
      let keys : p.0.0.1 ≡ (after with_update ([], uses) u.0).1 = ap (λ s. s.1) u.1 in
      let found : ActionFound lets uses text ((([], u.0), (after with_update ([], uses) u.0).1), p.0.1) =
      record { spelled = u.2; few_guards = omega arith; guards = tt; few_updates = u.4; updates = u.3; uses_are = refl } in
      let same : ((([], u.0), (after with_update ([], uses) u.0).1), p.0.1) ≡ y = (λ i. ((([], sym all i), sym keys i), p.0.1)) ∙ ok_same ((([], p.0.0.0), p.0.0.1), p.0.1) y p.2 in
      subst (ActionFound lets uses text) same found

  pub guarded_found : (uses : Uses) (lets : List Let) (text : List ℕ) (y : ((List Condition × List Update) × Uses) × List ℕ) → token_at text ≡ Word (codes "if") → guarded texts uses lets (behind text) ≡ Ok y
      → ActionFound lets uses text y
  unfolding guarded
  guarded_found uses lets text y begins is =
      let p = both (conditions texts lets (behind text)) _ y is in
      let c = conditions_found lets (behind text) p.0 p.1 in
      let q = both (one_update texts lets false ([], uses) p.0.1) _ y p.2 in
      let f = one_update_found lets ([], uses) p.0.1 q.0 q.1 in
      let r = both (more_updates texts lets 15 q.0.0 q.0.1) _ y q.2 in
      let u = updates_found lets 15 q.0.0 q.0.1 r.0 r.1 in
      let a = word_first texts (codes "end") r.0.1 _ y r.2 in
      let b = word_first texts (codes "if") (behind r.0.1) _ y a.1 in
      let end = behind (behind r.0.1) in
      let state : r.0.0 ≡ after with_update ([], uses) (f.0 ∷ u.0) = u.1 ∙ ap (λ s. after with_update s u.0) f.1 in
      let all : r.0.0.0 ≡ f.0 ∷ u.0 = ap (λ s. s.0) state ∙ updates_alone [] (f.0 ∷ u.0) uses in
      let keys : r.0.0.1 ≡ (after with_update ([], uses) (f.0 ∷ u.0)).1 = ap (λ s. s.1) state in
      let found : ActionFound lets uses text (((c.0 ∷ c.1, f.0 ∷ u.0), (after with_update ([], uses) (f.0 ∷ u.0)).1), skip_mark (codes ";") end) =
      record {
        spelled = (c.3, c.4, q.0.1, r.0.1, end, (behind text, (begins, refl), c.5), c.6, (p.0.1, c.7, f.2), u.2, (a.0, (b.0, refl)), semicolon_found end);
        few_guards = omega (arith, c.8);
        guards = (c.9, c.10);
        few_updates = omega (arith, u.4);
        updates = (f.3, subst (λ s. InTurn with_update IsFitUpdate s u.0) f.1 u.3);
        uses_are = refl;
      } in
      let same : (((c.0 ∷ c.1, f.0 ∷ u.0), (after with_update ([], uses) (f.0 ∷ u.0)).1), skip_mark (codes ";") end) ≡ y =
      (λ i. (((sym c.2 i, sym all i), sym keys i), skip_mark (codes ";") end)) ∙ ok_same (((p.0.0, r.0.0.0), r.0.0.1), skip_mark (codes ";") end) y b.1 in
      subst (ActionFound lets uses text) same found

  pub action_found : (uses : Uses) (lets : List Let) (text : List ℕ) (y : ((List Condition × List Update) × Uses) × List ℕ) → action texts uses lets text ≡ Ok y → ActionFound lets uses text y
  unfolding action
  action_found uses lets text y is = chosen (says_word (codes "if") (token_at text)) refl is where
    chosen : (b : Bool) → says_word (codes "if") (token_at text) ≡ b → cond b (guarded texts uses lets (behind text)) (unguarded texts uses lets text) ≡ Ok y → ActionFound lets uses text y
    chosen true begins is = guarded_found uses lets text y (word_token (codes "if") (token_at text) begins) is
    chosen false begins is = unguarded_found uses lets text y is

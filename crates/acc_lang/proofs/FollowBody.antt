-- Each production goes by the tokens from the left: selects, sums, conditions, updates and the whole text.
use Rattle.std.proofs.Common.{◌≡◌, ◌≤◌, ◌==◌, ℕ, Bool, true, false, cond, List, [], ◌∷◌, ◌++◌, length, codes, pos, is_some, unwrap_or, Ok, Err, refl, sym, ap, ◌∙◌, arith, not, ◌&&◌}
use Rattle.std.specs.Prelude.{neg_ℤ}
use Rattle.acc_token.specs.Tokens.{token_at, left_at, behind, says_word, says_mark}
use Rattle.acc_txn.specs.declared.parts.Let.{Let}
use Rattle.acc_txn.specs.declared.parts.Select.{Select}
use Rattle.acc_txn.specs.declared.parts.Select.TheVariants.{Nothing, Names}
use Rattle.acc_txn.specs.declared.parts.Operator.TheVariants.{Equal}
use Rattle.acc_txn.specs.declared.parts.Term.{Term}
use Rattle.acc_txn.specs.declared.parts.Term.TheVariants.{Number as NumberTerm, Name as NameTerm, Null, Text as TextTerm}
use Rattle.acc_txn.specs.declared.parts.Part.{Part}
use Rattle.acc_txn.specs.declared.parts.Condition.{Condition}
use Rattle.acc_txn.specs.declared.parts.Condition.TheVariants.{IsNull, IsNotNull}
use Rattle.acc_txn.specs.declared.parts.Update.{Update}
use Rattle.acc_txn.specs.declared.parts.BodyParts.{BodyParts}
use Rattle.acc_lang.specs.declared.fault.Fault.{Fault}
use Rattle.acc_lang.specs.Faults.{fault_behind_minus, fault_behind_end}
use Rattle.acc_lang.specs.Reading.{◌>>=◌, passed, standing_of, take_word, is_number, is_quoted, number_of, text_of, table, where_key, from_key, more_lets, named, items, begins_get, get, selected, select, negative, plain, null, text_value, term, is_sign, part_of, one_part, more_parts, expression, operator_of, operator, null_test, comparison, condition_from, condition, one_condition, more_conditions, conditions, assignment, removal, begins_update, update, one_update, more_updates, guarded, unguarded, action, opening, commit_word, commit, finish, closing, behind_lets, reading}
use Rattle.acc_lang.specs.First.{behind_all, SameTokens, Seen}
use Rattle.acc_lang.proofs.Following.{pairs, places, Stops, Follows, in_sight, in_turn, then_stops, nothing, by_token, behind_one, loose, repeats, passed_follows, skip_follows, skip_place}
use Rattle.acc_lang.proofs.FollowText.{Uses, word_follows, word_then, then_word, then_mark, token_then, step_then, value_then, then_value, then_some, table_follows, where_key_follows, from_key_follows, lets_follow, named_follows, items_follow, get_follows, begins_seen, begins_same}

answered : (parts : BodyParts) → Stops (λ a. Ok parts)
answered parts a f is = cc

module _ (texts : Bool) where
  -- the select, which goes by two tokens
  selected_follows : (uses : Uses) (lets : List Let) → Follows 0 pairs (selected texts uses lets)
  unfolding selected
  selected_follows uses lets = record {
    ok = λ a y is. ok_by (begins_get a) a y refl is;
    err = λ a f is. err_by (begins_get a) a f refl is;
  } where
    alike : (t : Bool) (a b : List ℕ) → begins_get a ≡ t → begins_get a ≡ begins_get b → cond (begins_get b) (get texts uses b) (items texts lets b >>= (λ names. Ok ((Names names.0, uses), names.1))) ≡ cond t (get texts uses b) (items texts lets b >>= (λ names. Ok ((Names names.0, uses), names.1)))
    alike t a b is same = ap (λ t. cond t (get texts uses b) (items texts lets b >>= (λ names. Ok ((Names names.0, uses), names.1)))) (sym same ∙ is)

    names_follow : Follows 1 (pairs {A = Select × Uses}) (λ a. items texts lets a >>= (λ names. Ok ((Names names.0, uses), names.1)))
    names_follow =
        value_then (items texts lets) (pairs {A = Select × Uses}) (λ names. Ok ((Names names.0, uses), names.1))
        (λ names. let answer : Select × Uses = (Names names, uses) in nothing answer) (items_follow texts lets)

    ok_by : (t : Bool) (a : List ℕ) (y : (Select × Uses) × List ℕ) → begins_get a ≡ t → cond t (get texts uses a) (items texts lets a >>= (λ names. Ok ((Names names.0, uses), names.1))) ≡ Ok y
        → (m : ℕ) × (0 ≤ m) × (y.1 ≡ behind_all m a)
        × ((b : List ℕ) → SameTokens m a b → cond (begins_get b) (get texts uses b) (items texts lets b >>= (λ names. Ok ((Names names.0, uses), names.1))) ≡ Ok (y.0, behind_all m b))
    ok_by true a y is read =
        let m = (get_follows texts uses).ok a y read in
        (m.0, omega arith, m.2, λ b same. alike true a b is (begins_same m.0 a b m.1 same) ∙ m.3 b same)
    ok_by false a y is read =
        let m = names_follow.ok a y read in
        (m.0, omega arith, m.2, λ b same. alike false a b is (begins_same m.0 a b m.1 same) ∙ m.3 b same)

    err_by : (t : Bool) (a : List ℕ) (f : Fault) → begins_get a ≡ t → cond t (get texts uses a) (items texts lets a >>= (λ names. Ok ((Names names.0, uses), names.1))) ≡ Err f
        → (m : ℕ) × (f.left ≡ left_at (behind_all m a))
        × ((b : List ℕ) → Seen m a b → (g : Fault) × (cond (begins_get b) (get texts uses b) (items texts lets b >>= (λ names. Ok ((Names names.0, uses), names.1))) ≡ Err g) × (g.kind ≡ f.kind))
    err_by true a f is read =
        let e = (get_follows texts uses).err a f read in
        (e.0, e.1, λ b seen. let g = e.2 b seen in (g.0, alike true a b is (begins_seen e.0 a b seen) ∙ g.1, g.2))
    err_by false a f is read =
        let e = names_follow.err a f read in
        (e.0, e.1, λ b seen. let g = e.2 b seen in (g.0, alike false a b is (begins_seen e.0 a b seen) ∙ g.1, g.2))

  select_follows : (uses : Uses) (lets : List Let) → Follows 0 pairs (select texts uses lets)
  unfolding select
  select_follows uses lets =
      let answer : Select × Uses = (Nothing, uses) in
      by_token 0 (pairs {A = Select × Uses}) (says_word (codes "select")) (λ a. selected texts uses lets (behind a)) (λ a. Ok (answer, a))
      (behind_one pairs (selected texts uses lets) (selected_follows uses lets)) (nothing answer)

  negative_follows : (extra : Bool) → Follows 1 pairs (negative texts extra)
  unfolding negative
  negative_follows extra =
      step_then (not texts) pairs (λ token. standing_of true extra true) _
      (loose pairs _
      (in_sight 1 places pairs (λ a. passed (fault_behind_minus (not texts) (token_at a)) a) (λ token rest. Ok (NumberTerm (neg_ℤ (pos (number_of token))), rest))
      (passed_follows (fault_behind_minus (not texts))) (λ token y. nothing (NumberTerm (neg_ℤ (pos (number_of token)))))))

  plain_follows : (extra : Bool) → Follows 1 pairs (plain texts extra)
  unfolding plain
  plain_follows extra =
      token_then (not texts) pairs (λ token. standing_of true extra true) (λ token t. Ok (NumberTerm (pos (number_of token)), t)) (λ token. nothing (NumberTerm (pos (number_of token))))

  null_follows : (extra : Bool) → Follows 1 pairs (null texts extra)
  unfolding null
  null_follows extra = step_then (not texts) pairs (λ token. standing_of true extra true) _ (nothing Null)

  text_follows : (extra : Bool) → Follows 1 pairs (text_value texts extra)
  unfolding text_value
  text_follows extra =
      token_then false pairs (λ token. standing_of true extra true) (λ token t. Ok (TextTerm (text_of token), t)) (λ token. nothing (TextTerm (text_of token)))

  term_follows : (extra : Bool) (lets : List Let) → Follows 1 pairs (term texts extra lets)
  unfolding term
  term_follows extra lets =
      by_token 1 pairs (says_mark (codes "-")) (negative texts extra) _ (negative_follows extra)
      (by_token 1 pairs is_number (plain texts extra) _ (plain_follows extra)
      (by_token 1 pairs (λ token. is_quoted token && texts) (text_value texts extra) _ (text_follows extra)
      (by_token 1 pairs (says_word (codes "null")) (null texts extra) _ (null_follows extra)
      (value_then (named texts extra lets) pairs (λ name. Ok (NameTerm name.0, name.1)) (λ name. nothing (NameTerm name)) (named_follows texts extra lets)))))

  one_part_follows : (lets : List Let) (extra : Bool) (so_far : List Part) → Follows 1 pairs (one_part texts lets extra so_far)
  unfolding one_part
  one_part_follows lets extra so_far =
      token_then (not texts) pairs (λ token. standing_of (is_sign token) false true)
      (λ token t. term texts extra lets t >>= (λ next. Ok (so_far ++ part_of (says_mark (codes "-") token) next.0 ∷ [], next.1)))
      (λ token. then_value (term texts extra lets) pairs _ (λ next. nothing _) (term_follows extra lets))

  more_parts_follow : (lets : List Let) (room : ℕ) (so_far : List Part) → Follows 0 pairs (more_parts texts lets room so_far)
  unfolding more_parts
  more_parts_follow lets room so_far = repeats is_sign (one_part texts lets) (λ extra so_far. loose pairs (one_part texts lets extra so_far) (one_part_follows lets extra so_far)) room so_far

  expression_follows : (lets : List Let) → Follows 1 pairs (expression texts lets)
  unfolding expression
  expression_follows lets = value_then (term texts false lets) pairs _ (λ first. more_parts_follow lets 15 (part_of false first ∷ [])) (term_follows false lets)

  operator_follows : Follows 1 pairs (operator texts)
  unfolding operator
  operator_follows =
      token_then (not texts) pairs (λ token. standing_of (is_some (operator_of token)) false true) (λ token t. Ok (unwrap_or (operator_of token) Equal, t))
      (λ token. nothing (unwrap_or (operator_of token) Equal))

  null_test_follows : (name : ℕ) → Follows 0 pairs (null_test texts name)
  unfolding null_test
  null_test_follows name =
      by_token 0 pairs (says_word (codes "not")) (λ a. take_word texts (codes "null") (behind a) >>= (λ t. Ok (IsNotNull name, t))) (λ a. take_word texts (codes "null") a >>= (λ t. Ok (IsNull name, t)))
      (behind_one pairs (λ a. take_word texts (codes "null") a >>= (λ t. Ok (IsNotNull name, t))) (then_word texts pairs _ (nothing (IsNotNull name)) (codes "null")))
      (then_word texts pairs _ (nothing (IsNull name)) (codes "null"))

  comparison_follows : (lets : List Let) (first : Term) → Follows 0 pairs (comparison texts lets first)
  unfolding comparison
  comparison_follows lets first =
      then_some (more_parts texts lets 15 (part_of false first ∷ [])) pairs _
      (λ left. then_value (operator texts) pairs _ (λ op. then_value (expression texts lets) pairs _ (λ right. nothing _) (expression_follows lets)) operator_follows)
      (more_parts_follow lets 15 (part_of false first ∷ []))

  condition_from_follows : (lets : List Let) (first : Term) → Follows 0 pairs (condition_from texts lets first)
  unfolding condition_from
  condition_from_follows lets (NumberTerm number) = comparison_follows lets (NumberTerm number)
  condition_from_follows lets (NameTerm name) =
      by_token 0 pairs (says_word (codes "is")) (λ a. null_test texts name (behind a)) (comparison texts lets (NameTerm name))
      (behind_one pairs (null_test texts name) (null_test_follows name)) (comparison_follows lets (NameTerm name))
  condition_from_follows lets Null = comparison_follows lets Null
  condition_from_follows lets (TextTerm t) = comparison_follows lets (TextTerm t)

  condition_follows : (extra : Bool) (lets : List Let) → Follows 1 pairs (condition texts extra lets)
  unfolding condition
  condition_follows extra lets = value_then (term texts extra lets) pairs _ (λ first. condition_from_follows lets first) (term_follows extra lets)

  one_condition_follows : (lets : List Let) (extra : Bool) (so_far : List Condition) → Follows 1 pairs (one_condition texts lets extra so_far)
  unfolding one_condition
  one_condition_follows lets extra so_far = word_then texts pairs _ (then_value (condition texts extra lets) pairs _ (λ next. nothing _) (condition_follows extra lets)) (codes "and")

  more_conditions_follow : (lets : List Let) (room : ℕ) (so_far : List Condition) → Follows 0 pairs (more_conditions texts lets room so_far)
  unfolding more_conditions
  more_conditions_follow lets room so_far =
      repeats (says_word (codes "and")) (one_condition texts lets) (λ extra so_far. loose pairs (one_condition texts lets extra so_far) (one_condition_follows lets extra so_far)) room so_far

  conditions_follow : (lets : List Let) → Follows 1 pairs (conditions texts lets)
  unfolding conditions
  conditions_follow lets =
      value_then (condition texts false lets) pairs _
      (λ first. then_some (more_conditions texts lets 15 (first ∷ [])) pairs _ (λ all. then_word texts pairs _ (nothing all) (codes "then")) (more_conditions_follow lets 15 (first ∷ [])))
      (condition_follows false lets)

  assignment_follows : (uses : Uses) (lets : List Let) → Follows 1 pairs (assignment texts uses lets)
  unfolding assignment
  assignment_follows uses lets =
      value_then (table texts) pairs _
      (λ name. then_word texts pairs _ (then_word texts pairs _ (then_mark texts pairs _
      (then_value (expression texts lets) pairs _
      (λ value. then_value (where_key texts true uses name) pairs _ (λ key. then_mark texts pairs _ (nothing _) (codes ";")) (where_key_follows texts true uses name))
      (expression_follows lets))
      (codes "=")) (codes "v")) (codes "set"))
      (table_follows texts)

  removal_follows : (uses : Uses) → Follows 1 pairs (removal texts uses)
  unfolding removal
  removal_follows uses = value_then (from_key texts true uses) pairs _ (λ key. then_mark texts pairs _ (nothing _) (codes ";")) (from_key_follows texts true uses)

  update_follows : (extra : Bool) (uses : Uses) (lets : List Let) → Follows 1 pairs (update texts extra uses lets)
  unfolding update
  update_follows extra uses lets =
      token_then (not texts) pairs (λ token. standing_of (begins_update token) extra true)
      (λ token t. cond (says_word (codes "update") token) (assignment texts uses lets t) (removal texts uses t)) (λ token. either (says_word (codes "update") token)) where
        either : (t : Bool) → Follows 0 pairs (λ a. cond t (assignment texts uses lets a) (removal texts uses a))
        either true = loose pairs (assignment texts uses lets) (assignment_follows uses lets)
        either false = loose pairs (removal texts uses) (removal_follows uses)

  one_update_follows : (lets : List Let) (extra : Bool) (so_far : List Update × Uses) → Follows 1 pairs (one_update texts lets extra so_far)
  unfolding one_update
  one_update_follows lets extra so_far = value_then (update texts extra so_far.1 lets) pairs _ (λ next. nothing _) (update_follows extra so_far.1 lets)

  more_updates_follow : (lets : List Let) (room : ℕ) (so_far : List Update × Uses) → Follows 0 pairs (more_updates texts lets room so_far)
  unfolding more_updates
  more_updates_follow lets room so_far =
      repeats begins_update (one_update texts lets) (λ extra so_far. loose pairs (one_update texts lets extra so_far) (one_update_follows lets extra so_far)) room so_far

  guarded_follows : (uses : Uses) (lets : List Let) → Follows 0 pairs (guarded texts uses lets)
  unfolding guarded
  guarded_follows uses lets =
      then_value (conditions texts lets) pairs _
      (λ guards. then_value (one_update texts lets false ([], uses)) pairs _
      (λ first. then_some (more_updates texts lets 15 first) pairs _
      (λ all. then_word texts pairs _ (then_word texts pairs _ (let answer : (List Condition × List Update) × Uses = ((guards, all.0), all.1) in skip_follows (codes ";") answer) (codes "if")) (codes "end"))
      (more_updates_follow lets 15 first))
      (one_update_follows lets false ([], uses)))
      (conditions_follow lets)

  unguarded_follows : (uses : Uses) (lets : List Let) → Follows 0 pairs (unguarded texts uses lets)
  unfolding unguarded
  unguarded_follows uses lets = then_some (more_updates texts lets 16 ([], uses)) pairs _ (λ all. let answer : (List Condition × List Update) × Uses = (([], all.0), all.1) in nothing answer) (more_updates_follow lets 16 ([], uses))

  action_follows : (uses : Uses) (lets : List Let) → Follows 0 pairs (action texts uses lets)
  unfolding action
  action_follows uses lets =
      by_token 0 pairs (says_word (codes "if")) (λ a. guarded texts uses lets (behind a)) (unguarded texts uses lets)
      (behind_one pairs (guarded texts uses lets) (guarded_follows uses lets)) (unguarded_follows uses lets)

  opening_follows : Follows 1 places (opening texts)
  unfolding opening
  opening_follows = word_then texts places (take_word texts (codes "transaction")) (loose places (take_word texts (codes "transaction")) (word_follows texts (codes "transaction"))) (codes "begin")

  commit_follows : (uses : Uses) → Follows 1 places (commit texts uses)
  unfolding commit commit_word
  commit_follows uses =
      step_then (not texts) places (λ token. standing_of (says_word (codes "commit") token) (length uses == 0) true) _
      (then_word texts places _ (skip_place (codes ";")) (codes "transaction"))

  closing_follows : (uses : Uses) → Follows 1 places (closing texts uses)
  unfolding closing finish
  closing_follows uses = in_turn 1 places places (commit texts uses) _ (commit_follows uses) (λ y. loose places _ (passed_follows fault_behind_end))

  behind_lets_stops : (uses : Uses) (lets : List Let) → Stops (behind_lets texts uses lets)
  unfolding behind_lets
  behind_lets_stops uses lets =
      then_stops 0 pairs (select texts uses lets) _ (select_follows uses lets)
      (λ selects. then_stops 0 pairs (action texts selects.0.1 lets) _ (action_follows selects.0.1 lets)
      (λ acts. then_stops 1 places (closing texts acts.0.1) _ (closing_follows acts.0.1) (λ y. answered _)))

  pub reading_stops : Stops (reading texts)
  unfolding reading
  reading_stops =
      then_stops 1 places (opening texts) _ opening_follows
      (λ t. then_stops 0 pairs (more_lets texts 16 ([], [])) _ (lets_follow texts 16 ([], [])) (λ lets. behind_lets_stops lets.0.1 lets.0.0))

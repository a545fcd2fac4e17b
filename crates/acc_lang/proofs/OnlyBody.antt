-- What is spelled and fits is read: updates, actions and whole texts.
use Rattle.std.proofs.Common.{◌≡◌, ◌≤◌, ◌==◌, ℕ, Bool, true, false, List, [], ◌∷◌, ◌++◌, length, codes, Ok, refl, sym, ap, ◌∙◌, subst, ⊎_elim, arith, not}
use Rattle.acc_token.specs.Tokens.{Token, Word, Mark, End, token_at, behind, says_word, says_mark}
use Rattle.acc_txn.specs.declared.parts.Let.{Let}
use Rattle.acc_txn.specs.declared.parts.Select.{Select}
use Rattle.acc_txn.specs.declared.parts.Select.TheVariants.{Nothing, Names, Get}
use Rattle.acc_txn.specs.declared.parts.Condition.{Condition}
use Rattle.acc_txn.specs.declared.parts.Update.{Update}
use Rattle.acc_txn.specs.declared.parts.Update.TheVariants.{Set, Delete}
use Rattle.acc_txn.specs.declared.parts.BodyParts.{BodyParts}
use Rattle.acc_lang.specs.Faults.{fault_behind_end}
use Rattle.acc_lang.specs.Reading.{step, standing_of, take_word, take_mark, skip_mark, table, where_key, from_key, is_sign, more_lets, select, expression, condition, one_condition, more_conditions, conditions, begins_update, assignment, removal, update, one_update, more_updates, guarded, unguarded, action, opening, commit_word, commit, finish, closing, behind_lets, reading}
use Rattle.acc_lang.specs.Grammar.{Spells, Each, Behind, MaybeSemicolon, SelectSpelled, ConditionSpelled, UpdateSpelled, GuardedSpelled, ActionSpelled, Spelled}
use Rattle.acc_lang.proofs.Steps.{word_only, mark_only, takes_word}
use Rattle.acc_lang.proofs.Fits.{ThisCondition, IsFitCondition, IsFitUpdate, IsFitBody, AreNamed, Uses, uses_after_select, after, InTurn, at_end, after_at_end, with_let, with_update}
use Rattle.acc_lang.proofs.Found.{where_tokens, from_tokens}
use Rattle.acc_lang.proofs.FoundText.{updates_alone}
use Rattle.acc_lang.proofs.FoundBody.{lets_alone}
use Rattle.acc_lang.proofs.Only.{then_ok, each_only, table_only, where_key_only, from_key_only, front_of, lets_only, select_only}
use Rattle.acc_lang.proofs.OnlyText.{expression_only, condition_only}

semicolon_only : (text rest : List ℕ) → MaybeSemicolon text rest → says_mark (codes ";") (token_at rest) ≡ false → skip_mark (codes ";") text ≡ rest
unfolding skip_mark
semicolon_only text rest spelled other =
    ⊎_elim
    (λ same.
    let none : says_mark (codes ";") (token_at text) ≡ false = ap (λ place. says_mark (codes ";") (token_at place)) same ∙ other in
    rw none same)
    (λ one. rw one.0 one.1)
    spelled

-- a select begins with no LET
pub select_head : (lets : List Let) (s : Select) (text rest : List ℕ) → SelectSpelled lets s text rest → says_word (codes "let") (token_at rest) ≡ false
    → says_word (codes "let") (token_at text) ≡ false
select_head lets Nothing text rest spelled ends = ap (λ place. says_word (codes "let") (token_at place)) spelled ∙ ends
select_head lets (Names []) text rest spelled ends = absurd spelled
select_head lets (Names (name ∷ names)) text rest spelled ends = ap (says_word (codes "let")) spelled.2.1.0
select_head lets (Get key) text rest spelled ends = ap (says_word (codes "let")) spelled.0

module _ (texts : Bool) where
  pub one_condition_only : (lets : List Let) → AreNamed lets → (so_far : List Condition) (c : Condition) (text rest : List ℕ) → is_sign (token_at rest) ≡ false
      → Behind (Word (codes "and") ∷ []) (ConditionSpelled texts lets) c text rest → IsFitCondition c
      → one_condition texts lets false so_far text ≡ Ok (at_end so_far c, rest)
  unfolding one_condition
  one_condition_only lets names so_far c text rest ends spelled fit =
      then_ok (take_word texts (codes "and") text) _ (behind text) _ (word_only texts (codes "and") text spelled.1.0 refl)
      (then_ok (condition texts false lets (behind text)) _ (c, rest) _
      (ap (condition texts false lets) spelled.1.1 ∙ condition_only texts lets c spelled.0 rest names spelled.2 fit ends)
      refl)

  -- what follows a condition: AND or THEN
  no_sign_behind : (lets : List Let) (guards : List Condition) (text rest : List ℕ) → Each (Behind (Word (codes "and") ∷ []) (ConditionSpelled texts lets)) guards text rest
      → token_at rest ≡ Word (codes "then") → is_sign (token_at text) ≡ false
  no_sign_behind lets [] text rest spelled ends = ap (λ place. is_sign (token_at place)) spelled ∙ ap is_sign ends
  no_sign_behind lets (c ∷ guards) text rest spelled ends = ap is_sign spelled.1.1.0

  more_conditions_only : (lets : List Let) (guards so_far : List Condition) (room : ℕ) (text rest : List ℕ) → AreNamed lets → Each (Behind (Word (codes "and") ∷ []) (ConditionSpelled texts lets)) guards text rest
      → InTurn at_end ThisCondition so_far guards → length guards ≤ room → token_at rest ≡ Word (codes "then") → more_conditions texts lets room so_far text ≡ Ok (so_far ++ guards, rest)
  unfolding more_conditions
  more_conditions_only lets guards so_far room text rest names spelled fit few ends =
      each_only (says_word (codes "and")) (one_condition texts lets) at_end
      (λ c from to. Behind (Word (codes "and") ∷ []) (ConditionSpelled texts lets) c from to × (is_sign (token_at to) ≡ false)) ThisCondition
      (λ so_far c text rest spelled fit. (ap (says_word (codes "and")) spelled.0.1.0, one_condition_only lets names so_far c text rest spelled.1 spelled.0 fit))
      guards room so_far text rest (unsigned guards text spelled) fit few (ap (says_word (codes "and")) ends)
      ∙ ap (λ all. Ok (all, rest)) (after_at_end so_far guards) where
        unsigned : (guards : List Condition) (text : List ℕ) → Each (Behind (Word (codes "and") ∷ []) (ConditionSpelled texts lets)) guards text rest
            → Each (λ c from to. Behind (Word (codes "and") ∷ []) (ConditionSpelled texts lets) c from to × (is_sign (token_at to) ≡ false)) guards text rest
        unsigned [] text spelled = spelled
        unsigned (c ∷ guards) text spelled = (spelled.0, (spelled.1, no_sign_behind lets guards spelled.0 rest spelled.2 ends), unsigned guards spelled.0 spelled.2)

  pub conditions_only : (lets : List Let) (guard : Condition) (guards : List Condition) (text a b rest : List ℕ) → AreNamed lets → ConditionSpelled texts lets guard text a
      → Each (Behind (Word (codes "and") ∷ []) (ConditionSpelled texts lets)) guards a b → Spells (Word (codes "then") ∷ []) b rest
      → length guards ≤ 15 → IsFitCondition guard → InTurn at_end ThisCondition (guard ∷ []) guards → conditions texts lets text ≡ Ok (guard ∷ guards, rest)
  unfolding conditions
  conditions_only lets guard guards text a b rest names spelled others ends few fit fits =
      then_ok (condition texts false lets text) _ (guard, a) _ (condition_only texts lets guard text a names spelled fit (no_sign_behind lets guards a b others ends.0))
      (then_ok (more_conditions texts lets 15 (guard ∷ []) a) _ (guard ∷ guards, b) _ (more_conditions_only lets guards (guard ∷ []) 15 a b names others fits few ends.0)
      (then_ok (take_word texts (codes "then") b) _ (behind b) _ (word_only texts (codes "then") b ends.0 refl)
      (ap (λ place. Ok (guard ∷ guards, place)) ends.1)))

  pub one_update_only : (lets : List Let) → AreNamed lets → (so_far : List Update × Uses) (u : Update) (text rest : List ℕ) → UpdateSpelled texts lets u text rest → IsFitUpdate so_far u
      → (begins_update (token_at text) ≡ true) × (one_update texts lets false so_far text ≡ Ok (with_update so_far u, rest))
  unfolding one_update update assignment removal
  one_update_only lets names so_far (Set key value) text rest spelled fit =
      let place = spelled.0 in
      let s = spelled.1.1 in
      let is = s.0 in
      let a = behind text in
      let b = behind a in
      let c = behind b in
      let d = behind c in
      let e = behind d in
      let f = front_of (where_tokens key) (Mark (codes ";") ∷ []) place rest spelled.2 in (
        ap begins_update is,
        then_ok (update texts false so_far.1 lets text) _ (Set key value, rest) _
            (rw is
            (then_ok (step (not texts) (standing_of true false true) text) _ a _ (takes_word (not texts) (codes "update") text is refl)
            (then_ok (table texts a) _ (key.table, b) _ (table_only texts key.table a s.1.0 fit.0.table)
            (then_ok (take_word texts (codes "set") b) _ c _ (word_only texts (codes "set") b s.1.1.0 refl)
            (then_ok (take_word texts (codes "v") c) _ d _ (word_only texts (codes "v") c s.1.1.1.0 refl)
            (then_ok (take_mark texts (codes "=") d) _ e _ (mark_only texts (codes "=") d s.1.1.1.1.0)
            (then_ok (expression texts lets e) _ (value, place) _
            (ap (expression texts lets) s.1.1.1.1.1 ∙ expression_only texts lets value spelled.1.0 place names spelled.1.2 fit.1 (ap is_sign spelled.2.0))
            (then_ok (where_key texts true so_far.1 key.table place) _ (key, f.0) _ (where_key_only texts true so_far.1 key place f.0 f.1 fit.0)
            (then_ok (take_mark texts (codes ";") f.0) _ (behind f.0) _ (mark_only texts (codes ";") f.0 f.2.0)
            (ap (λ at. Ok (Set key value, at)) f.2.1))))))))))
            refl,
      )
  one_update_only lets names so_far (Delete key) text rest spelled fit =
      let is = spelled.0 in
      let f = front_of (from_tokens key) (Mark (codes ";") ∷ []) (behind text) rest spelled.1 in (
        ap begins_update is,
        then_ok (update texts false so_far.1 lets text) _ (Delete key, rest) _
            (rw is
            (then_ok (step (not texts) (standing_of true false true) text) _ (behind text) _ (takes_word (not texts) (codes "delete") text is refl)
            (then_ok (from_key texts true so_far.1 (behind text)) _ (key, f.0) _ (from_key_only texts true so_far.1 key (behind text) f.0 f.1 fit)
            (then_ok (take_mark texts (codes ";") f.0) _ (behind f.0) _ (mark_only texts (codes ";") f.0 f.2.0)
            (ap (λ at. Ok (Delete key, at)) f.2.1)))))
            refl,
      )

  pub updates_only : (lets : List Let) (updates : List Update) (room : ℕ) (so_far : List Update × Uses) (text rest : List ℕ) → AreNamed lets → Each (UpdateSpelled texts lets) updates text rest
      → InTurn with_update IsFitUpdate so_far updates → length updates ≤ room → begins_update (token_at rest) ≡ false
      → more_updates texts lets room so_far text ≡ Ok (after with_update so_far updates, rest)
  unfolding more_updates
  updates_only lets updates room so_far text rest names spelled fit few ends =
      each_only begins_update (one_update texts lets) with_update (UpdateSpelled texts lets) IsFitUpdate (one_update_only lets names) updates room so_far text rest spelled fit few ends

  pub guarded_only : (uses : Uses) (lets : List Let) (guard : Condition) (guards : List Condition) (updates : List Update) (text rest : List ℕ) → AreNamed lets
      → GuardedSpelled texts lets guard guards updates text rest → length (guard ∷ guards) ≤ 16 → InTurn at_end ThisCondition [] (guard ∷ guards) → length updates ≤ 16
      → InTurn with_update IsFitUpdate ([], uses) updates → token_at rest ≡ Word (codes "commit")
      → (token_at text ≡ Word (codes "if"))
      × (guarded texts uses lets (behind text) ≡ Ok (((guard ∷ guards, updates), (after with_update ([], uses) updates).1), rest))
  unfolding guarded
  guarded_only uses lets guard guards [] text rest names spelled few fit few_updates fits ends = absurd spelled
  guarded_only uses lets guard guards (u ∷ updates) text rest names spelled few fit few_updates fits ends =
      let c = spelled.2 in
      let d = spelled.3 in
      let first = spelled.7.0 in
      let all = after with_update ([], uses) (u ∷ updates) in (
        spelled.5.1.0,
        then_ok (conditions texts lets (behind text)) _ (guard ∷ guards, first) _
            (conditions_only lets guard guards (behind text) spelled.0 spelled.1 first names
            (subst (λ place. ConditionSpelled texts lets guard place spelled.0) (sym spelled.5.1.1) spelled.5.2) spelled.6 spelled.7.1 (omega arith) fit.0 fit.1)
            (then_ok (one_update texts lets false ([], uses) first) _ (with_update ([], uses) u, c) _ (one_update_only lets names ([], uses) u first c spelled.7.2 fits.0).1
            (then_ok (more_updates texts lets 15 (with_update ([], uses) u) c) _ (all, d) _
            (updates_only lets updates 15 (with_update ([], uses) u) c d names spelled.8 fits.1 (omega arith) (ap begins_update spelled.9.0))
            (then_ok (take_word texts (codes "end") d) _ (behind d) _ (word_only texts (codes "end") d spelled.9.0 refl)
            (then_ok (take_word texts (codes "if") (behind d)) _ (behind (behind d)) _ (word_only texts (codes "if") (behind d) spelled.9.1.0 refl)
            (λ i. Ok (
              ((guard ∷ guards, updates_alone [] (u ∷ updates) uses i), all.1),
              (ap (skip_mark (codes ";")) spelled.9.1.1 ∙ semicolon_only spelled.4 rest spelled.10 (ap (says_mark (codes ";")) ends)) i,
            )))))),
      )

  -- what is read of an action is what it says, and the keys up to its end
  pub action_only : (uses : Uses) (lets : List Let) (guards : List Condition) (updates : List Update) (text rest : List ℕ) → AreNamed lets
      → ActionSpelled texts lets guards updates text rest → length guards ≤ 16 → InTurn at_end ThisCondition [] guards → length updates ≤ 16
      → InTurn with_update IsFitUpdate ([], uses) updates → token_at rest ≡ Word (codes "commit")
      → action texts uses lets text ≡ Ok (((guards, updates), (after with_update ([], uses) updates).1), rest)
  unfolding action unguarded
  action_only uses lets [] updates text rest names spelled few fit few_updates fits ends =
      rw (no_if updates text spelled)
      (then_ok (more_updates texts lets 16 ([], uses) text) _ (after with_update ([], uses) updates, rest) _
      (updates_only lets updates 16 ([], uses) text rest names spelled fits few_updates (ap begins_update ends))
      (ap (λ all. Ok ((([], all), (after with_update ([], uses) updates).1), rest)) (updates_alone [] updates uses))) where
        no_if : (updates : List Update) (text : List ℕ) → Each (UpdateSpelled texts lets) updates text rest → says_word (codes "if") (token_at text) ≡ false
        no_if [] text spelled = ap (λ place. says_word (codes "if") (token_at place)) spelled ∙ ap (says_word (codes "if")) ends
        no_if (Set key value ∷ updates) text spelled = ap (says_word (codes "if")) spelled.1.1.1.0
        no_if (Delete key ∷ updates) text spelled = ap (says_word (codes "if")) spelled.1.0
  action_only uses lets (guard ∷ guards) updates text rest names spelled few fit few_updates fits ends =
      let g = guarded_only uses lets guard guards updates text rest names spelled few fit few_updates fits ends in
      rw g.0 g.1

  -- the first token of an action, or of COMMIT where there is none, is none of those that a test tells apart from these
  pub action_head : (test : Token → Bool) (lets : List Let) (guards : List Condition) (updates : List Update) (text rest : List ℕ)
      → test (Word (codes "if")) ≡ false → test (Word (codes "update")) ≡ false → test (Word (codes "delete")) ≡ false → test (Word (codes "commit")) ≡ false
      → ActionSpelled texts lets guards updates text rest → token_at rest ≡ Word (codes "commit") → test (token_at text) ≡ false
  action_head test lets [] [] text rest no_if no_update no_delete no_commit spelled ends = ap (λ place. test (token_at place)) spelled ∙ ap test ends ∙ no_commit
  action_head test lets [] (Set key value ∷ updates) text rest no_if no_update no_delete no_commit spelled ends = ap test spelled.1.1.1.0 ∙ no_update
  action_head test lets [] (Delete key ∷ updates) text rest no_if no_update no_delete no_commit spelled ends = ap test spelled.1.0 ∙ no_delete
  action_head test lets (guard ∷ guards) [] text rest no_if no_update no_delete no_commit spelled ends = absurd spelled
  action_head test lets (guard ∷ guards) (u ∷ updates) text rest no_if no_update no_delete no_commit spelled ends = ap test spelled.5.1.0 ∙ no_if

  pub closing_only : (uses : Uses) (text place last : List ℕ) → (length uses == 0) ≡ false → Spells (Word (codes "commit") ∷ Word (codes "transaction") ∷ []) text place
      → MaybeSemicolon place last → token_at last ≡ End → closing texts uses text ≡ Ok (behind last)
  unfolding closing commit commit_word finish fault_behind_end
  closing_only uses text place last some spelled semicolon ends =
      then_ok (commit texts uses text) _ last _
      (rw some (rw spelled.0
      (then_ok (step (not texts) (standing_of true false true) text) _ (behind text) _ (takes_word (not texts) (codes "commit") text spelled.0 refl)
      (then_ok (take_word texts (codes "transaction") (behind text)) _ (behind (behind text)) _ (word_only texts (codes "transaction") (behind text) spelled.1.0 refl)
      (ap Ok (ap (skip_mark (codes ";")) spelled.1.1 ∙ semicolon_only place last semicolon (ap (says_mark (codes ";")) ends)))))))
      (rw ends refl)

  pub reading_only : (text : List ℕ) (parts : BodyParts) → AreNamed parts.lets → Spelled texts text parts → IsFitBody parts → reading texts text ≡ Ok parts
  unfolding reading opening behind_lets
  reading_only text parts names spelled fit =
      let lets = parts.lets in
      let uses = (after with_let ([], []) lets).1 in
      let others = uses_after_select uses parts.select in
      let all = after with_update ([], others) parts.updates in
      let commits = spelled.commits.0 in
      then_ok (opening texts text) _ (behind (behind text)) _
      (then_ok (take_word texts (codes "begin") text) _ (behind text) _ (word_only texts (codes "begin") text spelled.begins.0 refl) (word_only texts (codes "transaction") (behind text) spelled.begins.1.0 refl))
      (then_ok (more_lets texts 16 ([], []) (behind (behind text))) _ ((lets, uses), spelled.select_place) _
      (ap (more_lets texts 16 ([], [])) spelled.begins.1.1
      ∙ lets_only texts lets spelled.lets_place spelled.select_place spelled.lets fit.lets fit.few_lets
      (select_head lets parts.select spelled.select_place spelled.action_place spelled.select
      (action_head (says_word (codes "let")) lets parts.guards parts.updates spelled.action_place spelled.commit_place refl refl refl refl spelled.action commits))
      ∙ ap (λ all. Ok ((all, uses), spelled.select_place)) (lets_alone [] lets []))
      (then_ok (select texts uses lets spelled.select_place) _ ((parts.select, others), spelled.action_place) _
      (select_only texts uses lets parts.select spelled.select_place spelled.action_place names spelled.select fit.select
      (action_head (says_word (codes "select")) lets parts.guards parts.updates spelled.action_place spelled.commit_place refl refl refl refl spelled.action commits))
      (then_ok (action texts others lets spelled.action_place) _ (((parts.guards, parts.updates), all.1), spelled.commit_place) _
      (action_only others lets parts.guards parts.updates spelled.action_place spelled.commit_place names spelled.action fit.few_guards fit.guards fit.few_updates fit.updates commits)
      (then_ok (closing texts all.1 spelled.commit_place) _ (behind spelled.last_place) _
      (closing_only all.1 spelled.commit_place spelled.end_place spelled.last_place fit.some_key spelled.commits spelled.semicolon spelled.ends)
      refl))))

-- The canonical text of a body is a text of the grammar that says this body.
use Rattle.std.proofs.Common.{◌≡◌, ℕ, Bool, true, false, not, ◌&&◌, ◌||◌, List, [], ◌∷◌, ◌++◌, length, refl, sym, subst, append_assoc, inl, arith}
use Rattle.std.specs.Prelude.{codes, nat_lt, ◌==◌}
use Rattle.std.specs.List.{flat_map, list_any}
use Rattle.std.proofs.lemmas.Bool.{or_parts, not-false, both_ways, and_from, lt-ltb}
use Rattle.acc_token.specs.Tokens.{Word, Mark, Quoted, continues_word, token_at, token_of, token_len, behind, after_blanks}
use Rattle.acc_txn.specs.declared.parts.Let.{Let}
use Rattle.acc_txn.specs.declared.parts.Select.{Select}
use Rattle.acc_txn.specs.declared.parts.Select.TheVariants.{Nothing, Names, Get}
use Rattle.acc_txn.specs.declared.parts.Condition.{Condition}
use Rattle.acc_txn.specs.declared.parts.Update.{Update}
use Rattle.acc_txn.specs.declared.parts.BodyParts.{BodyParts}
use Rattle.acc_txn.specs.Words.{is_name, is_key}
use Rattle.acc_txn.specs.Uses.{selected_keys}
use Rattle.acc_txn.specs.Rules.{has_bad_name, has_bad_key, is_unbound, selected_names, selects_nothing, condition_has, is_malformed, mentions_unbound, asks_unbound, IsBody}
use Rattle.acc_print.specs.Canonical.{get_text, let_text, cell_text, condition_text, update_text, select_text, action_text, canonical_text}
use Rattle.acc_txn.proofs.Keeps.{KeepsRules, IsBody-keeps}
use Rattle.acc_print.specs.Numbers.{has_unsaid_term, IsSaid}
use Rattle.acc_lang.specs.Grammar.{Spells, Each, Behind, LetSpelled, NameSpelled, SelectSpelled, GuardedSpelled, ActionSpelled, Spelled}
use Rattle.acc_print.proofs.TokenFacts.{stops, spaced, letters}
use Rattle.acc_print.proofs.KeyFacts.{behind3, get_spelled, let_spelled}
use Rattle.acc_print.proofs.SumFacts.{cell_spelled}
use Rattle.acc_print.proofs.ConditionFacts.{AreGoodConditions, first_condition, other_conditions, condition_spelled, ands_stop, ands_spelled}
use Rattle.acc_print.proofs.UpdateFacts.{AreGoodUpdates, first_update, other_updates, update_spelled, update_stops, updates_stop, updates_spelled}

-- { let }
lets_spelled : (lets : List Let) (rest : List ℕ) → list_any (λ l. not (is_name l.name)) lets ≡ false → list_any (λ l. not (is_key l.key)) lets ≡ false →
    Each LetSpelled lets (flat_map let_text lets ++ rest) rest
lets_spelled [] rest named keyed = refl
lets_spelled (l ∷ lets) rest named keyed =
    let names = or_parts (not (is_name l.name)) _ named in
    let keys = or_parts (not (is_key l.key)) _ keyed in
    let next = flat_map let_text lets ++ rest in (
      next,
      subst (λ from. LetSpelled l from next) (sym (append_assoc (let_text l) (flat_map let_text lets) rest))
          (let_spelled l next (not-false (is_name l.name) names.0) (not-false (is_key l.key) keys.0)),
      lets_spelled lets rest names.1 keys.1,
    )

lets_stop : (lets : List Let) (rest : List ℕ) → stops continues_word rest ≡ true → stops continues_word (flat_map let_text lets ++ rest) ≡ true
unfolding let_text
lets_stop [] rest stop = stop
lets_stop (l ∷ lets) rest stop = refl

module _ (texts : Bool) (lets : List Let) (named : has_bad_name lets ≡ false) where
  -- ---- the select

  commas_stop : (names : List ℕ) (rest : List ℕ) → stops continues_word rest ≡ true → stops continues_word (flat_map (λ n. codes ", " ++ cell_text lets n) names ++ rest) ≡ true
  commas_stop [] rest stop = stop
  commas_stop (name ∷ names) rest stop = refl

  -- { , name . v }
  commas_spelled : (names : List ℕ) (rest : List ℕ) → list_any (is_unbound (length lets)) names ≡ false → stops continues_word rest ≡ true →
      Each (Behind (Mark (codes ",") ∷ []) (NameSpelled lets)) names (flat_map (λ n. codes ", " ++ cell_text lets n) names ++ rest) rest
  unfolding token_at token_of token_len behind after_blanks
  commas_spelled [] rest bound stop = refl
  commas_spelled (name ∷ names) rest bound stop =
      let bounds = or_parts (is_unbound (length lets) name) _ bound in
      let others = flat_map (λ n. codes ", " ++ cell_text lets n) names in
      let next = others ++ rest in
      let first = cell_spelled lets named name next bounds.0 (commas_stop names rest stop) in (
        next,
        subst (λ from. Behind (Mark (codes ",") ∷ []) (NameSpelled lets) name from next)
            (sym (append_assoc (codes ", " ++ cell_text lets name) others rest)) (32 ∷ cell_text lets name ++ next, (refl, refl), first),
        commas_spelled names rest bounds.1 stop,
      )

  select_spelled : (select : Select) (rest : List ℕ) → selects_nothing select ≡ false → list_any (is_unbound (length lets)) (selected_names select) ≡ false →
      list_any (λ key. not (is_key key)) (selected_keys select) ≡ false → SelectSpelled lets select (select_text lets select ++ rest) rest
  unfolding token_at token_of token_len behind after_blanks
  select_spelled Nothing rest shaped bound keyed = refl
  select_spelled (Names []) rest shaped bound keyed = cc
  select_spelled (Names (name ∷ names)) rest shaped bound keyed =
      let bounds = or_parts (is_unbound (length lets) name) _ bound in
      let others = flat_map (λ n. codes ", " ++ cell_text lets n) names in
      let a = others ++ 59 ∷ rest in
      let first = cell_spelled lets named name a bounds.0 (commas_stop names (59 ∷ rest) refl) in
      let apart : (cell_text lets name ++ others ++ codes ";") ++ rest ≡ cell_text lets name ++ (others ++ (codes ";" ++ rest)) = behind3 (cell_text lets name) others (codes ";") rest in
      subst (λ from. SelectSpelled lets (Names (name ∷ names)) (codes " SELECT " ++ from) rest) (sym apart)
      (a, 59 ∷ rest, (32 ∷ cell_text lets name ++ a, (refl, refl), first), commas_spelled names (59 ∷ rest) bounds.1 refl, (refl, refl))
  select_spelled (Get key) rest shaped bound keyed =
      let good = not-false (is_key key) (or_parts (not (is_key key)) false keyed).0 in
      let got = get_spelled key (59 ∷ rest) rest (Mark (codes ";") ∷ []) good refl (refl, refl) in
      subst (λ from. SelectSpelled lets (Get key) (32 ∷ from) rest) (sym (append_assoc (get_text key) (codes ";") rest))
      (spaced (Word (codes "select"))
      (Word (codes "v") ∷ Word (codes "from") ∷ Word key.table ∷ Word (codes "where") ∷ Word (codes "k") ∷ Mark (codes "=") ∷ Quoted key.key true
      ∷ Mark (codes ";") ∷ []) (get_text key ++ 59 ∷ rest) rest got)

  select_stops : (select : Select) (rest : List ℕ) → stops continues_word rest ≡ true → stops continues_word (select_text lets select ++ rest) ≡ true
  select_stops Nothing rest stop = stop
  select_stops (Names names) rest stop = refl
  select_stops (Get key) rest stop = refl

  -- ---- the action

  guarded_spelled : (guard : Condition) (guards : List Condition) (update : Update) (updates : List Update) (rest : List ℕ) →
      AreGoodConditions texts (length lets) (guard ∷ guards) → AreGoodUpdates texts (length lets) (update ∷ updates) → stops continues_word rest ≡ true →
      GuardedSpelled texts lets guard guards (update ∷ updates)
      (codes " IF " ++ (condition_text lets guard ++ (flat_map (λ c. codes " AND " ++ condition_text lets c) guards
      ++ (codes " THEN" ++ (update_text lets update ++ (flat_map (update_text lets) updates ++ (codes " END IF" ++ rest))))))) rest
  unfolding token_at token_of token_len behind after_blanks
  guarded_spelled guard guards update updates rest conditions good stop =
      let n = length lets in
      let d = codes " END IF" ++ rest in
      let c = flat_map (update_text lets) updates ++ d in
      let b = codes " THEN" ++ (update_text lets update ++ c) in
      let a = flat_map (λ c. codes " AND " ++ condition_text lets c) guards ++ b in
      let first = condition_spelled texts lets named guard a (first_condition texts n guard guards conditions) (ands_stop texts lets named guards b refl) in
      let others = ands_spelled texts lets named guards b (other_conditions texts n guard guards conditions) refl in
      let then_ = spaced (Word (codes "then")) [] (codes "THEN" ++ (update_text lets update ++ c)) (update_text lets update ++ c)
      (letters 84 (codes "HEN") (update_text lets update ++ c) (update_text lets update ++ c) [] refl refl (update_stops texts lets named update c) refl) in
      let made = update_spelled texts lets named update c (first_update texts n update updates good) in
      let more = updates_spelled texts lets named updates d (other_updates texts n update updates good) in
      let end_ = spaced (Word (codes "if")) [] (codes "IF" ++ rest) rest (letters 73 (codes "F") rest rest [] refl refl stop refl) in
      (a, b, c, d, rest, (32 ∷ condition_text lets guard ++ a, (refl, refl), first), others, (update_text lets update ++ c, then_, made), more, (refl, end_), inl refl)

  -- the text of an IF, piece by piece
  pieces : (i g gs t u us e rest : List ℕ) → (i ++ (g ++ gs) ++ t ++ (u ++ us) ++ e) ++ rest ≡ i ++ (g ++ (gs ++ (t ++ (u ++ (us ++ (e ++ rest))))))
  pieces i g gs t u us e rest = simp append_assoc

  action_spelled : (guards : List Condition) (updates : List Update) (rest : List ℕ) → AreGoodConditions texts (length lets) guards → AreGoodUpdates texts (length lets) updates →
      (nat_lt 0 (length guards) && length updates == 0) ≡ false → stops continues_word rest ≡ true →
      ActionSpelled texts lets guards updates (action_text lets guards updates ++ rest) rest
  action_spelled [] updates rest conditions good shaped stop = updates_spelled texts lets named updates rest good
  action_spelled (guard ∷ guards) [] rest conditions good shaped stop =
      let some = lt-ltb 0 (length (guard ∷ guards)) (omega arith) in
      absurd (both_ways (nat_lt 0 (length (guard ∷ guards)) && true) shaped (and_from (nat_lt 0 (length (guard ∷ guards))) true some refl))
  action_spelled (guard ∷ guards) (update ∷ updates) rest conditions good shaped stop =
      subst (λ from. GuardedSpelled texts lets guard guards (update ∷ updates) from rest)
      (sym (pieces (codes " IF ") (condition_text lets guard) (flat_map (λ c. codes " AND " ++ condition_text lets c) guards) (codes " THEN") (update_text lets update)
      (flat_map (update_text lets) updates) (codes " END IF") rest))
      (guarded_spelled guard guards update updates rest conditions good stop)

  action_stops : (guards : List Condition) (updates : List Update) (rest : List ℕ) → stops continues_word rest ≡ true →
      stops continues_word (action_text lets guards updates ++ rest) ≡ true
  action_stops [] updates rest stop = updates_stop texts lets named updates rest stop
  action_stops (guard ∷ guards) updates rest stop = refl

-- ---- the body

begin_spelled : (rest : List ℕ) → stops continues_word rest ≡ true → Spells (Word (codes "begin") ∷ Word (codes "transaction") ∷ []) (codes "BEGIN TRANSACTION" ++ rest) rest
unfolding token_at token_of token_len behind after_blanks
begin_spelled rest stop =
    (refl, spaced (Word (codes "transaction")) [] (codes "TRANSACTION" ++ rest) rest (letters 84 (codes "RANSACTION") rest rest [] refl refl stop refl))

commit_spelled : Spells (Word (codes "commit") ∷ Word (codes "transaction") ∷ []) (codes " COMMIT TRANSACTION") []
unfolding token_at token_of token_len behind after_blanks
commit_spelled = (refl, (refl, refl))

body_spelled : (texts : Bool) (parts : BodyParts) → KeepsRules parts → IsSaid texts parts →
    Spelled texts (codes "BEGIN TRANSACTION" ++ (flat_map let_text parts.lets ++ (select_text parts.lets parts.select
    ++ (action_text parts.lets parts.guards parts.updates ++ codes " COMMIT TRANSACTION")))) parts
unfolding token_at token_of after_blanks
body_spelled texts parts rules said =
    let lets = parts.lets in
    let n = length lets in
    let worded = or_parts (has_bad_name lets) (has_bad_key parts) rules.worded in
    let named = worded.0 in
    let keyed = or_parts (list_any (λ l. not (is_key l.key)) lets || list_any (λ key. not (is_key key)) (selected_keys parts.select)) _ worded.1 in
    let read = or_parts (list_any (λ l. not (is_key l.key)) lets) _ keyed.0 in
    let bound = or_parts _ (list_any (asks_unbound n) parts.guards) rules.bound in
    let mentioned = or_parts (list_any (is_unbound n) (selected_names parts.select)) _ bound.0 in
    let sums_bound = or_parts (list_any (condition_has (mentions_unbound n)) parts.guards) _ mentioned.1 in
    let shaped = or_parts _ (nat_lt 0 (length parts.guards) && length parts.updates == 0) rules.shaped in
    let well_shaped = or_parts _ (selects_nothing parts.select) shaped.0 in
    let sums_shaped = or_parts (list_any (condition_has is_malformed) parts.guards) _ well_shaped.0 in
    let sums_said = or_parts (list_any (condition_has (has_unsaid_term texts)) parts.guards) _ said in
    let conditions : AreGoodConditions texts n parts.guards = record { shaped = sums_shaped.0; bound = sums_bound.0; asked = bound.1; said = sums_said.0 } in
    let updates : AreGoodUpdates texts n parts.updates = record { shaped = sums_shaped.1; bound = sums_bound.1; said = sums_said.1; keyed = keyed.1 } in
    let c = codes " COMMIT TRANSACTION" in
    let a = action_text lets parts.guards parts.updates ++ c in
    let s = select_text lets parts.select ++ a in
    let l = flat_map let_text lets ++ s in
    let stop = lets_stop lets s (select_stops texts lets named parts.select a (action_stops texts lets named parts.guards parts.updates c refl)) in
    record {
      lets_place = l;
      select_place = s;
      action_place = a;
      commit_place = c;
      end_place = [];
      last_place = [];
      begins = begin_spelled l stop;
      lets = lets_spelled lets s named read.0;
      select = select_spelled texts lets named parts.select a well_shaped.1 mentioned.0 read.1;
      action = action_spelled texts lets named parts.guards parts.updates c conditions updates shaped.1 refl;
      commits = commit_spelled;
      semicolon = inl refl;
      ends = refl;
    }

pieces_joined : (a b c d z : List ℕ) → a ++ b ++ c ++ d ++ z ≡ a ++ (b ++ (c ++ (d ++ z)))
pieces_joined a b c d z = simp append_assoc

pub canonical_spelled : (texts : Bool) (parts : BodyParts) → IsBody parts → IsSaid texts parts → Spelled texts (canonical_text parts) parts
canonical_spelled texts parts rules said =
    subst (λ text. Spelled texts text parts)
    (sym (pieces_joined (codes "BEGIN TRANSACTION") (flat_map let_text parts.lets) (select_text parts.lets parts.select)
    (action_text parts.lets parts.guards parts.updates) (codes " COMMIT TRANSACTION")))
    (body_spelled texts parts (IsBody-keeps parts rules) said)

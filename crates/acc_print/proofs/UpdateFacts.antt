-- Updates are spelled by their canonical texts.
use Rattle.std.proofs.Common.{◌≡◌, ℕ, Bool, true, false, not, List, [], ◌∷◌, ◌++◌, length, refl, sym, subst, append_assoc}
use Rattle.std.specs.Prelude.{codes}
use Rattle.std.specs.List.{flat_map, list_any}
use Rattle.std.proofs.lemmas.Bool.{or_parts, not-false}
use Rattle.acc_token.specs.Tokens.{Word, Mark, continues_word, token_at, token_of, token_len, behind, after_blanks}
use Rattle.acc_value.specs.declared.key.Key.{Key}
use Rattle.acc_txn.specs.declared.parts.Let.{Let}
use Rattle.acc_txn.specs.declared.parts.Part.{Part}
use Rattle.acc_txn.specs.declared.parts.Update.{Update}
use Rattle.acc_txn.specs.declared.parts.Update.TheVariants.{Set, Delete}
use Rattle.acc_txn.specs.Words.{is_key}
use Rattle.acc_txn.specs.Uses.{updated_key}
use Rattle.acc_txn.specs.Rules.{has_bad_name, is_malformed, mentions_unbound, update_has}
use Rattle.acc_print.specs.Canonical.{where_text, sum_text, set_text, delete_text, update_text}
use Rattle.acc_print.specs.Numbers.{has_unsaid_term}
use Rattle.acc_lang.specs.Grammar.{Each, UpdateSpelled}
use Rattle.acc_print.proofs.TokenFacts.{stops, name_spelled}
use Rattle.acc_print.proofs.KeyFacts.{behind6, key_table, where_stops, where_spelled, delete_spelled}
use Rattle.acc_print.proofs.SumFacts.{sum_spelled}

-- what the rules say of one update, where there are so many LETs
pub record IsGoodUpdate (texts : Bool) (lets : ℕ) (update : Update) : Type 0 where
  pub shaped : update_has is_malformed update ≡ false
  pub bound : update_has (mentions_unbound lets) update ≡ false
  pub said : update_has (has_unsaid_term texts) update ≡ false
  pub keyed : not (is_key (updated_key update)) ≡ false

-- what the rules say of updates
pub record AreGoodUpdates (texts : Bool) (lets : ℕ) (updates : List Update) : Type 0 where
  pub shaped : list_any (update_has is_malformed) updates ≡ false
  pub bound : list_any (update_has (mentions_unbound lets)) updates ≡ false
  pub said : list_any (update_has (has_unsaid_term texts)) updates ≡ false
  pub keyed : list_any (λ update. not (is_key (updated_key update))) updates ≡ false

pub first_update : (texts : Bool) (lets : ℕ) (update : Update) (updates : List Update) → AreGoodUpdates texts lets (update ∷ updates) → IsGoodUpdate texts lets update
first_update texts lets update updates h = record {
  shaped = (or_parts (update_has is_malformed update) _ h.shaped).0;
  bound = (or_parts (update_has (mentions_unbound lets) update) _ h.bound).0;
  said = (or_parts (update_has (has_unsaid_term texts) update) _ h.said).0;
  keyed = (or_parts (not (is_key (updated_key update))) _ h.keyed).0;
}

pub other_updates : (texts : Bool) (lets : ℕ) (update : Update) (updates : List Update) → AreGoodUpdates texts lets (update ∷ updates) → AreGoodUpdates texts lets updates
other_updates texts lets update updates h = record {
  shaped = (or_parts (update_has is_malformed update) _ h.shaped).1;
  bound = (or_parts (update_has (mentions_unbound lets) update) _ h.bound).1;
  said = (or_parts (update_has (has_unsaid_term texts) update) _ h.said).1;
  keyed = (or_parts (not (is_key (updated_key update))) _ h.keyed).1;
}

module _ (texts : Bool) (lets : List Let) (named : has_bad_name lets ≡ false) where
  -- UPDATE table SET v = expression WHERE k = 'key' ;
  set_spelled : (key : Key) (sum : List Part) (rest : List ℕ) → IsGoodUpdate texts (length lets) (Set key sum) →
      UpdateSpelled texts lets (Set key sum) (codes " UPDATE " ++ (key.table ++ (codes " SET v = " ++ (sum_text lets sum ++ (where_text key ++ (codes ";" ++ rest)))))) rest
  unfolding token_at token_of token_len behind after_blanks
  set_spelled key sum rest h =
      let keyed = not-false (is_key key) h.keyed in
      let next = where_text key ++ 59 ∷ rest in
      let chosen = where_spelled key (59 ∷ rest) rest (Mark (codes ";") ∷ []) refl (refl, refl) in
      let value = sum_spelled texts lets named sum next h.shaped h.bound h.said (where_stops key (59 ∷ rest)) in
      let table = name_spelled key.table (codes " SET v = " ++ (sum_text lets sum ++ next)) (32 ∷ sum_text lets sum ++ next)
      (Word (codes "set") ∷ Word (codes "v") ∷ Mark (codes "=") ∷ []) (key_table key keyed) refl (refl, (refl, (refl, refl))) in
      (next, (32 ∷ sum_text lets sum ++ next, (refl, table), value), chosen)

  pub update_spelled : (update : Update) (rest : List ℕ) → IsGoodUpdate texts (length lets) update → UpdateSpelled texts lets update (update_text lets update ++ rest) rest
  unfolding set_text
  update_spelled (Set key sum) rest h =
      subst (λ from. UpdateSpelled texts lets (Set key sum) from rest)
      (sym (behind6 (codes " UPDATE ") key.table (codes " SET v = ") (sum_text lets sum) (where_text key) (codes ";") rest)) (set_spelled key sum rest h)
  update_spelled (Delete key) rest h = delete_spelled key rest (not-false (is_key key) h.keyed)

  pub update_stops : (update : Update) (rest : List ℕ) → stops continues_word (update_text lets update ++ rest) ≡ true
  unfolding set_text delete_text
  update_stops (Set key sum) rest = refl
  update_stops (Delete key) rest = refl

  pub updates_stop : (updates : List Update) (rest : List ℕ) → stops continues_word rest ≡ true → stops continues_word (flat_map (update_text lets) updates ++ rest) ≡ true
  updates_stop [] rest stop = stop
  updates_stop (update ∷ updates) rest stop =
      subst (λ from. stops continues_word from ≡ true) (sym (append_assoc (update_text lets update) (flat_map (update_text lets) updates) rest))
      (update_stops update (flat_map (update_text lets) updates ++ rest))

  -- { update }
  pub updates_spelled : (updates : List Update) (rest : List ℕ) → AreGoodUpdates texts (length lets) updates →
      Each (UpdateSpelled texts lets) updates (flat_map (update_text lets) updates ++ rest) rest
  updates_spelled [] rest h = refl
  updates_spelled (update ∷ updates) rest h =
      let others = flat_map (update_text lets) updates in
      let first = update_spelled update (others ++ rest) (first_update texts (length lets) update updates h) in (
        others ++ rest,
        subst (λ from. UpdateSpelled texts lets update from (others ++ rest)) (sym (append_assoc (update_text lets update) others rest)) first,
        updates_spelled updates rest (other_updates texts (length lets) update updates h),
      )

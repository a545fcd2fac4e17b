-- What is read from a whole text is spelled there, and was checked.
use Rattle.std.proofs.Common.{◌≡◌, ◌≤◌, ◌==◌, ℕ, true, false, List, [], ◌∷◌, ◌++◌, length, codes, None, Ok, refl, sym, ap, ◌∙◌, subst, append_assoc, Bool, not}
use Rattle.std.proofs.lemmas.List.{append-nil}
use Rattle.acc_token.specs.Tokens.{Token, Word, Mark, Number as Digits, Quoted, Strange, End, token_at, behind, says_word}
use Rattle.acc_value.specs.Footprint.{used}
use Rattle.acc_txn.specs.declared.parts.Let.{Let}
use Rattle.acc_txn.specs.declared.parts.BodyParts.{BodyParts}
use Rattle.acc_lang.specs.Faults.{fault_behind_end}
use Rattle.acc_lang.specs.Reading.{step, standing_of, more_lets, select, action, opening, commit_word, commit, finish, closing, behind_lets, reading}
use Rattle.acc_lang.specs.Grammar.{Spells, MaybeSemicolon, Each, LetSpelled, Spelled}
use Rattle.acc_lang.proofs.Steps.{both, taken, word_found, word_token}
use Rattle.acc_lang.proofs.Fits.{IsFitLet, IsFitUpdate, IsFitBody, Uses, after, InTurn, with_let, with_update}
use Rattle.acc_lang.proofs.Found.{ok_same, word_first}
use Rattle.acc_lang.proofs.FoundParts.{lets_found}
use Rattle.acc_lang.proofs.FoundSums.{select_found, passed_behind}
use Rattle.acc_lang.proofs.FoundText.{semicolon_found, action_found}

end_token : (token : Token) → fault_behind_end token ≡ None → token ≡ End
unfolding fault_behind_end
end_token (Word letters) none = cc
end_token (Mark mark) none = cc
end_token (Digits number) none = cc
end_token (Quoted text closed) none = cc
end_token Strange none = cc
end_token End none = refl

pub lets_alone : (so_far lets : List Let) (uses : Uses) → (after with_let (so_far, uses) lets).0 ≡ so_far ++ lets
lets_alone so_far [] uses = sym (append-nil so_far)
lets_alone so_far (l ∷ lets) uses = lets_alone (so_far ++ l ∷ []) lets (used uses l.key false) ∙ append_assoc so_far (l ∷ []) lets

module _ (texts : Bool) where
  -- the end of a text, from COMMIT on
  pub record ClosingFound (uses : Uses) (text : List ℕ) : Type 0 where
    pub some_key : (length uses == 0) ≡ false
    pub place : List ℕ
    pub last : List ℕ
    pub commits : Spells (Word (codes "commit") ∷ Word (codes "transaction") ∷ []) text place
    pub semicolon : MaybeSemicolon place last
    pub ends : token_at last ≡ End

  pub closing_found : (uses : Uses) (text y : List ℕ) → closing texts uses text ≡ Ok y → ClosingFound uses text
  unfolding closing commit commit_word finish
  closing_found uses text y is =
      let p = both (commit texts uses text) _ y is in
      let q = both (step (not texts) (standing_of (says_word (codes "commit") (token_at text)) (length uses == 0) true) text) _ p.0 p.1 in
      let t = taken (not texts) (says_word (codes "commit") (token_at text)) (length uses == 0) true text q.0 q.1 in
      let a = word_first texts (codes "transaction") q.0 _ p.0 q.2 in
      let e = passed_behind (fault_behind_end (token_at p.0)) p.0 y p.2 in
      record {
        some_key = t.room;
        place = behind q.0;
        last = p.0;
        commits = (word_token (codes "commit") (token_at text) t.allows, subst (λ at. Spells (Word (codes "transaction") ∷ []) at (behind q.0)) (sym t.follows) (a.0, refl));
        semicolon = subst (MaybeSemicolon (behind q.0)) (ok_same _ _ a.1) (semicolon_found (behind q.0));
        ends = end_token (token_at p.0) e.0;
      }

  -- what follows the LETs, which were read before
  behind_found : (lets : List Let) (start text text_of_lets : List ℕ) (parts : BodyParts)
      → Spells (Word (codes "begin") ∷ Word (codes "transaction") ∷ []) start text → Each LetSpelled lets text text_of_lets → InTurn with_let IsFitLet ([], []) lets → length lets ≤ 16
      → behind_lets texts (after with_let ([], []) lets).1 lets text_of_lets ≡ Ok parts → Spelled texts start parts × IsFitBody parts
  unfolding behind_lets
  behind_found lets start text place parts begins spelled fit few is =
      let uses = (after with_let ([], []) lets).1 in
      let p = both (select texts uses lets place) _ parts is in
      let s = select_found texts uses lets place p.0 p.1 in
      let q = both (action texts p.0.0.1 lets p.0.1) _ parts p.2 in
      let a = action_found texts p.0.0.1 lets p.0.1 q.0 q.1 in
      let r = both (closing texts q.0.0.1 q.0.1) _ parts q.2 in
      let c = closing_found q.0.0.1 q.0.1 r.0 r.1 in
      let found : BodyParts = record { lets = lets; select = p.0.0.0; guards = q.0.0.0.0; updates = q.0.0.0.1 } in
      subst (λ parts. Spelled texts start parts × IsFitBody parts) (ok_same found parts r.2) (
        record {
          lets_place = text;
          select_place = place;
          action_place = p.0.1;
          commit_place = q.0.1;
          end_place = c.place;
          last_place = c.last;
          begins = begins;
          lets = spelled;
          select = s.0;
          action = a.spelled;
          commits = c.commits;
          semicolon = c.semicolon;
          ends = c.ends;
        },
        record {
          few_lets = few;
          lets = fit;
          select = s.1;
          few_guards = a.few_guards;
          guards = a.guards;
          few_updates = a.few_updates;
          updates = subst (λ uses. InTurn with_update IsFitUpdate ([], uses) q.0.0.0.1) s.2 a.updates;
          some_key = subst (λ uses. (length (after with_update ([], uses) q.0.0.0.1).1 == 0) ≡ false) s.2 (subst (λ uses. (length uses == 0) ≡ false) a.uses_are c.some_key);
        },
      )

  pub reading_found : (text : List ℕ) (parts : BodyParts) → reading texts text ≡ Ok parts → Spelled texts text parts × IsFitBody parts
  unfolding reading opening
  reading_found text parts is =
      let p = both (opening texts text) _ parts is in
      let a = word_first texts (codes "begin") text _ p.0 p.1 in
      let b = word_found texts (codes "transaction") (behind text) p.0 a.1 in
      let q = both (more_lets texts 16 ([], []) p.0) _ parts p.2 in
      let l = lets_found texts p.0 q.0 q.1 in
      let lets : q.0.0.0 ≡ l.0 = ap (λ s. s.0) l.1 ∙ lets_alone [] l.0 [] in
      let uses : q.0.0.1 ≡ (after with_let ([], []) l.0).1 = ap (λ s. s.1) l.1 in
      let rest : behind_lets texts (after with_let ([], []) l.0).1 l.0 q.0.1 ≡ Ok parts = (λ i. behind_lets texts (sym uses i) (sym lets i) q.0.1) ∙ q.2 in
      behind_found l.0 text p.0 q.0.1 parts (a.0, b) l.2 l.3 l.4 rest

-- What is read is spelled so, and was checked: repetitions, names, LETs, selects and sums.
use Rattle.std.proofs.Common.{◌≡◌, ◌≤◌, ℕ, zero, suc, Bool, true, false, not, cond, List, [], ◌∷◌, ◌++◌, length, codes, Option, Some, None, is_some, unwrap_or, get_or, Result, Ok, refl, sym, ap, ◌∙◌, subst, true≢false, arith}
use Rattle.std.specs.Prelude.{slice_get}
use Rattle.std.specs.Str.{bytes_eq}
use Rattle.std.proofs.lemmas.List.Quantifiers.{position-Some}
use Rattle.std.proofs.lemmas.Option.{slice_get-get_or}
use Rattle.std.proofs.lemmas.Slice.Eq.{bytes_eq-Decides}
use Rattle.acc_token.specs.Tokens.{Token, Word, Mark, token_at, behind, says_word}
use Rattle.acc_txn.specs.declared.parts.Let.{Let}
use Rattle.acc_lang.specs.declared.fault.Fault.{Fault}
use Rattle.acc_lang.specs.Reading.{Reads, ◌>>=◌, step, standing_of, from_key, word_of, is_free, let_of, new_name, binding, one_let, more_lets, bound_name, named, each}
use Rattle.acc_lang.specs.Grammar.{Spells, Each, LetSpelled, NameSpelled}
use Rattle.acc_lang.proofs.Steps.{both, taken, free_token, word_token, join}
use Rattle.acc_lang.proofs.Fits.{IsFreeWord, IsFitLet, Uses, after, InTurn, with_let}
use Rattle.acc_lang.proofs.Found.{ok_same, word_first, mark_first, free_found, from_tokens, from_key_found}

module _ {S X : Type 0} (again : Token → Bool) (one : Bool → S → List ℕ → Reads S) (push : S → X → S)
    (Spelled : X → List ℕ → List ℕ → Type 0) (Fit : S → X → Type 0)
    (found : (so_far : S) (text : List ℕ) (y : S × List ℕ) → one false so_far text ≡ Ok y → (x : X) × (y.0 ≡ push so_far x) × Spelled x text y.1 × Fit so_far x)
    (full : (so_far : S) (text : List ℕ) (y : S × List ℕ) → one true so_far text ≡ Ok y → ⊥) where
  abbrev Repeated : ℕ → S → List ℕ → S × List ℕ → Type 0
  Repeated room so_far text y = (xs : List X) × (y.0 ≡ after push so_far xs) × Each Spelled xs text y.1 × InTurn push Fit so_far xs × (length xs ≤ room)

  none : (room : ℕ) (so_far : S) (text : List ℕ) (y : S × List ℕ) → ◌≡◌ {A = Reads S} (Ok (so_far, text)) (Ok y) → Repeated room so_far text y
  none room so_far text y is =
      let same = ok_same _ _ is in
      ([], sym (ap (λ p. p.0) same), ap (λ p. p.1) same, tt, omega arith)

  first_more : (room : ℕ) (so_far : S) (text : List ℕ) (y : S × List ℕ) (next : S × List ℕ) (x : X) → next.0 ≡ push so_far x → Spelled x text next.1 → Fit so_far x
      → Repeated room next.0 next.1 y → Repeated (suc room) so_far text y
  first_more room so_far text y next x is spelled fit others =
      (x ∷ others.0, others.1 ∙ ap (λ s. after push s others.0) is, (next.1, spelled, others.2), (fit, subst (λ s. InTurn push Fit s others.0) is others.3), omega arith)

  full_found : (so_far : S) (text : List ℕ) (y : S × List ℕ) (begins : Bool)
      → cond begins (one true so_far text) (Ok (so_far, text)) ≡ Ok y → Repeated zero so_far text y
  full_found so_far text y true is = absurd (full so_far text y is)
  full_found so_far text y false is = none zero so_far text y is

  more_found : (room : ℕ) (so_far : S) (text : List ℕ) (y : S × List ℕ) (begins : Bool)
      → ((s : S) (t : List ℕ) → each again one room s t ≡ Ok y → Repeated room s t y)
      → cond begins (one false so_far text >>= (λ x. each again one room x.0 x.1)) (Ok (so_far, text)) ≡ Ok y → Repeated (suc room) so_far text y
  more_found room so_far text y true others is =
      let p = both (one false so_far text) (λ x. each again one room x.0 x.1) y is in
      let f = found so_far text p.0 p.1 in
      first_more room so_far text y p.0 f.0 f.1 f.2 f.3 (others p.0.0 p.0.1 p.2)
  more_found room so_far text y false others is = none (suc room) so_far text y is

  pub each_found : (room : ℕ) (so_far : S) (text : List ℕ) (y : S × List ℕ) → each again one room so_far text ≡ Ok y → Repeated room so_far text y
  unfolding each
  each_found zero so_far text y is = full_found so_far text y (again (token_at text)) is
  each_found (suc room) so_far text y is =
      more_found room so_far text y (again (token_at text)) (λ s t. each_found room s t y) is

-- a name that no LET binds
none_is : {X : Type 0} (o : Option X) → not (is_some o) ≡ true → o ≡ None
none_is (Some x) is = cc
none_is None is = refl

-- a name that a LET binds
pub some_is : {X : Type 0} (o : Option X) → is_some o ≡ true → (x : X) × (o ≡ Some x)
some_is (Some x) is = (x, refl)
some_is None is = cc

-- the LET at the number to which a name leads
pub let_at : (lets : List Let) (name : List ℕ) (number : ℕ) → let_of lets name ≡ Some number → (l : Let) × (slice_get lets number ≡ Some l) × (l.name ≡ name)
let_at [] name number is = cc
let_at (l ∷ lets) name number is =
    let p = position-Some (λ l. bytes_eq name l.name) (l ∷ lets) number l is in
    (get_or (l ∷ lets) number l, slice_get-get_or (l ∷ lets) number l p.0, sym ((bytes_eq-Decides name (get_or (l ∷ lets) number l).name).0 p.1))

-- the tokens of a LET after its first
abbrev pub let_tokens : Let → List Token
let_tokens l =
    Word l.name ∷ Mark (codes "=") ∷ Mark (codes "(") ∷ Word (codes "select") ∷ Word (codes "v")
    ∷ (from_tokens l.key ++ Mark (codes ")") ∷ Mark (codes ";") ∷ [])

module _ (texts : Bool) where
  -- a new name, and what is read after it
  pub new_name_first : {B : Type 0} (lets : List Let) (text : List ℕ) (next : List ℕ × List ℕ → Result B Fault) (y : B) → (new_name texts lets text >>= next) ≡ Ok y
      → (name : List ℕ) × (token_at text ≡ Word name) × IsFreeWord name × (let_of lets name ≡ None) × (next (name, behind text) ≡ Ok y)
  unfolding new_name
  new_name_first lets text next y is =
      let name = word_of (token_at text) in
      let p = both (new_name texts lets text) next y is in
      let q = both (step (not texts) (standing_of (is_free (token_at text)) false (not (is_some (let_of lets name)))) text) _ p.0 p.1 in
      let t = taken (not texts) (is_free (token_at text)) false (not (is_some (let_of lets name))) text q.0 q.1 in
      let f = free_token (token_at text) t.allows in
      let same : (name, behind text) ≡ p.0 = ap (λ rest. (name, rest)) t.follows ∙ ok_same _ _ q.2 in
      (name, f.0, free_found texts text f t.sound, none_is (let_of lets name) t.fits, subst (λ x. next x ≡ Ok y) (sym same) p.2)

  pub binding_found : (uses : Uses) (lets : List Let) (text : List ℕ) (x : Let × List ℕ) → binding texts uses lets text ≡ Ok x
      → Spells (let_tokens x.0) text x.1 × IsFitLet (lets, uses) x.0
  unfolding binding
  binding_found uses lets text x is =
      let p = new_name_first lets text _ x is in
      let a = mark_first texts (codes "=") (behind text) _ x p.4 in
      let b = mark_first texts (codes "(") (behind (behind text)) _ x a.1 in
      let c = word_first texts (codes "select") (behind (behind (behind text))) _ x b.1 in
      let d = word_first texts (codes "v") (behind (behind (behind (behind text)))) _ x c.1 in
      let e = both (from_key texts false uses (behind (behind (behind (behind (behind text)))))) _ x d.1 in
      let k = from_key_found texts false uses (behind (behind (behind (behind (behind text))))) e.0 e.1 in
      let g = mark_first texts (codes ")") e.0.1 _ x e.2 in
      let h = mark_first texts (codes ";") (behind e.0.1) _ x g.1 in
      let l : Let = record { name = p.0; key = e.0.0 } in
      subst (λ (x : Let × List ℕ). Spells (let_tokens x.0) text x.1 × IsFitLet (lets, uses) x.0) (ok_same (l, behind (behind e.0.1)) x h.1) (
        (p.1, (a.0, (b.0, (c.0, (d.0, join (from_tokens e.0.0) (Mark (codes ")") ∷ Mark (codes ";") ∷ []) _ _ _ k.0 (g.0, (h.0, refl))))))),
        record { name = p.2; new = p.3; key = k.1 },
      )

  pub one_let_found : (so_far : List Let × Uses) (text : List ℕ) (y : (List Let × Uses) × List ℕ) → one_let texts false so_far text ≡ Ok y
      → (l : Let) × (y.0 ≡ with_let so_far l) × LetSpelled l text y.1 × IsFitLet so_far l
  unfolding one_let
  one_let_found so_far text y is =
      let p = both (step (not texts) (standing_of (says_word (codes "let") (token_at text)) false true) text) _ y is in
      let t = taken (not texts) (says_word (codes "let") (token_at text)) false true text p.0 p.1 in
      let b = both (binding texts so_far.1 so_far.0 p.0) _ y p.2 in
      let f = binding_found so_far.1 so_far.0 p.0 b.0 b.1 in
      let same = ok_same (with_let so_far b.0.0, b.0.1) y b.2 in
      (b.0.0, ap (λ y. y.0) (sym same), subst (λ place. LetSpelled b.0.0 text place) (ap (λ y. y.1) same) (word_token _ _ t.allows, subst (λ place. Spells (let_tokens b.0.0) place b.0.1) (sym t.follows) f.0), f.1)

  pub one_let_full : (so_far : List Let × Uses) (text : List ℕ) (y : (List Let × Uses) × List ℕ) → one_let texts true so_far text ≡ Ok y → ⊥
  unfolding one_let
  one_let_full so_far text y is =
      let p = both (step (not texts) (standing_of (says_word (codes "let") (token_at text)) true true) text) _ y is in
      let t = taken (not texts) (says_word (codes "let") (token_at text)) true true text p.0 p.1 in
      absurd (true≢false t.room)

  pub lets_found : (text : List ℕ) (y : (List Let × Uses) × List ℕ) → more_lets texts 16 ([], []) text ≡ Ok y
      → (lets : List Let) × (y.0 ≡ after with_let ([], []) lets) × Each LetSpelled lets text y.1 × InTurn with_let IsFitLet ([], []) lets × (length lets ≤ 16)
  unfolding more_lets
  lets_found text y is = each_found (says_word (codes "let")) (one_let texts) with_let LetSpelled IsFitLet one_let_found one_let_full 16 ([], []) text y is

  pub named_found : (extra : Bool) (lets : List Let) (text : List ℕ) (y : ℕ × List ℕ) → named texts extra lets text ≡ Ok y → NameSpelled lets y.0 text y.1 × (extra ≡ false)
  unfolding named bound_name
  named_found extra lets text y is =
      let name = word_of (token_at text) in
      let p = both (bound_name texts extra lets text) _ y is in
      let q = both (step (not texts) (standing_of (is_free (token_at text)) extra (is_some (let_of lets name))) text) _ p.0 p.1 in
      let t = taken (not texts) (is_free (token_at text)) extra (is_some (let_of lets name)) text q.0 q.1 in
      let f = free_token (token_at text) t.allows in
      let n = some_is (let_of lets name) t.fits in
      let same : (unwrap_or (let_of lets name) 0, behind text) ≡ p.0 = ap (λ rest. (unwrap_or (let_of lets name) 0, rest)) t.follows ∙ ok_same _ _ q.2 in
      let number : n.0 ≡ p.0.0 = sym (ap (λ o. unwrap_or o 0) n.1) ∙ ap (λ x. x.0) same in
      let l = let_at lets name n.0 n.1 in
      let a = mark_first texts (codes ".") p.0.1 _ y p.2 in
      let b = word_first texts (codes "v") (behind p.0.1) _ y a.1 in
      let place : behind text ≡ p.0.1 = ap (λ x. x.1) same in
      let spelled : Spells (Word l.0.name ∷ Mark (codes ".") ∷ Word (codes "v") ∷ []) text (behind (behind p.0.1)) =
      (f.0 ∙ ap Word (sym l.2), subst (λ at. Spells (Mark (codes ".") ∷ Word (codes "v") ∷ []) at (behind (behind p.0.1))) (sym place) (a.0, (b.0, refl))) in (
        subst (λ (y : ℕ × List ℕ). NameSpelled lets y.0 text y.1) (ok_same (p.0.0, behind (behind p.0.1)) y b.1)
            (l.0, subst (λ number. slice_get lets number ≡ Some l.0) number l.1, spelled),
        t.room,
      )

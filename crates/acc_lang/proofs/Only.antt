-- What is spelled and fits is read: tokens, keys, LETs, names and the select.
use Rattle.std.proofs.Common.{◌≡◌, ◌≤◌, ℕ, zero, suc, Bool, true, false, not, ◌&&◌, List, [], ◌∷◌, ◌++◌, length, codes, Some, None, is_some, Result, Ok, refl, sym, ap, ◌∙◌, subst, arith}
use Rattle.acc_token.specs.Tokens.{Token, Word, Mark, Quoted, token_at, behind, says_word, says_mark}
use Rattle.acc_value.specs.declared.key.Key.{Key}
use Rattle.acc_value.specs.Footprint.{used}
use Rattle.acc_txn.specs.declared.parts.Let.{Let}
use Rattle.acc_txn.specs.declared.parts.Select.{Select}
use Rattle.acc_txn.specs.declared.parts.Select.TheVariants.{Nothing, Names, Get}
use Rattle.acc_lang.specs.declared.fault.Fault.{Fault}
use Rattle.acc_lang.specs.Reading.{Reads, ◌>>=◌, step, standing_of, take_word, take_mark, table, key_text, where_key, from_key, word_of, is_free, let_of, new_name, binding, one_let, more_lets, bound_name, named, one_item, more_items, items, begins_get, get, selected, select, each}
use Rattle.acc_lang.specs.Grammar.{Spells, Each, Behind, LetSpelled, NameSpelled, SelectSpelled}
use Rattle.acc_lang.proofs.Steps.{word_only, mark_only, takes_word, takes_quoted, says_word_same}
use Rattle.acc_lang.proofs.Fits.{IsFreeWord, IsFitKey, IsFitLet, IsFitSelect, AreNamed, Uses, uses_after_select, after, InTurn, with_let, at_end, after_at_end}
use Rattle.acc_lang.proofs.Found.{where_tokens, from_tokens}
use Rattle.acc_lang.proofs.FoundSums.{Any}
use Rattle.acc_lang.proofs.Repeating.{stops, goes_on}

-- a step that ends well, and what is read after it
pub then_ok : {A B : Type 0} (read : Result A Fault) (next : A → Result B Fault) (x : A) (y : Result B Fault) → read ≡ Ok x → next x ≡ y → (read >>= next) ≡ y
then_ok read next x y is rest = ap (λ r. r >>= next) is ∙ rest

module _ {S X : Type 0} (again : Token → Bool) (one : Bool → S → List ℕ → Reads S) (push : S → X → S)
    (Spelled : X → List ℕ → List ℕ → Type 0) (Fit : S → X → Type 0)
    (only : (so_far : S) (x : X) (text rest : List ℕ) → Spelled x text rest → Fit so_far x
    → (again (token_at text) ≡ true) × (one false so_far text ≡ Ok (push so_far x, rest))) where
  pub each_only : (xs : List X) (room : ℕ) (so_far : S) (text rest : List ℕ) → Each Spelled xs text rest → InTurn push Fit so_far xs → length xs ≤ room
      → again (token_at rest) ≡ false → each again one room so_far text ≡ Ok (after push so_far xs, rest)
  each_only [] room so_far text rest spelled fit few ends =
      ap (λ place. each again one room so_far place) spelled ∙ stops again one room so_far rest ends
  each_only (x ∷ xs) zero so_far text rest spelled fit few ends = absurd (omega arith)
  each_only (x ∷ xs) (suc room) so_far text rest spelled fit few ends =
      let o = only so_far x text spelled.0 spelled.1 fit.0 in
      goes_on again one room so_far text (push so_far x, spelled.0) o.0 o.1
      ∙ each_only xs room (push so_far x) spelled.0 rest spelled.2 fit.1 (omega arith) ends

-- the front of a list of tokens
pub front_of : (first second : List Token) (a c : List ℕ) → Spells (first ++ second) a c → (b : List ℕ) × Spells first a b × Spells second b c
front_of [] second a c spelled = (a, refl, spelled)
front_of (token ∷ first) second a c spelled = let f = front_of first second (behind a) c spelled.1 in (f.0, (spelled.0, f.1), f.2)

pub never_checked : {S X : Type 0} (push : S → X → S) (so_far : S) (xs : List X) → InTurn push Any so_far xs
never_checked push so_far [] = tt
never_checked push so_far (x ∷ xs) = (tt, never_checked push (push so_far x) xs)

neither : (b : Bool) → (b && false) ≡ false
neither true = refl
neither false = refl

module _ (texts : Bool) where
  pub table_only : (name text : List ℕ) → token_at text ≡ Word name → IsFreeWord name → table texts text ≡ Ok (name, behind text)
  unfolding table
  table_only name text is free =
      let allowed : is_free (token_at text) ≡ true = rw is (rw free.free refl) in
      rw allowed (rw (takes_word (not texts) name text is free.short) (ap (λ token. Ok (word_of token, behind text)) is))

  pub key_text_only : (writes : Bool) (uses : Uses) (key : Key) (text : List ℕ) → token_at text ≡ Quoted key.key true → IsFitKey writes uses key
      → key_text texts writes uses key.table text ≡ Ok (key, behind text)
  unfolding key_text
  key_text_only writes uses key text is fit =
      rw is (rw fit.room (rw (takes_quoted true key.key text is fit.form) refl))

  pub where_key_only : (writes : Bool) (uses : Uses) (key : Key) (text rest : List ℕ) → Spells (where_tokens key) text rest → IsFitKey writes uses key
      → where_key texts writes uses key.table text ≡ Ok (key, rest)
  unfolding where_key
  where_key_only writes uses key text rest spelled fit =
      then_ok (take_word texts (codes "where") text) _ (behind text) _ (word_only texts (codes "where") text spelled.0 refl)
      (then_ok (take_word texts (codes "k") (behind text)) _ (behind (behind text)) _ (word_only texts (codes "k") (behind text) spelled.1.0 refl)
      (then_ok (take_mark texts (codes "=") (behind (behind text))) _ (behind (behind (behind text))) _ (mark_only texts (codes "=") (behind (behind text)) spelled.1.1.0)
      (key_text_only writes uses key (behind (behind (behind text))) spelled.1.1.1.0 fit ∙ ap (λ place. Ok (key, place)) spelled.1.1.1.1)))

  pub from_key_only : (writes : Bool) (uses : Uses) (key : Key) (text rest : List ℕ) → Spells (from_tokens key) text rest → IsFitKey writes uses key
      → from_key texts writes uses text ≡ Ok (key, rest)
  unfolding from_key
  from_key_only writes uses key text rest spelled fit =
      then_ok (take_word texts (codes "from") text) _ (behind text) _ (word_only texts (codes "from") text spelled.0 refl)
      (then_ok (table texts (behind text)) _ (key.table, behind (behind text)) _ (table_only key.table (behind text) spelled.1.0 fit.table)
      (where_key_only writes uses key (behind (behind text)) rest spelled.1.1 fit))

  pub new_name_only : (lets : List Let) (name text : List ℕ) → token_at text ≡ Word name → IsFreeWord name → let_of lets name ≡ None
      → new_name texts lets text ≡ Ok (name, behind text)
  unfolding new_name
  new_name_only lets name text is free new =
      let allowed : is_free (token_at text) ≡ true = rw is (rw free.free refl) in
      let suits : not (is_some (let_of lets (word_of (token_at text)))) ≡ true = rw is (rw new refl) in
      rw allowed (rw suits (rw (takes_word (not texts) name text is free.short) (ap (λ token. Ok (word_of token, behind text)) is)))

  pub one_let_only : (so_far : List Let × Uses) (l : Let) (text rest : List ℕ) → LetSpelled l text rest → IsFitLet so_far l
      → (says_word (codes "let") (token_at text) ≡ true) × (one_let texts false so_far text ≡ Ok (with_let so_far l, rest))
  unfolding one_let binding
  one_let_only so_far l text rest spelled fit =
      let is : says_word (codes "let") (token_at text) ≡ true = says_word_same (codes "let") (token_at text) spelled.0 in
      let start = behind (behind (behind (behind (behind (behind text))))) in
      let f = front_of (from_tokens l.key) (Mark (codes ")") ∷ Mark (codes ";") ∷ []) start rest spelled.1.1.1.1.1.1 in
      let a = behind text in
      let b = behind a in
      let c = behind b in
      let d = behind c in
      let e = behind d in (
        is,
        then_ok (step (not texts) (standing_of (says_word (codes "let") (token_at text)) false true) text) _ a _ (rw is (takes_word (not texts) (codes "let") text spelled.0 refl))
            (then_ok (binding texts so_far.1 so_far.0 a) _ (l, rest) _
            (then_ok (new_name texts so_far.0 a) _ (l.name, b) _ (new_name_only so_far.0 l.name a spelled.1.0 fit.name fit.new)
            (then_ok (take_mark texts (codes "=") b) _ c _ (mark_only texts (codes "=") b spelled.1.1.0)
            (then_ok (take_mark texts (codes "(") c) _ d _ (mark_only texts (codes "(") c spelled.1.1.1.0)
            (then_ok (take_word texts (codes "select") d) _ e _ (word_only texts (codes "select") d spelled.1.1.1.1.0 refl)
            (then_ok (take_word texts (codes "v") e) _ start _ (word_only texts (codes "v") e spelled.1.1.1.1.1.0 refl)
            (then_ok (from_key texts false so_far.1 start) _ (l.key, f.0) _ (from_key_only false so_far.1 l.key start f.0 f.1 fit.key)
            (then_ok (take_mark texts (codes ")") f.0) _ (behind f.0) _ (mark_only texts (codes ")") f.0 f.2.0)
            (then_ok (take_mark texts (codes ";") (behind f.0)) _ (behind (behind f.0)) _ (mark_only texts (codes ";") (behind f.0) f.2.1.0)
            (ap (λ place. Ok (l, place)) f.2.1.1)))))))))
            refl),
      )

  pub lets_only : (lets : List Let) (text rest : List ℕ) → Each LetSpelled lets text rest → InTurn with_let IsFitLet ([], []) lets → length lets ≤ 16
      → says_word (codes "let") (token_at rest) ≡ false → more_lets texts 16 ([], []) text ≡ Ok (after with_let ([], []) lets, rest)
  unfolding more_lets
  lets_only lets text rest spelled fit few ends =
      each_only (says_word (codes "let")) (one_let texts) with_let LetSpelled IsFitLet one_let_only lets 16 ([], []) text rest spelled fit few ends

  -- names that are bound
  pub named_only : (lets : List Let) (number : ℕ) (text rest : List ℕ) → AreNamed lets → NameSpelled lets number text rest → named texts false lets text ≡ Ok (number, rest)
  unfolding named bound_name
  named_only lets number text rest names spelled =
      let l = spelled.0 in
      let free = names.free number l spelled.1 in
      let leads = names.leads number l spelled.1 in
      let is = spelled.2.0 in
      let allowed : is_free (token_at text) ≡ true = rw is (rw free.free refl) in
      let found : let_of lets (word_of (token_at text)) ≡ Some number = ap (λ token. let_of lets (word_of token)) is ∙ leads in
      then_ok (bound_name texts false lets text) _ (number, behind text) _
      (rw found (rw allowed (rw (takes_word (not texts) l.name text is free.short) refl)))
      (then_ok (take_mark texts (codes ".") (behind text)) _ (behind (behind text)) _ (mark_only texts (codes ".") (behind text) spelled.2.1.0)
      (then_ok (take_word texts (codes "v") (behind (behind text))) _ (behind (behind (behind text))) _ (word_only texts (codes "v") (behind (behind text)) spelled.2.1.1.0 refl)
      (ap (λ place. Ok (number, place)) spelled.2.1.1.1)))

  pub item_only : (lets : List Let) → AreNamed lets → (so_far : List ℕ) (name : ℕ) (text rest : List ℕ) → Behind (Mark (codes ",") ∷ []) (NameSpelled lets) name text rest → Any so_far name
      → (says_mark (codes ",") (token_at text) ≡ true) × (one_item texts lets false so_far text ≡ Ok (at_end so_far name, rest))
  unfolding one_item
  item_only lets names so_far name text rest spelled fit = (
    ap (says_mark (codes ",")) spelled.1.0,
    then_ok (take_mark texts (codes ",") text) _ (behind text) _ (mark_only texts (codes ",") text spelled.1.0)
        (then_ok (named texts false lets (behind text)) _ (name, rest) _
        (ap (named texts false lets) spelled.1.1 ∙ named_only lets name spelled.0 rest names spelled.2)
        refl),
  )

  pub items_only : (lets : List Let) (name : ℕ) (names : List ℕ) (text a b rest : List ℕ) → AreNamed lets → NameSpelled lets name text a
      → Each (Behind (Mark (codes ",") ∷ []) (NameSpelled lets)) names a b → Spells (Mark (codes ";") ∷ []) b rest → length names ≤ 15
      → items texts lets text ≡ Ok (name ∷ names, rest)
  unfolding items more_items
  items_only lets name names text a b rest named_lets first others ends few =
      then_ok (named texts false lets text) _ (name, a) _ (named_only lets name text a named_lets first)
      (then_ok (more_items texts lets 15 (name ∷ []) a) _ (name ∷ names, b) _
      (each_only (says_mark (codes ",")) (one_item texts lets) at_end (Behind (Mark (codes ",") ∷ []) (NameSpelled lets)) Any (item_only lets named_lets) names 15 (name ∷ []) a b others
      (never_checked at_end (name ∷ []) names) few (ap (says_mark (codes ",")) ends.0)
      ∙ ap (λ all. Ok (all, b)) (after_at_end (name ∷ []) names))
      (then_ok (take_mark texts (codes ";") b) _ (behind b) _ (mark_only texts (codes ";") b ends.0)
      (ap (λ place. Ok (name ∷ names, place)) ends.1)))

  pub select_only : (uses : Uses) (lets : List Let) (s : Select) (text rest : List ℕ) → AreNamed lets → SelectSpelled lets s text rest → IsFitSelect uses s
      → says_word (codes "select") (token_at rest) ≡ false → select texts uses lets text ≡ Ok ((s, uses_after_select uses s), rest)
  unfolding select selected get
  select_only uses lets Nothing text rest names spelled fit ends =
      let other : says_word (codes "select") (token_at text) ≡ false = ap (λ place. says_word (codes "select") (token_at place)) spelled ∙ ends in
      rw other (ap (λ place. Ok ((Nothing, uses), place)) spelled)
  select_only uses lets (Names []) text rest names spelled fit ends = absurd spelled
  select_only uses lets (Names (name ∷ others)) text rest names spelled fit ends =
      let s = spelled.2 in
      let here : says_word (codes "select") (token_at text) ≡ true = ap (says_word (codes "select")) s.1.0 in
      let first : NameSpelled lets name (behind text) spelled.0 = subst (λ place. NameSpelled lets name place spelled.0) (sym s.1.1) s.2 in
      let other : begins_get (behind text) ≡ false =
      ap (λ token. says_word (codes "v") (token_at (behind text)) && says_word (codes "from") token) first.2.1.0 ∙ neither (says_word (codes "v") (token_at (behind text))) in
      rw here (rw other
      (then_ok (items texts lets (behind text)) _ (name ∷ others, rest) _
      (items_only lets name others (behind text) spelled.0 spelled.1 rest names first spelled.3 spelled.4 (omega arith))
      refl))
  select_only uses lets (Get key) text rest names spelled fit ends =
      let here : says_word (codes "select") (token_at text) ≡ true = ap (says_word (codes "select")) spelled.0 in
      let both : begins_get (behind text) ≡ true = rw spelled.1.0 (rw spelled.1.1.0 refl) in
      let f = front_of (from_tokens key) (Mark (codes ";") ∷ []) (behind (behind text)) rest spelled.1.1 in
      rw here (rw both
      (then_ok (take_word texts (codes "v") (behind text)) _ (behind (behind text)) _ (word_only texts (codes "v") (behind text) spelled.1.0 refl)
      (then_ok (from_key texts false uses (behind (behind text))) _ (key, f.0) _ (from_key_only false uses key (behind (behind text)) f.0 f.1 fit)
      (then_ok (take_mark texts (codes ";") f.0) _ (behind f.0) _ (mark_only texts (codes ";") f.0 f.2.0)
      (ap (λ place. Ok ((Get key, used uses key false), place)) f.2.1)))))

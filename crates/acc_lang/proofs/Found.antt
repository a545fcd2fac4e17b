-- What is read is spelled so, and was checked: tokens and keys.
use Rattle.std.proofs.Common.{◌≡◌, ℕ, Bool, true, false, List, [], ◌∷◌, codes, Result, Ok, refl, sym, ap, ◌∙◌, subst, not}
use Rattle.acc_token.specs.Tokens.{Token, Word, Mark, Quoted, token_at, behind}
use Rattle.acc_value.specs.declared.key.Key.{Key}
use Rattle.acc_value.specs.Footprint.{used}
use Rattle.acc_txn.specs.Words.{is_reserved}
use Rattle.acc_lang.specs.declared.fault.Fault.{Fault}
use Rattle.acc_lang.specs.Faults.{is_long}
use Rattle.acc_lang.specs.Reading.{◌>>=◌, step, standing_of, take_word, take_mark, table, key_text, where_key, from_key, key_of, are_many, word_of, text_of, is_free, is_quoted}
use Rattle.acc_lang.specs.Grammar.{Spells}
use Rattle.acc_lang.proofs.Steps.{IsSound, both, taken, word_found, mark_found, free_token, quoted_token}
use Rattle.acc_lang.proofs.Fits.{IsFreeWord, IsFitKey}

pub ok_same : {X : Type 0} (x y : X) → ◌≡◌ {A = Result X Fault} (Ok x) (Ok y) → x ≡ y
ok_same x y is = cc

abbrev pub where_tokens : Key → List Token
where_tokens key = Word (codes "where") ∷ Word (codes "k") ∷ Mark (codes "=") ∷ Quoted key.key true ∷ []

abbrev pub from_tokens : Key → List Token
from_tokens key = Word (codes "from") ∷ Word key.table ∷ where_tokens key

module _ (texts : Bool) where
  -- a word or a mark, and what is read after it
  pub word_first : {B : Type 0} (word text : List ℕ) (next : List ℕ → Result B Fault) (y : B) → (take_word texts word text >>= next) ≡ Ok y
      → (token_at text ≡ Word word) × (next (behind text) ≡ Ok y)
  word_first word text next y is =
      let p = both (take_word texts word text) next y is in
      let w = word_found texts word text p.0 p.1 in
      (w.0, subst (λ place. next place ≡ Ok y) (sym w.1) p.2)

  pub mark_first : {B : Type 0} (mark text : List ℕ) (next : List ℕ → Result B Fault) (y : B) → (take_mark texts mark text >>= next) ≡ Ok y
      → (token_at text ≡ Mark mark) × (next (behind text) ≡ Ok y)
  mark_first mark text next y is =
      let p = both (take_mark texts mark text) next y is in
      let m = mark_found texts mark text p.0 p.1 in
      (m.0, subst (λ place. next place ≡ Ok y) (sym m.1) p.2)

  pub free_found : (text : List ℕ) → (token_at text ≡ Word (word_of (token_at text))) × (is_reserved (word_of (token_at text)) ≡ false) → IsSound (not texts) (token_at text)
      → IsFreeWord (word_of (token_at text))
  free_found text free sound = record { free = free.1; short = ap is_long (sym free.0) ∙ sound.short }

  -- a table, and what is read after it
  pub table_first : {B : Type 0} (text : List ℕ) (next : List ℕ × List ℕ → Result B Fault) (y : B) → (table texts text >>= next) ≡ Ok y
      → (name : List ℕ) × (token_at text ≡ Word name) × IsFreeWord name × (next (name, behind text) ≡ Ok y)
  unfolding table
  table_first text next y is =
      let p = both (table texts text) next y is in
      let q = both (step (not texts) (standing_of (is_free (token_at text)) false true) text) _ p.0 p.1 in
      let t = taken (not texts) (is_free (token_at text)) false true text q.0 q.1 in
      let f = free_token (token_at text) t.allows in
      let same : (word_of (token_at text), behind text) ≡ p.0 = ap (λ rest. (word_of (token_at text), rest)) t.follows ∙ ok_same _ _ q.2 in
      (word_of (token_at text), f.0, free_found text f t.sound, subst (λ x. next x ≡ Ok y) (sym same) p.2)

  pub key_text_found : (writes : Bool) (uses : List (Key × Bool)) (name text : List ℕ) (x : Key × List ℕ) → IsFreeWord name → key_text texts writes uses name text ≡ Ok x
      → (x.0.table ≡ name) × Spells (Quoted x.0.key true ∷ []) text x.1 × IsFitKey writes uses x.0
  unfolding key_text
  key_text_found writes uses name text x free is =
      let key = key_of name (text_of (token_at text)) in
      let p = both (step true (standing_of (is_quoted (token_at text)) (are_many (used uses key writes)) true) text) _ x is in
      let t = taken true (is_quoted (token_at text)) (are_many (used uses key writes)) true text p.0 p.1 in
      let q = quoted_token true (token_at text) t.allows t.sound.whole in
      subst (λ x. (x.0.table ≡ name) × Spells (Quoted x.0.key true ∷ []) text x.1 × IsFitKey writes uses x.0) (ok_same _ _ p.2)
      (refl, (q.0, t.follows), record { table = free; form = q.1; room = t.room })

  pub where_key_found : (writes : Bool) (uses : List (Key × Bool)) (name text : List ℕ) (x : Key × List ℕ) → IsFreeWord name → where_key texts writes uses name text ≡ Ok x
      → (x.0.table ≡ name) × Spells (where_tokens x.0) text x.1 × IsFitKey writes uses x.0
  unfolding where_key
  where_key_found writes uses name text x free is =
      let a = word_first (codes "where") text _ x is in
      let b = word_first (codes "k") (behind text) _ x a.1 in
      let c = mark_first (codes "=") (behind (behind text)) _ x b.1 in
      let d = key_text_found writes uses name (behind (behind (behind text))) x free c.1 in
      (d.0, (a.0, (b.0, (c.0, d.1))), d.2)

  pub from_key_found : (writes : Bool) (uses : List (Key × Bool)) (text : List ℕ) (x : Key × List ℕ) → from_key texts writes uses text ≡ Ok x
      → Spells (from_tokens x.0) text x.1 × IsFitKey writes uses x.0
  unfolding from_key
  from_key_found writes uses text x is =
      let a = word_first (codes "from") text _ x is in
      let b = table_first (behind text) _ x a.1 in
      let k = where_key_found writes uses b.0 (behind (behind text)) x b.2 b.3 in
      ((a.0, (b.1 ∙ ap Word (sym k.0), k.1)), k.2)

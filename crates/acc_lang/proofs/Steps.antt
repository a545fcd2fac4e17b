-- One token, taken or not: what was taken, and what can be.
use Rattle.std.proofs.Common.{◌≡◌, ◌≤◌, ℕ, Bool, true, false, not, ◌&&◌, cond, List, [], ◌∷◌, ◌++◌, length, nat_lt, Option, Some, None, Result, Ok, Err, refl, sym, ap, subst, arith}
use Rattle.std.proofs.lemmas.Slice.Eq.{bytes_eq-Decides}
use Rattle.acc_token.specs.Tokens.{Token, Word, Mark, Number, Quoted, Strange, End, token_at, behind, says_word, says_mark}
use Rattle.acc_txn.specs.Words.{is_reserved}
use Rattle.acc_lang.specs.declared.fault.Fault.{Fault}
use Rattle.acc_lang.specs.declared.fault.Standing.{Standing}
use Rattle.acc_lang.specs.declared.fault.Standing.TheVariants.{Misplaced, Fits, Unfit, Extra}
use Rattle.acc_lang.specs.Faults.{fault_of, has_form, is_long, is_broken, is_large, greatest_fault}
use Rattle.acc_lang.specs.Reading.{◌>>=◌, passed, standing_of, step, take_word, take_mark, is_free, is_quoted, is_number, word_of, text_of, number_of}
use Rattle.acc_lang.specs.Grammar.{Spells}
use Rattle.acc_lang.proofs.Taking.{misplaced}

-- two steps that end well
pub both : {A B : Type 0} (read : Result A Fault) (next : A → Result B Fault) (y : B) → (read >>= next) ≡ Ok y → (x : A) × (read ≡ Ok x) × (next x ≡ Ok y)
both (Ok x) next y is = (x, refl, is)
both (Err fault) next y is = cc

links : {K : Type 0} (a b c : Bool) (x y z : K) → cond a (Some x) (cond b (Some y) (cond c (Some z) None)) ≡ None
    → (a ≡ false) × (b ≡ false) × (c ≡ false)
links true b c x y z none = cc
links false true c x y z none = cc
links false false true x y z none = cc
links false false false x y z none = (refl, refl, refl)

passed_found : (found : Option _) (text rest : List ℕ) → passed found text ≡ Ok rest → (found ≡ None) × (behind text ≡ rest)
passed_found None text rest is = (refl, cc)
passed_found (Some kind) text rest is = cc

pub fits_parts : (allowed extra suits : Bool) → standing_of allowed extra suits ≡ Fits → (allowed ≡ true) × (extra ≡ false) × (suits ≡ true)
unfolding standing_of
fits_parts true true suits is = cc
fits_parts true false true is = (refl, refl, refl)
fits_parts true false false is = cc
fits_parts false extra suits is = cc

not_false : (b : Bool) → not b ≡ false → b ≡ true
not_false true is = refl
not_false false is = cc

-- the flag tells whether a quoted text is measured as that of a key
module _ (as_key : Bool) where
  -- a token that is allowed and has no fault of its own
  pub record IsSound (token : Token) : Type 0 where
    pub short : is_long token ≡ false
    pub whole : is_broken as_key token ≡ false
    pub small : is_large token ≡ false

  sound_token : (token : Token) → greatest_fault as_key Fits token ≡ None → IsSound token
  sound_token token none = let p = links (is_long token) (is_broken as_key token) (is_large token) _ _ _ none in record { short = p.0; whole = p.1; small = p.2 }

  pub fits_sound : (token : Token) → fault_of as_key Fits token ≡ None → IsSound token
  unfolding fault_of
  fits_sound (Word letters) none = sound_token (Word letters) none
  fits_sound (Mark mark) none = sound_token (Mark mark) none
  fits_sound (Number number) none = sound_token (Number number) none
  fits_sound (Quoted text closed) none = sound_token (Quoted text closed) none
  fits_sound Strange none = cc
  fits_sound End none = cc

  never : {A : Type 0} (standing : Standing) (token : Token) → greatest_fault as_key standing token ≡ None → (standing ≡ Fits → A) → A
  never Misplaced token none fits = misplaced as_key token none
  never Fits token none fits = fits refl
  never Unfit token none fits = cc
  never Extra token none fits = cc

  only_fits : (standing : Standing) (token : Token) → fault_of as_key standing token ≡ None → standing ≡ Fits
  unfolding fault_of
  only_fits standing (Word letters) none = never standing (Word letters) none (λ e. e)
  only_fits standing (Mark mark) none = never standing (Mark mark) none (λ e. e)
  only_fits standing (Number number) none = never standing (Number number) none (λ e. e)
  only_fits standing (Quoted text closed) none = never standing (Quoted text closed) none (λ e. e)
  only_fits standing Strange none = cc
  only_fits standing End none = cc

  -- what a step that ends well says of its token
  pub record Taken (allowed extra suits : Bool) (text rest : List ℕ) : Type 0 where
    pub allows : allowed ≡ true
    pub room : extra ≡ false
    pub fits : suits ≡ true
    pub sound : IsSound (token_at text)
    pub follows : behind text ≡ rest

  pub taken : (allowed extra suits : Bool) (text rest : List ℕ) → step as_key (standing_of allowed extra suits) text ≡ Ok rest → Taken allowed extra suits text rest
  unfolding step
  taken allowed extra suits text rest is =
      let p = passed_found (fault_of as_key (standing_of allowed extra suits) (token_at text)) text rest is in
      let e = only_fits (standing_of allowed extra suits) (token_at text) p.0 in
      let q = fits_parts allowed extra suits e in
      record {
        allows = q.0;
        room = q.1;
        fits = q.2;
        sound = fits_sound (token_at text) (subst (λ s. fault_of as_key s (token_at text) ≡ None) e p.0);
        follows = p.1;
      }

  -- a token without a fault of its own can be taken where it is allowed
  pub sound_fits : (token : Token) → is_long token ≡ false → is_broken as_key token ≡ false → is_large token ≡ false → fault_of as_key (standing_of true false true) token ≡ fault_of as_key Fits token
  unfolding standing_of
  sound_fits token short whole small = refl

  pub takes_word : (word : List ℕ) (text : List ℕ) → token_at text ≡ Word word → nat_lt 32 (length word) ≡ false
      → step as_key (standing_of true false true) text ≡ Ok (behind text)
  unfolding step standing_of fault_of
  takes_word word text is short = rw is (rw short refl)

  pub takes_mark : (mark : List ℕ) (text : List ℕ) → token_at text ≡ Mark mark → step as_key (standing_of true false true) text ≡ Ok (behind text)
  unfolding step standing_of fault_of
  takes_mark mark text is = rw is refl

  pub takes_number : (number : ℕ) (text : List ℕ) → token_at text ≡ Number (Some number) → nat_lt 9223372036854775807 number ≡ false
      → step as_key (standing_of true false true) text ≡ Ok (behind text)
  unfolding step standing_of fault_of
  takes_number number text is small = rw is (rw small refl)

  pub takes_quoted : (content : List ℕ) (text : List ℕ) → token_at text ≡ Quoted content true → has_form as_key content ≡ true
      → step as_key (standing_of true false true) text ≡ Ok (behind text)
  unfolding step standing_of fault_of
  takes_quoted content text is form = rw is (rw form refl)

  quoted_parts : (text : List ℕ) (closed : Bool) → not (closed && has_form as_key text) ≡ false → (Quoted text closed ≡ Quoted text true) × (has_form as_key text ≡ true)
  quoted_parts text true whole = (refl, not_false (has_form as_key text) whole)
  quoted_parts text false whole = cc

  pub quoted_token : (token : Token) → is_quoted token ≡ true → is_broken as_key token ≡ false → (token ≡ Quoted (text_of token) true) × (has_form as_key (text_of token) ≡ true)
  quoted_token (Word letters) is whole = cc
  quoted_token (Mark mark) is whole = cc
  quoted_token (Number number) is whole = cc
  quoted_token (Quoted text closed) is whole = quoted_parts text closed whole
  quoted_token Strange is whole = cc
  quoted_token End is whole = cc

pub word_token : (word : List ℕ) (token : Token) → says_word word token ≡ true → token ≡ Word word
word_token word (Word letters) is = ap Word ((bytes_eq-Decides letters word).0 is)
word_token word (Mark mark) is = cc
word_token word (Number number) is = cc
word_token word (Quoted text closed) is = cc
word_token word Strange is = cc
word_token word End is = cc

pub mark_token : (mark : List ℕ) (token : Token) → says_mark mark token ≡ true → token ≡ Mark mark
mark_token mark (Word letters) is = cc
mark_token mark (Mark bytes) is = ap Mark ((bytes_eq-Decides bytes mark).0 is)
mark_token mark (Number number) is = cc
mark_token mark (Quoted text closed) is = cc
mark_token mark Strange is = cc
mark_token mark End is = cc

pub says_word_same : (word : List ℕ) (token : Token) → token ≡ Word word → says_word word token ≡ true
says_word_same word token is = rw is ((bytes_eq-Decides word word).1 refl)

pub says_mark_same : (mark : List ℕ) (token : Token) → token ≡ Mark mark → says_mark mark token ≡ true
says_mark_same mark token is = rw is ((bytes_eq-Decides mark mark).1 refl)

module _ (texts : Bool) where
  -- a word or a mark that was taken stands there
  pub word_found : (word text rest : List ℕ) → take_word texts word text ≡ Ok rest → (token_at text ≡ Word word) × (behind text ≡ rest)
  unfolding take_word
  word_found word text rest is =
      let t = taken (not texts) (says_word word (token_at text)) false true text rest is in
      (word_token word (token_at text) t.allows, t.follows)

  pub mark_found : (mark text rest : List ℕ) → take_mark texts mark text ≡ Ok rest → (token_at text ≡ Mark mark) × (behind text ≡ rest)
  unfolding take_mark
  mark_found mark text rest is =
      let t = taken (not texts) (says_mark mark (token_at text)) false true text rest is in
      (mark_token mark (token_at text) t.allows, t.follows)

  -- and one that stands there is taken
  pub word_only : (word text : List ℕ) → token_at text ≡ Word word → nat_lt 32 (length word) ≡ false → take_word texts word text ≡ Ok (behind text)
  unfolding take_word
  word_only word text is short = rw (says_word_same word (token_at text) is) (takes_word (not texts) word text is short)

  pub mark_only : (mark text : List ℕ) → token_at text ≡ Mark mark → take_mark texts mark text ≡ Ok (behind text)
  unfolding take_mark
  mark_only mark text is = rw (says_mark_same mark (token_at text) is) (takes_mark (not texts) mark text is)

not_true : (b : Bool) → not b ≡ true → b ≡ false
not_true true is = cc
not_true false is = refl

pub free_token : (token : Token) → is_free token ≡ true → (token ≡ Word (word_of token)) × (is_reserved (word_of token) ≡ false)
free_token (Word letters) is = (refl, not_true (is_reserved letters) is)
free_token (Mark mark) is = cc
free_token (Number number) is = cc
free_token (Quoted text closed) is = cc
free_token Strange is = cc
free_token End is = cc

pub number_token : (token : Token) → is_number token ≡ true → is_large token ≡ false → (token ≡ Number (Some (number_of token))) × (number_of token ≤ 9223372036854775807)
number_token (Word letters) is small = cc
number_token (Mark mark) is small = cc
number_token (Number None) is small = cc
number_token (Number (Some n)) is small = (refl, grind arith)
number_token (Quoted text closed) is small = cc
number_token Strange is small = cc
number_token End is small = cc

-- one list of tokens after another
pub join : (first second : List Token) (a b c : List ℕ) → Spells first a b → Spells second b c → Spells (first ++ second) a c
join [] second a b c front back = subst (λ place. Spells second place c) (sym front) back
join (token ∷ first) second a b c front back = (front.0, join first second (behind a) b c front.1 back)

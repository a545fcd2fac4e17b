-- Which token words begin with, and what follows it.
use Rattle.std.proofs.Common.{◌≡◌, ℕ, Bool, true, false, not, ◌||◌, List, [], ◌∷◌, ◌++◌, length, drop, refl, sym, ap, subst, ◌∙◌, arith}
use Rattle.std.specs.Prelude.{map}
use Rattle.std.specs.Char.{to_ascii_lowercase}
use Rattle.std.specs.List.{list_all, prefix_len, take_while}
use Rattle.std.proofs.Math.Numerals.{one-add}
use Rattle.std.proofs.Math.Seq.{take-append_seam, drop-append_seam}
use Rattle.std.proofs.lemmas.Bool.{and_parts, or_parts, not-true, cond-true}
use Rattle.std.proofs.lemmas.Bool.Decides.{nat_tests}
use Rattle.acc_token.specs.Tokens.{Token, Word, is_quote, is_blank, after_blanks, begins_word, continues_word, token_of, token_len, token_at, behind}
use Rattle.acc_txn.specs.Words.{begins_word as begins_lower, continues_word as continues_lower, is_lower_word}
use Rattle.acc_lang.specs.Grammar.{Spells}

-- no byte that passes the test stands in front
abbrev pub stops : (ℕ → Bool) → List ℕ → Bool
stops test [] = true
stops test (c ∷ cs) = not (test c)

-- what a word or a text in quotes goes on with
abbrev pub goes_on : ℕ → Bool
goes_on c = continues_word c || is_quote c

pub word_stop : (text : List ℕ) → stops goes_on text ≡ true → stops continues_word text ≡ true
word_stop [] stop = refl
word_stop (c ∷ cs) stop = rw (or_parts (continues_word c) (is_quote c) (not-true (goes_on c) stop)).0 refl

pub quote_stop : (text : List ℕ) → stops goes_on text ≡ true → stops is_quote text ≡ true
quote_stop [] stop = refl
quote_stop (c ∷ cs) stop = rw (or_parts (continues_word c) (is_quote c) (not-true (goes_on c) stop)).1 refl

-- the front that passes a test ends where a byte fails it
prefix-front : (test : ℕ → Bool) (front rest : List ℕ) → list_all test front ≡ true → stops test rest ≡ true → prefix_len test (front ++ rest) ≡ length front
prefix-front test [] [] all stop = refl
prefix-front test [] (c ∷ cs) all stop = rw (not-true (test c) stop) refl
prefix-front test (c ∷ cs) rest all stop =
    let parts = and_parts (test c) (list_all test cs) all in
    rw parts.0 (rw (prefix-front test cs rest parts.1 stop) (one-add (length cs)))

pub take-front : (test : ℕ → Bool) (front rest : List ℕ) → list_all test front ≡ true → stops test rest ≡ true → take_while test (front ++ rest) ≡ front
take-front test front rest all stop = rw (prefix-front test front rest all stop) (take-append_seam front rest)

pub drop-front : (test : ℕ → Bool) (front rest : List ℕ) → list_all test front ≡ true → stops test rest ≡ true → drop (prefix_len test (front ++ rest)) (front ++ rest) ≡ rest
drop-front test front rest all stop = rw (prefix-front test front rest all stop) (drop-append_seam front rest)

-- ---- blanks

pub after-space : (text : List ℕ) → after_blanks (32 ∷ text) ≡ after_blanks text
unfolding after_blanks
after-space text = rw (one-add (prefix_len is_blank text)) refl

pub token-space : (text : List ℕ) → token_at (32 ∷ text) ≡ token_at text
unfolding token_at
token-space text = ap token_of (after-space text)

pub behind-space : (text : List ℕ) → behind (32 ∷ text) ≡ behind text
unfolding behind
behind-space text = ap (λ begun. drop (token_len begun) begun) (after-space text)

pub after-none : (c : ℕ) (text : List ℕ) → is_blank c ≡ false → after_blanks (c ∷ text) ≡ c ∷ text
unfolding after_blanks
after-none c text h = rw h refl

-- a space in front of tokens
pub spaced : (token : Token) (tokens : List Token) (from to : List ℕ) → Spells (token ∷ tokens) from to → Spells (token ∷ tokens) (32 ∷ from) to
spaced token tokens from to h = (token-space from ∙ h.0, subst (λ next. Spells tokens next to) (sym (behind-space from)) h.1)

-- a token, from what is known of it
pub one_token : (token : Token) (tokens : List Token) (from next to : List ℕ) → token_at from ≡ token → behind from ≡ next → Spells tokens next to → Spells (token ∷ tokens) from to
one_token token tokens from next to is follows h = (is, subst (λ place. Spells tokens place to) (sym follows) h)

-- ---- words

letter_no_blank : (c : ℕ) → begins_word c ≡ true → is_blank c ≡ false
letter_no_blank c h = grind (arith, nat_tests)

pub word_at : (c : ℕ) (cs rest : List ℕ) → begins_word c ≡ true → list_all continues_word (c ∷ cs) ≡ true → stops continues_word rest ≡ true →
    token_at (c ∷ cs ++ rest) ≡ Word (map to_ascii_lowercase (c ∷ cs))
unfolding token_at token_of
word_at c cs rest begins all stop =
    rw (after-none c (cs ++ rest) (letter_no_blank c begins)) (cond-true (begins_word c) _ _ begins ∙ ap (λ word. Word (map to_ascii_lowercase word)) (take-front continues_word (c ∷ cs) rest all stop))

pub behind_word : (c : ℕ) (cs rest : List ℕ) → begins_word c ≡ true → list_all continues_word (c ∷ cs) ≡ true → stops continues_word rest ≡ true →
    behind (c ∷ cs ++ rest) ≡ rest
unfolding behind token_len
behind_word c cs rest begins all stop =
    rw (after-none c (cs ++ rest) (letter_no_blank c begins)) (ap (λ len. drop len (c ∷ cs ++ rest)) (cond-true (begins_word c) _ _ begins) ∙ drop-front continues_word (c ∷ cs) rest all stop)

-- a word of letters that are written out
pub letters : (c : ℕ) (cs rest to : List ℕ) (tokens : List Token) → begins_word c ≡ true → list_all continues_word (c ∷ cs) ≡ true → stops continues_word rest ≡ true →
    Spells tokens rest to → Spells (Word (map to_ascii_lowercase (c ∷ cs)) ∷ tokens) (c ∷ cs ++ rest) to
letters c cs rest to tokens begins all stop h =
    one_token (Word (map to_ascii_lowercase (c ∷ cs))) tokens (c ∷ cs ++ rest) rest to (word_at c cs rest begins all stop) (behind_word c cs rest begins all stop) h

-- ---- names, which are in small letters

small_begins : (c : ℕ) → begins_lower c ≡ true → begins_word c ≡ true
small_begins c h = grind (arith, nat_tests)

small_continues : (c : ℕ) → continues_lower c ≡ true → continues_word c ≡ true
small_continues c h = grind (arith, nat_tests)

begins_continues : (c : ℕ) → begins_word c ≡ true → continues_word c ≡ true
begins_continues c h = rw h refl

small_stays : (c : ℕ) → continues_lower c ≡ true → to_ascii_lowercase c ≡ c
small_stays c h = grind (arith, nat_tests)

begins_stays : (c : ℕ) → begins_lower c ≡ true → to_ascii_lowercase c ≡ c
begins_stays c h = grind (arith, nat_tests)

all_continue : (cs : List ℕ) → list_all continues_lower cs ≡ true → list_all continues_word cs ≡ true
all_continue [] h = refl
all_continue (c ∷ cs) h =
    let parts = and_parts (continues_lower c) (list_all continues_lower cs) h in
    rw (small_continues c parts.0) (all_continue cs parts.1)

all_stay : (cs : List ℕ) → list_all continues_lower cs ≡ true → map to_ascii_lowercase cs ≡ cs
all_stay [] h = refl
all_stay (c ∷ cs) h =
    let parts = and_parts (continues_lower c) (list_all continues_lower cs) h in
    let first = small_stays c parts.0 in
    let others = all_stay cs parts.1 in
    cc

-- a name after a space
pub name_spelled : (name rest to : List ℕ) (tokens : List Token) → is_lower_word name ≡ true → stops continues_word rest ≡ true → Spells tokens rest to →
    Spells (Word name ∷ tokens) (32 ∷ name ++ rest) to
name_spelled [] rest to tokens lower stop h = cc
name_spelled (c ∷ cs) rest to tokens lower stop h =
    let parts = and_parts (begins_lower c) (list_all continues_lower cs) lower in
    let begins = small_begins c parts.0 in
    let all : list_all continues_word (c ∷ cs) ≡ true = rw (begins_continues c begins) (all_continue cs parts.1) in
    let first = begins_stays c parts.0 in
    let others = all_stay cs parts.1 in
    let same : map to_ascii_lowercase (c ∷ cs) ≡ c ∷ cs = cc in
    spaced (Word (c ∷ cs)) tokens (c ∷ cs ++ rest) to
    (subst (λ word. Spells (Word word ∷ tokens) (c ∷ cs ++ rest) to) same (letters c cs rest to tokens begins all stop h))

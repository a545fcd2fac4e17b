-- What the next token says, and what taking it gives.
use Rattle.std.proofs.Common.{◌≡◌, ◌≤◌, ℕ, Bool, true, false, ◌||◌, List, codes, length, not, None, Ok, refl, sym, ap, ◌∙◌, arith}
use Rattle.std.proofs.lemmas.Bool.Decides.{nat_tests}
use Rattle.std.proofs.lemmas.Slice.Eq.{bytes_eq-Decides}
use Rattle.acc_token.specs.Tokens.{Token, Word, Mark, Number, Quoted, Strange, End, token_at, behind, says_word, says_mark}
use Rattle.acc_lang.specs.Faults.{fault_of}
use Rattle.acc_lang.specs.Reading.{step, standing_of, passed, take_mark, begins_update, is_sign}

-- a word that is allowed and not too long is at no fault
word_fits : (as_key allowed : Bool) (word : List ℕ) (token : Token) → says_word word token ≡ true → length word ≤ 32 → allowed ≡ true
    → fault_of as_key (standing_of allowed false true) token ≡ None
unfolding fault_of standing_of
word_fits as_key allowed word (Word letters) is short may =
    let same : letters ≡ word = (bytes_eq-Decides letters word).0 is in
    let few : length letters ≤ 32 = rw (ap length same) short in
    rw may (grind (arith, nat_tests, few))
word_fits as_key allowed word (Mark mark) is short may = cc
word_fits as_key allowed word (Number number) is short may = cc
word_fits as_key allowed word (Quoted text closed) is short may = cc
word_fits as_key allowed word Strange is short may = cc
word_fits as_key allowed word End is short may = cc

mark_fits : (as_key allowed : Bool) (mark : List ℕ) (token : Token) → says_mark mark token ≡ true → allowed ≡ true → fault_of as_key (standing_of allowed false true) token ≡ None
unfolding fault_of standing_of
mark_fits as_key allowed mark (Word letters) is may = cc
mark_fits as_key allowed mark (Mark bytes) is may = rw may refl
mark_fits as_key allowed mark (Number number) is may = cc
mark_fits as_key allowed mark (Quoted text closed) is may = cc
mark_fits as_key allowed mark Strange is may = cc
mark_fits as_key allowed mark End is may = cc

pub first_taken : (texts : Bool) (word text : List ℕ) → says_word word (token_at text) ≡ true → length word ≤ 32
    → step (not texts) (standing_of (says_word word (token_at text)) false true) text ≡ Ok (behind text)
unfolding step
first_taken texts word text is short = ap (λ found. passed found text) (word_fits (not texts) (says_word word (token_at text)) word (token_at text) is short is)

first_of : (a b : Bool) → a ≡ true → (a || b) ≡ true
first_of true b is = refl
first_of false b is = cc

second_of : (a b : Bool) → b ≡ true → (a || b) ≡ true
second_of true b is = refl
second_of false b is = is

pub update_taken : (texts : Bool) (text : List ℕ) → says_word (codes "update") (token_at text) ≡ true
    → step (not texts) (standing_of (begins_update (token_at text)) false true) text ≡ Ok (behind text)
unfolding step
update_taken texts text is =
    ap (λ found. passed found text) (word_fits (not texts) (begins_update (token_at text)) (codes "update") (token_at text) is (omega arith) (first_of _ (says_word (codes "delete") (token_at text)) is))

pub delete_taken : (texts : Bool) (text : List ℕ) → says_word (codes "delete") (token_at text) ≡ true
    → step (not texts) (standing_of (begins_update (token_at text)) false true) text ≡ Ok (behind text)
unfolding step
delete_taken texts text is =
    ap (λ found. passed found text) (word_fits (not texts) (begins_update (token_at text)) (codes "delete") (token_at text) is (omega arith) (second_of (says_word (codes "update") (token_at text)) _ is))

pub mark_taken : (texts : Bool) (mark text : List ℕ) → says_mark mark (token_at text) ≡ true → take_mark texts mark text ≡ Ok (behind text)
unfolding take_mark step
mark_taken texts mark text is = ap (λ found. passed found text) (mark_fits (not texts) (says_mark mark (token_at text)) mark (token_at text) is is)

pub plus_taken : (texts : Bool) (text : List ℕ) → says_mark (codes "+") (token_at text) ≡ true
    → step (not texts) (standing_of (is_sign (token_at text)) false true) text ≡ Ok (behind text)
unfolding step
plus_taken texts text is =
    ap (λ found. passed found text) (mark_fits (not texts) (is_sign (token_at text)) (codes "+") (token_at text) is (first_of _ (says_mark (codes "-") (token_at text)) is))

pub minus_taken : (texts : Bool) (text : List ℕ) → says_mark (codes "-") (token_at text) ≡ true
    → step (not texts) (standing_of (is_sign (token_at text)) false true) text ≡ Ok (behind text)
unfolding step
minus_taken texts text is =
    ap (λ found. passed found text) (mark_fits (not texts) (is_sign (token_at text)) (codes "-") (token_at text) is (second_of (says_mark (codes "+") (token_at text)) _ is))

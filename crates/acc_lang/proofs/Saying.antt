-- What the tokens of a UTF-8 text say, and that it stays UTF-8 after each.
use Rattle.std.proofs.Common.{◌≡◌, ◌<◌, ◌+◌, ◌==◌, ℕ, suc, Bool, true, false, ◌||◌, ◌&&◌, cond, List, [], ◌∷◌, map, take, drop, Option, IsUtf8, refl, sym, subst, arith}
use Rattle.std.specs.Char.{is_ascii_digit, to_ascii_lowercase}
use Rattle.std.specs.List.{prefix_len, take_while}
use Rattle.std.specs.Str.{is_utf8}
use Rattle.std.proofs.lemmas.Str.{is_utf8-from_IsUtf8}
use Rattle.std.proofs.lemmas.Bool.Decides.{nat_tests}
use Rattle.acc_token.specs.Tokens.{Token, Word, Mark, Number, Quoted, Strange, End, is_blank, is_quote, is_mark, is_order, begins_with_equals, mark_len, mark_of, number_of, content, is_closed, quoted_len, after_blanks, begins_word, continues_word, token_of, token_len, token_at, behind}
use Rattle.acc_txn.specs.Words.{is_lower_word}
use Rattle.acc_lang.specs.Grammar.{Spells}
use Rattle.acc_lang.proofs.Lexical.{around, behind_ascii, content_utf8, quoted_rest, quote_ascii, word_ascii, digit_ascii, blank_ascii, small_word}

-- a word in small letters, and a text that is UTF-8
abbrev pub Says : Token → Type 0
Says (Word letters) = is_lower_word letters ≡ true
Says (Mark mark) = Unit {0}
Says (Number number) = Unit {0}
Says (Quoted text closed) = is_utf8 text ≡ true
Says Strange = Unit {0}
Says End = Unit {0}

mark_says : (n : ℕ) (text : List ℕ) → Says (mark_of n text)
mark_says n text = tested (n == 0) (take n text) where
  tested : (b : Bool) (mark : List ℕ) → Says (cond b Strange (Mark mark))
  tested true mark = tt
  tested false mark = tt

begun_says : (text : List ℕ) → IsUtf8 text → Says (token_of text)
unfolding token_of
begun_says [] utf8 = tt
begun_says (c ∷ cs) utf8 = word (begins_word c) (number_of (take_while is_ascii_digit (c ∷ cs))) refl where
  quoted : (b : Bool) → is_quote c ≡ b → Says (cond b (Quoted (content false cs) (is_closed false cs)) (mark_of (mark_len (c ∷ cs)) (c ∷ cs)))
  quoted true is = is_utf8-from_IsUtf8 (content false cs) (content_utf8 [] cs (around [] c cs utf8 (quote_ascii c is)).2)
  quoted false is = mark_says (mark_len (c ∷ cs)) (c ∷ cs)

  digits : (b : Bool) (n : Option ℕ) → Says (cond b (Number n) (cond (is_quote c) (Quoted (content false cs) (is_closed false cs)) (mark_of (mark_len (c ∷ cs)) (c ∷ cs))))
  digits true n = tt
  digits false n = quoted (is_quote c) refl

  word : (b : Bool) (n : Option ℕ) → begins_word c ≡ b → Says (cond b (Word (map to_ascii_lowercase (take_while continues_word (c ∷ cs)))) (cond (is_ascii_digit c) (Number n) (cond (is_quote c) (Quoted (content false cs) (is_closed false cs)) (mark_of (mark_len (c ∷ cs)) (c ∷ cs)))))
  word true n is = small_word c cs is
  word false n is = digits (is_ascii_digit c) n

equals_ascii : (c : ℕ) → (c == 61) ≡ true → c < 128
equals_ascii c is = grind (arith, nat_tests)

two_ascii : (c : ℕ) → (is_order c || c == 33) ≡ true → c < 128
two_ascii c is = grind (arith, nat_tests)

one_ascii : (c : ℕ) → (is_mark c || is_order c) ≡ true → c < 128
one_ascii c is = grind (arith, nat_tests)

both_of : (a b : Bool) → (a && b) ≡ true → (a ≡ true) × (b ≡ true)
both_of true b is = (refl, is)
both_of false b is = cc

-- after a mark
mark_rest : (c : ℕ) (cs : List ℕ) → IsUtf8 (c ∷ cs) → IsUtf8 (drop (mark_len (c ∷ cs)) (c ∷ cs))
mark_rest c cs utf8 = two ((is_order c || c == 33) && begins_with_equals cs) refl where
  second : (cs : List ℕ) → IsUtf8 cs → begins_with_equals cs ≡ true → IsUtf8 (drop 1 cs)
  second [] utf8 is = cc
  second (d ∷ ds) utf8 is = (around [] d ds utf8 (equals_ascii d is)).2

  one : (b : Bool) → (is_mark c || is_order c) ≡ b → IsUtf8 (drop (cond b 1 0) (c ∷ cs))
  one true is = (around [] c cs utf8 (one_ascii c is)).2
  one false is = utf8

  two : (b : Bool) → ((is_order c || c == 33) && begins_with_equals cs) ≡ b → IsUtf8 (drop (cond b 2 (cond (is_mark c || is_order c) 1 0)) (c ∷ cs))
  two true is =
      let p = both_of (is_order c || c == 33) (begins_with_equals cs) is in
      second cs (around [] c cs utf8 (two_ascii c p.0)).2 p.1
  two false is = one (is_mark c || is_order c) refl

begun_rest : (text : List ℕ) → IsUtf8 text → IsUtf8 (drop (token_len text) text)
unfolding token_len
begun_rest [] utf8 = utf8
begun_rest (c ∷ cs) utf8 = word (begins_word c) where
  quoted : (b : Bool) → is_quote c ≡ b → IsUtf8 (drop (cond b (1 + quoted_len false cs) (mark_len (c ∷ cs))) (c ∷ cs))
  quoted true is =
      let step : 1 + quoted_len false cs ≡ suc (quoted_len false cs) = omega arith in
      subst (λ n. IsUtf8 (drop n (c ∷ cs))) (sym step) (quoted_rest [] cs (around [] c cs utf8 (quote_ascii c is)).2)
  quoted false is = mark_rest c cs utf8

  digits : (b : Bool) → IsUtf8 (drop (cond b (prefix_len is_ascii_digit (c ∷ cs)) (cond (is_quote c) (1 + quoted_len false cs) (mark_len (c ∷ cs)))) (c ∷ cs))
  digits true = behind_ascii is_ascii_digit digit_ascii (c ∷ cs) utf8
  digits false = quoted (is_quote c) refl

  word : (b : Bool) → IsUtf8 (drop (cond b (prefix_len continues_word (c ∷ cs)) (cond (is_ascii_digit c) (prefix_len is_ascii_digit (c ∷ cs)) (cond (is_quote c) (1 + quoted_len false cs) (mark_len (c ∷ cs))))) (c ∷ cs))
  word true = behind_ascii continues_word word_ascii (c ∷ cs) utf8
  word false = digits (is_ascii_digit c)

after_utf8 : (text : List ℕ) → IsUtf8 text → IsUtf8 (after_blanks text)
unfolding after_blanks
after_utf8 text utf8 = behind_ascii is_blank blank_ascii text utf8

pub token_says : (text : List ℕ) → IsUtf8 text → Says (token_at text)
unfolding token_at
token_says text utf8 = begun_says (after_blanks text) (after_utf8 text utf8)

pub behind_utf8 : (text : List ℕ) → IsUtf8 text → IsUtf8 (behind text)
unfolding behind
behind_utf8 text utf8 = begun_rest (after_blanks text) (after_utf8 text utf8)

-- what each of some tokens says
abbrev pub AllSay : List Token → Type 0
AllSay [] = Unit {0}
AllSay (token ∷ tokens) = Says token × AllSay tokens

pub all_say : (tokens : List Token) (from to : List ℕ) → Spells tokens from to → IsUtf8 from → AllSay tokens × IsUtf8 to
all_say [] from to spelled utf8 = (tt, subst IsUtf8 spelled utf8)
all_say (token ∷ tokens) from to spelled utf8 =
    let others = all_say tokens (behind from) to spelled.1 (behind_utf8 from utf8) in
    ((subst Says spelled.0 (token_says from utf8), others.0), others.1)

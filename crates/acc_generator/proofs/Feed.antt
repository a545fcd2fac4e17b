-- A line feed after printed JSON adds no token.
use Rattle.std.proofs.Common.{◌≡◌, ℕ, Bool, true, false, cond, ◌&&◌, List, [], ◌∷◌, ◌++◌, refl, sym, ap, ap₂, ◌∙◌, append_assoc, append-nil}
use Rattle.json.specs.Token.{Token, begin_object, end_object, begin_array, end_array, key, string, number, boolean, null, bad}
use Rattle.json.specs.Word.{ends_word, word}
use Rattle.json.specs.Lex.{token, comma, colon, string_token, lex, between, fresh, punctuate, tokens}
use Rattle.json.specs.Print.{escape, quoted, token_text, begins, ends, print_from, print, IsPrintable, ArePrintable}
use Rattle.json.proofs.Printed.Strings.{content-escape, lex-escape}
use Rattle.json.proofs.Printed.Numbers.{lex-number, in_word-ended}
use Rattle.json.proofs.Printed.Tokens.{tokens-print}

-- after a value stands a comma, a closing bracket, or what follows on the tokens
word_ends : (ts : List Token) (rest : List ℕ) → ends_word rest ≡ true → ends_word (print_from true ts ++ rest) ≡ true
unfolding print_from
word_ends [] rest h = h
word_ends (begin_object ∷ ts) rest h = refl
word_ends (end_object ∷ ts) rest h = refl
word_ends (begin_array ∷ ts) rest h = refl
word_ends (end_array ∷ ts) rest h = refl
word_ends (key s ∷ ts) rest h = refl
word_ends (string s ∷ ts) rest h = refl
word_ends (number s ∷ ts) rest h = refl
word_ends (boolean b ∷ ts) rest h = refl
word_ends (null ∷ ts) rest h = refl
word_ends (bad ∷ ts) rest h = refl

-- two rests of a text give the same lexemes, and a word may end in front of each
record AreAlike (t : Token) (one other : List ℕ) : Type 0 where
  lexed : lex between one ≡ lex between other
  ended : ends t ≡ true → ends_word one ≡ true
  other_ended : ends t ≡ true → ends_word other ≡ true

behind_quoted : (s one other : List ℕ) → lex between one ≡ lex between other → lex between (quoted s ++ one) ≡ lex between (quoted s ++ other)
unfolding lex
behind_quoted s one other same =
    ap (λ l. lex between (34 ∷ l)) (append_assoc (escape s) (34 ∷ []) one)
    ∙ ap₂ (λ o l. token (string_token o) ∷ l) (content-escape s one ∙ sym (content-escape s other)) (lex-escape s one ∙ same ∙ sym (lex-escape s other))
    ∙ ap (λ l. lex between (34 ∷ l)) (sym (append_assoc (escape s) (34 ∷ []) other))

behind_token : (t : Token) (one other : List ℕ) → IsPrintable t → AreAlike t one other → lex between (token_text t ++ one) ≡ lex between (token_text t ++ other)
unfolding lex word
behind_token begin_object one other h alike = ap (λ l. token begin_object ∷ l) alike.lexed
behind_token end_object one other h alike = ap (λ l. token end_object ∷ l) alike.lexed
behind_token begin_array one other h alike = ap (λ l. token begin_array ∷ l) alike.lexed
behind_token end_array one other h alike = ap (λ l. token end_array ∷ l) alike.lexed
behind_token (key s) one other h alike =
    ap (lex between) (append_assoc (quoted s) (58 ∷ []) one)
    ∙ behind_quoted s (58 ∷ one) (58 ∷ other) (ap (λ l. colon ∷ l) alike.lexed)
    ∙ ap (lex between) (sym (append_assoc (quoted s) (58 ∷ []) other))
behind_token (string s) one other h alike = behind_quoted s one other alike.lexed
behind_token (number s) one other h alike =
    lex-number s one h (alike.ended refl) ∙ ap (λ l. token (number s) ∷ l) alike.lexed ∙ sym (lex-number s other h (alike.other_ended refl))
behind_token (boolean true) one other h alike =
    ap₂ (λ b l. token (cond b (boolean true) bad) ∷ l) (alike.ended refl ∙ sym (alike.other_ended refl))
    (in_word-ended one (alike.ended refl) ∙ alike.lexed ∙ sym (in_word-ended other (alike.other_ended refl)))
behind_token (boolean false) one other h alike =
    ap₂ (λ b l. token (cond b (boolean false) bad) ∷ l) (alike.ended refl ∙ sym (alike.other_ended refl))
    (in_word-ended one (alike.ended refl) ∙ alike.lexed ∙ sym (in_word-ended other (alike.other_ended refl)))
behind_token null one other h alike =
    ap₂ (λ b l. token (cond b null bad) ∷ l) (alike.ended refl ∙ sym (alike.other_ended refl))
    (in_word-ended one (alike.ended refl) ∙ alike.lexed ∙ sym (in_word-ended other (alike.other_ended refl)))
behind_token bad one other h alike = absurd h

behind_separator : (b : Bool) (one other : List ℕ) → lex between one ≡ lex between other → lex between (cond b (44 ∷ []) [] ++ one) ≡ lex between (cond b (44 ∷ []) [] ++ other)
unfolding lex
behind_separator true one other same = ap (λ l. comma ∷ l) same
behind_separator false one other same = same

lexed_with_feed : (c : Bool) (ts : List Token) → ArePrintable ts → lex between (print_from c ts ++ 10 ∷ []) ≡ lex between (print_from c ts)
unfolding lex print_from ArePrintable
lexed_with_feed c [] h = refl
lexed_with_feed c (t ∷ ts) h =
    let sep = cond (c && begins t) (44 ∷ []) [] in
    let rest = print_from (ends t) ts in
    let alike : AreAlike t (rest ++ 10 ∷ []) rest = record {
      lexed = lexed_with_feed (ends t) ts h.1;
      ended = λ e. ap (λ b. ends_word (print_from b ts ++ 10 ∷ [])) e ∙ word_ends ts (10 ∷ []) refl;
      other_ended = λ e. ap (λ b. ends_word (print_from b ts)) e ∙ ap ends_word (sym (append-nil (print_from true ts))) ∙ word_ends ts [] refl;
    } in
    ap (lex between) (append_assoc sep (token_text t ++ rest) (10 ∷ []) ∙ ap (λ l. sep ++ l) (append_assoc (token_text t) rest (10 ∷ [])))
    ∙ behind_separator (c && begins t) (token_text t ++ (rest ++ 10 ∷ [])) (token_text t ++ rest) (behind_token t (rest ++ 10 ∷ []) rest h.0 alike)

pub tokens_with_feed : (ts : List Token) → ArePrintable ts → tokens (print ts ++ 10 ∷ []) ≡ ts
tokens_with_feed ts h = ap (punctuate fresh) (lexed_with_feed false ts h) ∙ tokens-print ts h

-- A line feed after JSON text is not read.
use Rattle.std.proofs.Common.{◌≡◌, ℕ, Bool, true, false, cond, ◌&&◌, List, [], ◌∷◌, ◌++◌, Option, option_and_then, refl, sym, ap, ap₂, subst, ◌∙◌, append_assoc}
use Rattle.json.specs.Json as json
use Rattle.json.specs.Lex.{colon, comma, fresh, lex, punctuate, string_token, token, tokens, Lexeme, between}
use Rattle.json.specs.Print.{begins, ends, escape, print, print_from, quoted, token_text, ArePrintable, ArePrintableOrBad, IsPrintable}
use Rattle.json.specs.Token.{bad, begin_array, begin_object, boolean, end_array, end_object, key, null, number, string, Token}
use Rattle.json.specs.Tree.{items_tokens, json_tokens, members_tokens}
use Rattle.json.specs.Word.{ends_word, word}
use Rattle.json.proofs.Numbered.{ArePrintableOrBad-tokens}
use Rattle.json.proofs.Printed.Numbers.{in_word-ended, lex-number}
use Rattle.json.proofs.Printed.Strings.{content-escape, lex-escape}
use Rattle.serde_json.specs.Data.{Data}
use Rattle.serde_json.specs.Read.{max_depth, of_json, read}
use Rattle.serde_json.specs.Written.{IsInOrder}

abbrev lexemes : Token → List Lexeme
lexemes begin_object = token begin_object ∷ []
lexemes end_object = token end_object ∷ []
lexemes begin_array = token begin_array ∷ []
lexemes end_array = token end_array ∷ []
lexemes (key s) = token (string s) ∷ colon ∷ []
lexemes (string s) = token (string s) ∷ []
lexemes (number s) = token (number s) ∷ []
lexemes (boolean b) = token (boolean b) ∷ []
lexemes null = token null ∷ []
lexemes bad = []

-- ---- each token before any text that ends a word

lex_quoted : (s r : List ℕ) → lex between (quoted s ++ r) ≡ token (string s) ∷ lex between r
unfolding lex
lex_quoted s r =
    let e = append_assoc (escape s) (34 ∷ []) r in
    ap (λ l. lex between (34 ∷ l)) e ∙ ap₂ (λ o l. token (string_token o) ∷ l) (content-escape s r) (lex-escape s r)

lex_text : (t : Token) (r : List ℕ) → IsPrintable t → (ends t ≡ true → ends_word r ≡ true) → lex between (token_text t ++ r) ≡ lexemes t ++ lex between r
unfolding lex word
lex_text begin_object r h ended = refl
lex_text end_object r h ended = refl
lex_text begin_array r h ended = refl
lex_text end_array r h ended = refl
lex_text (key s) r h ended = ap (lex between) (append_assoc (quoted s) (58 ∷ []) r) ∙ lex_quoted s (58 ∷ r)
lex_text (string s) r h ended = lex_quoted s r
lex_text (number s) r h ended = lex-number s r h (ended refl)
lex_text (boolean true) r h ended = ap₂ (λ b l. token (cond b (boolean true) bad) ∷ l) (ended refl) (in_word-ended r (ended refl))
lex_text (boolean false) r h ended = ap₂ (λ b l. token (cond b (boolean false) bad) ∷ l) (ended refl) (in_word-ended r (ended refl))
lex_text null r h ended = ap₂ (λ b l. token (cond b null bad) ∷ l) (ended refl) (in_word-ended r (ended refl))
lex_text bad r h ended = absurd h

lex_comma : (b : Bool) (r : List ℕ) → lex between (cond b (44 ∷ []) [] ++ r) ≡ cond b (comma ∷ []) [] ++ lex between r
unfolding lex
lex_comma true r = refl
lex_comma false r = refl

-- ---- the text, and the text with a line feed

ended : (ts : List Token) → ends_word (print_from true ts) ≡ true
unfolding print_from
ended [] = refl
ended (begin_object ∷ ts) = refl
ended (end_object ∷ ts) = refl
ended (begin_array ∷ ts) = refl
ended (end_array ∷ ts) = refl
ended (key s ∷ ts) = refl
ended (string s ∷ ts) = refl
ended (number s ∷ ts) = refl
ended (boolean b ∷ ts) = refl
ended (null ∷ ts) = refl
ended (bad ∷ ts) = refl

line_ended : (ts : List Token) → ends_word (print_from true ts ++ 10 ∷ []) ≡ true
unfolding print_from
line_ended [] = refl
line_ended (begin_object ∷ ts) = refl
line_ended (end_object ∷ ts) = refl
line_ended (begin_array ∷ ts) = refl
line_ended (end_array ∷ ts) = refl
line_ended (key s ∷ ts) = refl
line_ended (string s ∷ ts) = refl
line_ended (number s ∷ ts) = refl
line_ended (boolean b ∷ ts) = refl
line_ended (null ∷ ts) = refl
line_ended (bad ∷ ts) = refl

lex_printed : (c : Bool) (t : Token) (ts : List Token) (r : List ℕ) → IsPrintable t → (ends t ≡ true → ends_word r ≡ true)
    → lex between (cond (c && begins t) (44 ∷ []) [] ++ (token_text t ++ r)) ≡ cond (c && begins t) (comma ∷ []) [] ++ (lexemes t ++ lex between r)
lex_printed c t ts r h e = lex_comma (c && begins t) (token_text t ++ r) ∙ ap (λ l. cond (c && begins t) (comma ∷ []) [] ++ l) (lex_text t r h e)

lex_line : (c : Bool) (ts : List Token) → ArePrintable ts → lex between (print_from c ts ++ 10 ∷ []) ≡ lex between (print_from c ts)
unfolding lex print_from ArePrintable
lex_line c [] h = refl
lex_line c (t ∷ ts) h =
    let rest : List ℕ = print_from (ends t) ts in
    ap (lex between) (append_assoc (cond (c && begins t) (44 ∷ []) []) (token_text t ++ rest) (10 ∷ []) ∙ ap (λ l. cond (c && begins t) (44 ∷ []) [] ++ l) (append_assoc (token_text t) rest (10 ∷ [])))
    ∙ lex_printed c t ts (rest ++ 10 ∷ []) h.0 (λ e. ap (λ b. ends_word (print_from b ts ++ 10 ∷ [])) e ∙ line_ended ts)
    ∙ ap (λ l. cond (c && begins t) (comma ∷ []) [] ++ (lexemes t ++ l)) (lex_line (ends t) ts h.1)
    ∙ sym (lex_printed c t ts rest h.0 (λ e. ap (λ b. ends_word (print_from b ts)) e ∙ ended ts))

-- ---- what was read has tokens that can be printed

abbrev NoneBad : List Token → Type 0
NoneBad [] = Unit {0}
NoneBad (t ∷ ts) = (t ≡ bad → ⊥) × NoneBad ts

none_bad : (ts us : List Token) → NoneBad ts → NoneBad us → NoneBad (ts ++ us)
none_bad [] us h k = k
none_bad (t ∷ ts) us h k = (h.0, none_bad ts us h.1 k)

mutual
  json_good : (j : json.Json) → NoneBad (json_tokens j)
  json_good json.null = ((λ e. cc), tt)
  json_good (json.boolean b) = ((λ e. cc), tt)
  json_good (json.number s) = ((λ e. cc), tt)
  json_good (json.string s) = ((λ e. cc), tt)
  json_good (json.array js) = ((λ e. cc), items_good js)
  json_good (json.object ms) = ((λ e. cc), members_good ms)

  items_good : (js : json.Items) → NoneBad (items_tokens js)
  items_good json.no_items = ((λ e. cc), tt)
  items_good (json.item j js) = none_bad (json_tokens j) (items_tokens js) (json_good j) (items_good js)

  members_good : (ms : json.Members) → NoneBad (members_tokens ms)
  members_good json.no_members = ((λ e. cc), tt)
  members_good (json.member k j ms) = ((λ e. cc), none_bad (json_tokens j) (members_tokens ms) (json_good j) (members_good ms))

one_good : (t : Token) → (t ≡ bad → ⊥) → ArePrintableOrBad (t ∷ []) → IsPrintable t
one_good begin_object n h = tt
one_good end_object n h = tt
one_good begin_array n h = tt
one_good end_array n h = tt
one_good (key s) n h = tt
one_good (string s) n h = tt
one_good (number s) n h = h.0
one_good (boolean b) n h = tt
one_good null n h = tt
one_good bad n h = n refl

all_good : (ts : List Token) → NoneBad ts → ArePrintableOrBad ts → ArePrintable ts
unfolding ArePrintable
all_good [] n h = tt
all_good (t ∷ ts) n h = (one_good t n.0 (h.0, tt), all_good ts n.1 h.1)

pub read_trailing : (text : List ℕ) (d : Data) → text ≡ print (tokens text) → IsInOrder text d → read (text ++ 10 ∷ []) ≡ read text
read_trailing text d compact order =
    let printable : ArePrintable (tokens text) =
    all_good (tokens text) (subst NoneBad (sym order.1) (json_good order.0)) (ArePrintableOrBad-tokens text) in
    let lexed : lex between (text ++ 10 ∷ []) ≡ lex between text =
    ap (λ (l : List ℕ). lex between (l ++ 10 ∷ [])) compact ∙ lex_line false (tokens text) printable ∙ ap (lex between) (sym compact) in
    ap (λ (ls : List Lexeme). tokens_read (punctuate fresh ls)) lexed
  where
    tokens_read : List Token → Option Data
    tokens_read ts = option_and_then of_json (option_and_then (λ (p : json.Json × List Token). json.if_last p.0 p.1) (json.value max_depth ts))

-- Keys, and the parts that are made of tokens and keys alone, are spelled by their canonical texts.
use Rattle.std.proofs.Common.{◌≡◌, ℕ, true, List, [], ◌∷◌, ◌++◌, refl, sym, subst, append_assoc}
use Rattle.std.specs.Prelude.{codes}
use Rattle.std.proofs.lemmas.Bool.{and_parts}
use Rattle.acc_token.specs.Tokens.{Token, Word, Mark, Quoted, is_quote, token_at, token_of, token_len, behind, after_blanks}
use Rattle.acc_value.specs.declared.key.Key.{Key}
use Rattle.acc_txn.specs.declared.parts.Let.{Let}
use Rattle.acc_txn.specs.Words.{is_name, is_key, is_key_text, is_lower_word}
use Rattle.acc_print.specs.Canonical.{quoted, where_text, get_text, let_text, delete_text}
use Rattle.acc_print.proofs.WordUtf8.{lower_word}
use Rattle.acc_lang.specs.Grammar.{Spells, LetSpelled}
use Rattle.acc_print.proofs.TokenFacts.{stops, goes_on, word_stop, spaced, name_spelled}
use Rattle.acc_print.proofs.QuotedFacts.{quoted_spelled}

-- pieces that are joined from the left, with something after them
pub behind3 : (a b c rest : List ℕ) → (a ++ b ++ c) ++ rest ≡ a ++ (b ++ (c ++ rest))
behind3 a b c rest = simp append_assoc

pub behind4 : (a b c d rest : List ℕ) → (a ++ b ++ c ++ d) ++ rest ≡ a ++ (b ++ (c ++ (d ++ rest)))
behind4 a b c d rest = simp append_assoc

pub behind5 : (a b c d z rest : List ℕ) → (a ++ b ++ c ++ d ++ z) ++ rest ≡ a ++ (b ++ (c ++ (d ++ (z ++ rest))))
behind5 a b c d z rest = simp append_assoc

pub key_table : (key : Key) → is_key key ≡ true → is_lower_word key.table ≡ true
key_table key h = lower_word key.table (and_parts (is_name key.table) (is_key_text key.key) h).0

pub where_stops : (key : Key) (rest : List ℕ) → stops goes_on (where_text key ++ rest) ≡ true
unfolding where_text
where_stops key rest = refl

-- WHERE k = 'key'
pub where_spelled : (key : Key) (rest to : List ℕ) (tokens : List Token) → stops is_quote rest ≡ true → Spells tokens rest to →
    Spells (Word (codes "where") ∷ Word (codes "k") ∷ Mark (codes "=") ∷ Quoted key.key true ∷ tokens) (where_text key ++ rest) to
unfolding where_text token_at token_of token_len behind after_blanks
where_spelled key rest to tokens stop h =
    (refl, (refl, (refl, spaced (Quoted key.key true) tokens (quoted key.key ++ rest) to (quoted_spelled key.key rest to tokens stop h))))

-- SELECT v FROM table WHERE k = 'key'
pub get_spelled : (key : Key) (rest to : List ℕ) (tokens : List Token) → is_key key ≡ true → stops is_quote rest ≡ true → Spells tokens rest to →
    Spells
    (Word (codes "select") ∷ Word (codes "v") ∷ Word (codes "from") ∷ Word key.table ∷ Word (codes "where") ∷ Word (codes "k") ∷ Mark (codes "=")
    ∷ Quoted key.key true ∷ tokens)
    (get_text key ++ rest) to
unfolding get_text token_at token_of token_len behind after_blanks
get_spelled key rest to tokens keyed stop h =
    let chosen = where_spelled key rest to tokens stop h in
    let table = name_spelled key.table (where_text key ++ rest) to (Word (codes "where") ∷ Word (codes "k") ∷ Mark (codes "=") ∷ Quoted key.key true ∷ tokens)
    (key_table key keyed) (word_stop (where_text key ++ rest) (where_stops key rest)) chosen in
    subst
    (λ from. Spells
    (Word (codes "select") ∷ Word (codes "v") ∷ Word (codes "from") ∷ Word key.table ∷ Word (codes "where") ∷ Word (codes "k") ∷ Mark (codes "=")
    ∷ Quoted key.key true ∷ tokens)
    from to)
    (sym (behind3 (codes "SELECT v FROM ") key.table (where_text key) rest)) (refl, (refl, (refl, table)))

-- LET name = ( SELECT v FROM table WHERE k = 'key' ) ;
pub let_spelled : (l : Let) (rest : List ℕ) → is_name l.name ≡ true → is_key l.key ≡ true → LetSpelled l (let_text l ++ rest) rest
unfolding let_text token_at token_of token_len behind after_blanks
let_spelled l rest named keyed =
    let got = get_spelled l.key (41 ∷ 59 ∷ rest) rest (Mark (codes ")") ∷ Mark (codes ";") ∷ []) keyed refl (refl, (refl, refl)) in
    let name = name_spelled l.name (32 ∷ 61 ∷ 32 ∷ 40 ∷ (get_text l.key ++ 41 ∷ 59 ∷ rest)) rest
    (Mark (codes "=") ∷ Mark (codes "(") ∷ Word (codes "select") ∷ Word (codes "v") ∷ Word (codes "from") ∷ Word l.key.table ∷ Word (codes "where")
    ∷ Word (codes "k") ∷ Mark (codes "=") ∷ Quoted l.key.key true ∷ Mark (codes ")") ∷ Mark (codes ";") ∷ [])
    (lower_word l.name named) refl (refl, (refl, got)) in
    subst (λ from. LetSpelled l from rest) (sym (behind5 (codes " LET ") l.name (codes " = (") (get_text l.key) (codes ");") rest)) (refl, name)

-- DELETE FROM table WHERE k = 'key' ;
pub delete_spelled : (key : Key) (rest : List ℕ) → is_key key ≡ true →
    Spells
    (Word (codes "delete") ∷ Word (codes "from") ∷ Word key.table ∷ Word (codes "where") ∷ Word (codes "k") ∷ Mark (codes "=") ∷ Quoted key.key true
    ∷ Mark (codes ";") ∷ [])
    (delete_text key ++ rest) rest
unfolding delete_text token_at token_of token_len behind after_blanks
delete_spelled key rest keyed =
    let chosen = where_spelled key (59 ∷ rest) rest (Mark (codes ";") ∷ []) refl (refl, refl) in
    let table = name_spelled key.table (where_text key ++ 59 ∷ rest) rest
    (Word (codes "where") ∷ Word (codes "k") ∷ Mark (codes "=") ∷ Quoted key.key true ∷ Mark (codes ";") ∷ [])
    (key_table key keyed) (word_stop (where_text key ++ 59 ∷ rest) (where_stops key (59 ∷ rest))) chosen in
    subst
    (λ from. Spells
    (Word (codes "delete") ∷ Word (codes "from") ∷ Word key.table ∷ Word (codes "where") ∷ Word (codes "k") ∷ Mark (codes "=") ∷ Quoted key.key true
    ∷ Mark (codes ";") ∷ [])
    from rest)
    (sym (behind4 (codes " DELETE FROM ") key.table (where_text key) (codes ";") rest)) (refl, (refl, table))

pub behind6 : (a b c d y z rest : List ℕ) → (a ++ b ++ c ++ d ++ y ++ z) ++ rest ≡ a ++ (b ++ (c ++ (d ++ (y ++ (z ++ rest)))))
behind6 a b c d y z rest = simp append_assoc

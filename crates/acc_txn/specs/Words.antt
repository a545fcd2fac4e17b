-- The words of the transaction language, and the texts of keys.
use Rattle.std.specs.Prelude.{ℕ, Bool, false, not, ◌&&◌, ◌||◌, ◌==◌, nat_le, List, [], ◌∷◌, length, codes}
use Rattle.std.specs.List.{list_any, list_all}
use Rattle.std.specs.Char.{is_ascii_lowercase, is_ascii_digit}
use Rattle.std.specs.Str.{bytes_eq, is_utf8}
use Rattle.acc_value.specs.declared.key.Key.{Key}

-- the words that name nothing, as they belong to the language
abbrev pub reserved_words : List (List ℕ)
reserved_words =
    codes "begin" ∷ codes "transaction" ∷ codes "let" ∷ codes "select" ∷ codes "from" ∷ codes "where" ∷ codes "if" ∷ codes "then" ∷ codes "end"
    ∷ codes "update" ∷ codes "set" ∷ codes "delete" ∷ codes "commit" ∷ codes "and" ∷ codes "is" ∷ codes "not" ∷ codes "null" ∷ []

abbrev pub is_reserved : List ℕ → Bool
is_reserved word = list_any (bytes_eq word) reserved_words

-- a small letter or an underscore
abbrev pub begins_word : ℕ → Bool
begins_word c = is_ascii_lowercase c || c == 95

abbrev pub continues_word : ℕ → Bool
continues_word c = begins_word c || is_ascii_digit c

-- a small letter or an underscore, and then any of these and digits
abbrev pub is_lower_word : List ℕ → Bool
is_lower_word [] = false
is_lower_word (c ∷ cs) = begins_word c && list_all continues_word cs

-- such a word of at most 32 bytes
abbrev pub is_word : List ℕ → Bool
is_word word = nat_le (length word) 32 && is_lower_word word

-- a word that may name a LET or a table
abbrev pub is_name : List ℕ → Bool
is_name word = is_word word && not (is_reserved word)

-- a text of 1 to 64 bytes
abbrev pub is_key_text : List ℕ → Bool
is_key_text bytes = nat_le 1 (length bytes) && nat_le (length bytes) 64 && is_utf8 bytes

-- a key whose table is a name and whose text may be one
abbrev pub is_key : Key → Bool
is_key key = is_name key.table && is_key_text key.key

-- a byte that is no control character
abbrev pub is_printed : ℕ → Bool
is_printed c = nat_le 32 c && not (c == 127)

-- a text that a cell may hold
abbrev pub is_text_value : List ℕ → Bool
is_text_value bytes = nat_le (length bytes) 255 && list_all is_printed bytes && is_utf8 bytes

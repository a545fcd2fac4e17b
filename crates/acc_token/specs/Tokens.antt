-- The tokens of a text: which one stands first, how many bytes are left from where it begins, and what follows it.
use Rattle.std.specs.Prelude.{ℕ, ◌+◌, Bool, true, false, not, ◌&&◌, ◌||◌, ◌==◌, nat_le, List, [], ◌∷◌, length, take, drop, map, Option, Some, None, if◌then◌else◌}
use Rattle.std.specs.Char.{is_ascii_alphabetic, is_ascii_digit, to_ascii_lowercase}
use Rattle.std.specs.List.{list_all, prefix_len, take_while}
use Rattle.std.specs.Str.{bytes_eq}
use Rattle.std.specs.Str.Parse.{digits_value}
use Rattle.acc_base.specs.Numbers.{greatest_u64}

pub data Token : Type 0 where
  -- a word, in small letters
  Word : List ℕ → Token
  -- one of the marks = != < <= > >= + - ( ) , ; .
  Mark : List ℕ → Token
  -- a number without a sign, unless it is more than 64 bits hold
  Number : Option ℕ → Token
  -- what a quoted text says, and whether its closing quote is there
  Quoted : List ℕ → Bool → Token
  -- a byte that begins no token
  Strange : Token
  -- the end of the text
  End : Token

-- spaces, tabs, line feeds and carriage returns stand between tokens
abbrev pub is_blank : ℕ → Bool
is_blank c = c == 32 || c == 9 || c == 10 || c == 13

unfoldable pub after_blanks : List ℕ → List ℕ
after_blanks text = drop (prefix_len is_blank text) text

-- a word begins with a letter or an underscore, and goes on with any of these and digits
abbrev pub begins_word : ℕ → Bool
begins_word c = is_ascii_alphabetic c || c == 95

abbrev pub continues_word : ℕ → Bool
continues_word c = begins_word c || is_ascii_digit c

abbrev pub is_quote : ℕ → Bool
is_quote c = c == 39

-- = + - ( ) , ; .
abbrev pub is_mark : ℕ → Bool
is_mark c = c == 61 || c == 43 || c == 45 || c == 40 || c == 41 || c == 44 || c == 59 || c == 46

-- < >
abbrev pub is_order : ℕ → Bool
is_order c = c == 60 || c == 62

abbrev pub begins_with_equals : List ℕ → Bool
begins_with_equals [] = false
begins_with_equals (c ∷ cs) = c == 61

-- how many bytes the mark in front has, and 0 where there is none
abbrev pub mark_len : List ℕ → ℕ
mark_len [] = 0
mark_len (c ∷ cs) =
    if (is_order c || c == 33) && begins_with_equals cs then 2 else (if is_mark c || is_order c then 1 else 0)

abbrev pub mark_of : ℕ → List ℕ → Token
mark_of len text = if len == 0 then Strange else Mark (take len text)

-- the number that digits write
abbrev pub number_of : List ℕ → Option ℕ
number_of digits = let number = digits_value 10 digits in if nat_le number greatest_u64 then Some number else None

-- what a quoted text says, from behind its opening quote on: up to a quote that no other follows, with one for two.
-- The flag tells whether the byte in front is a quote that waits for what follows it
abbrev pub content : Bool → List ℕ → List ℕ
content false [] = []
content true [] = []
content false (c ∷ cs) = if is_quote c then content true cs else c ∷ content false cs
content true (c ∷ cs) = if is_quote c then c ∷ content false cs else []

-- whether the closing quote is there
abbrev pub is_closed : Bool → List ℕ → Bool
is_closed false [] = false
is_closed true [] = true
is_closed false (c ∷ cs) = if is_quote c then is_closed true cs else is_closed false cs
is_closed true (c ∷ cs) = if is_quote c then is_closed false cs else true

-- how many bytes it says, where the closing quote is there
abbrev pub content_len : List ℕ → Option ℕ
content_len text = if is_closed false text then Some (length (content false text)) else None

-- no control character of ASCII
abbrev pub is_plain : ℕ → Bool
is_plain byte = nat_le 32 byte && not (byte == 127)

-- whether it says plain bytes alone
abbrev pub says_plain : List ℕ → Bool
says_plain text = list_all is_plain (content false text)

-- how many bytes the quoted text has, with its closing quote
abbrev pub quoted_len : Bool → List ℕ → ℕ
quoted_len false [] = 0
quoted_len true [] = 0
quoted_len false (c ∷ cs) = 1 + (if is_quote c then quoted_len true cs else quoted_len false cs)
quoted_len true (c ∷ cs) = if is_quote c then 1 + quoted_len false cs else 0

-- the token that bytes without blanks in front begin with, and how many bytes it has
unfoldable pub token_of : List ℕ → Token
token_of [] = End
token_of (c ∷ cs) =
    if begins_word c then Word (map to_ascii_lowercase (take_while continues_word (c ∷ cs)))
    else (if is_ascii_digit c then Number (number_of (take_while is_ascii_digit (c ∷ cs)))
    else (if is_quote c then Quoted (content false cs) (is_closed false cs)
    else mark_of (mark_len (c ∷ cs)) (c ∷ cs)))

unfoldable pub token_len : List ℕ → ℕ
token_len [] = 0
token_len (c ∷ cs) =
    if begins_word c then prefix_len continues_word (c ∷ cs)
    else (if is_ascii_digit c then prefix_len is_ascii_digit (c ∷ cs)
    else (if is_quote c then 1 + quoted_len false cs
    else mark_len (c ∷ cs)))

-- the token that stands first
unfoldable pub token_at : List ℕ → Token
token_at text = token_of (after_blanks text)

-- how many bytes are left from its first byte on
unfoldable pub left_at : List ℕ → ℕ
left_at text = length (after_blanks text)

-- what follows it
unfoldable pub behind : List ℕ → List ℕ
behind text = let begun = after_blanks text in drop (token_len begun) begun

-- whether a token is this word, or this mark
abbrev pub says_word : List ℕ → Token → Bool
says_word word (Word letters) = bytes_eq letters word
says_word word (Mark mark) = false
says_word word (Number number) = false
says_word word (Quoted text closed) = false
says_word word Strange = false
says_word word End = false

abbrev pub says_mark : List ℕ → Token → Bool
says_mark mark (Word letters) = false
says_mark mark (Mark bytes) = bytes_eq bytes mark
says_mark mark (Number number) = false
says_mark mark (Quoted text closed) = false
says_mark mark Strange = false
says_mark mark End = false

-- whether a byte is this one of a word in small letters
abbrev pub spells : ℕ → ℕ → Bool
spells byte small = continues_word byte && to_ascii_lowercase byte == small

-- whether there is a first byte that passes
abbrev pub first_passes : (ℕ → Bool) → List ℕ → Bool
first_passes p [] = false
first_passes p (c ∷ cs) = p c

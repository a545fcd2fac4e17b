-- What is wrong with a token, by how it suits the place where it stands.
use Rattle.std.specs.Prelude.{ℕ, ◌+◌, Bool, true, false, not, ◌&&◌, ◌||◌, nat_lt, nat_le, List, length, Option, Some, None, if◌then◌else◌}
use Rattle.std.specs.List.{list_all}
use Rattle.acc_base.specs.Numbers.{greatest_i64}
use Rattle.acc_token.specs.Tokens.{Token, Word, Mark, Number, Quoted, Strange, End, is_plain}
use Rattle.acc_lang.specs.declared.error.LangKind.{LangKind}
use Rattle.acc_lang.specs.declared.error.LangKind.TheVariants.{Char, Word as WordKind, Number as NumberKind, Text, Missing, Name, Size, Trailing}
use Rattle.acc_lang.specs.declared.fault.Standing.{Standing}
use Rattle.acc_lang.specs.declared.fault.Standing.TheVariants.{Misplaced, Fits, Unfit, Extra}

-- a word of more than 32 bytes
abbrev pub is_long : Token → Bool
is_long (Word word) = nat_lt 32 (length word)
is_long (Mark mark) = false
is_long (Number number) = false
is_long (Quoted text closed) = false
is_long Strange = false
is_long End = false

-- whether a quoted text says what it may: that of a key, which the flag asks for, 1 to 64 bytes, another one 255 plain bytes at most
abbrev pub has_form : Bool → List ℕ → Bool
has_form true text = nat_le 1 (length text) && nat_le (length text) 64
has_form false text = nat_le (length text) 255 && list_all is_plain text

-- a text without its closing quote, or one that says what it mustn't. The flag tells whether it is measured as that of a key
abbrev pub is_broken : Bool → Token → Bool
is_broken as_key (Word word) = false
is_broken as_key (Mark mark) = false
is_broken as_key (Number number) = false
is_broken as_key (Quoted text closed) = not (closed && has_form as_key text)
is_broken as_key Strange = false
is_broken as_key End = false

-- a number that is more than the limit
abbrev pub exceeds : ℕ → Option ℕ → Bool
exceeds limit None = true
exceeds limit (Some number) = nat_lt limit number

-- a number that without a sign doesn't fit 64 bits
abbrev pub is_large : Token → Bool
is_large (Word word) = false
is_large (Mark mark) = false
is_large (Number number) = exceeds greatest_i64 number
is_large (Quoted text closed) = false
is_large Strange = false
is_large End = false

abbrev pub is_extra : Standing → Bool
is_extra Misplaced = false
is_extra Fits = false
is_extra Unfit = false
is_extra Extra = true

abbrev pub is_unfit : Standing → Bool
is_unfit Misplaced = false
is_unfit Fits = false
is_unfit Unfit = true
is_unfit Extra = false

abbrev pub is_misplaced : Standing → Bool
is_misplaced Misplaced = true
is_misplaced Fits = false
is_misplaced Unfit = false
is_misplaced Extra = false

-- of all that is wrong with a token, the kind of the greatest number. The flag tells how a quoted text is measured
abbrev pub greatest_fault : Bool → Standing → Token → Option LangKind
greatest_fault as_key standing token =
    if is_extra standing then Some Size
    else (if is_unfit standing || is_long token then Some Name
    else (if is_broken as_key token then Some Text
    else (if is_large token then Some NumberKind
    else (if is_misplaced standing then Some WordKind
    else None))))

-- what is wrong with what stands next, where a token is needed
unfoldable pub fault_of : Bool → Standing → Token → Option LangKind
fault_of as_key standing (Word word) = greatest_fault as_key standing (Word word)
fault_of as_key standing (Mark mark) = greatest_fault as_key standing (Mark mark)
fault_of as_key standing (Number number) = greatest_fault as_key standing (Number number)
fault_of as_key standing (Quoted text closed) = greatest_fault as_key standing (Quoted text closed)
fault_of as_key standing Strange = Some Char
fault_of as_key standing End = Some Missing

-- what is wrong with what stands after a minus sign in front of a number: with its sign it is at least -2^63
unfoldable pub fault_behind_minus : Bool → Token → Option LangKind
fault_behind_minus as_key (Word word) = greatest_fault as_key Misplaced (Word word)
fault_behind_minus as_key (Mark mark) = greatest_fault as_key Misplaced (Mark mark)
fault_behind_minus as_key (Number number) = if exceeds (greatest_i64 + 1) number then Some NumberKind else None
fault_behind_minus as_key (Quoted text closed) = greatest_fault as_key Misplaced (Quoted text closed)
fault_behind_minus as_key Strange = Some Char
fault_behind_minus as_key End = Some Missing

-- what is wrong with what stands after the end
unfoldable pub fault_behind_end : Token → Option LangKind
fault_behind_end (Word word) = Some Trailing
fault_behind_end (Mark mark) = Some Trailing
fault_behind_end (Number number) = Some Trailing
fault_behind_end (Quoted text closed) = Some Trailing
fault_behind_end Strange = Some Char
fault_behind_end End = None

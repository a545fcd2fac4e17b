-- What a body has to keep to, and the first rule that parts break.
use Rattle.std.specs.Prelude.{ℕ, Bool, true, false, not, ◌&&◌, ◌||◌, ◌==◌, nat_lt, nat_le, List, [], ◌∷◌, ◌++◌, length, Option, Some, None, is_none, if◌then◌else◌, IsTrue, ◌≡◌, ⊤}
use Rattle.std.specs.List.{list_any}
use Rattle.std.specs.Str.{bytes_eq}
use Rattle.acc_txn.specs.declared.parts.Let.{Let}
use Rattle.acc_txn.specs.declared.parts.Select.{Select}
use Rattle.acc_txn.specs.declared.parts.Select.TheVariants.{Nothing, Names, Get}
use Rattle.acc_txn.specs.declared.parts.Term.{Term}
use Rattle.acc_txn.specs.declared.parts.Term.TheVariants.{Number, Name, Null, Text}
use Rattle.acc_txn.specs.declared.parts.Part.{Part}
use Rattle.acc_txn.specs.declared.parts.Condition.{Condition}
use Rattle.acc_txn.specs.declared.parts.Condition.TheVariants.{Compare, IsNull, IsNotNull}
use Rattle.acc_txn.specs.declared.parts.Update.{Update}
use Rattle.acc_txn.specs.declared.parts.Update.TheVariants.{Set, Delete}
use Rattle.acc_txn.specs.declared.parts.BodyParts.{BodyParts}
use Rattle.acc_txn.specs.declared.error.BodyError.{BodyError}
use Rattle.acc_txn.specs.declared.error.BodyError.TheVariants.{TooMany, UnboundName, TwiceBound, NoKey, BadWord, BadShape, BadText, OutOfMemory}
use Rattle.acc_txn.specs.Words.{is_name, is_key, is_text_value}
use Rattle.acc_txn.specs.Uses.{selected_keys, updated_key, read_keys, written_keys, footprint_of}

-- more than 16
abbrev pub is_many : ℕ → Bool
is_many count = nat_lt 16 count

-- the names of a select
abbrev pub selected_names : Select → List ℕ
selected_names Nothing = []
selected_names (Names names) = names
selected_names (Get key) = []

-- some expression of a condition, of an update or of a body passes the test
abbrev pub condition_has : (List Part → Bool) → Condition → Bool
condition_has test (Compare op left right) = test left || test right
condition_has test (IsNull name) = false
condition_has test (IsNotNull name) = false

abbrev pub update_has : (List Part → Bool) → Update → Bool
update_has test (Set key value) = test value
update_has test (Delete key) = false

abbrev pub some_expression : (List Part → Bool) → BodyParts → Bool
some_expression test parts = list_any (condition_has test) parts.guards || list_any (update_has test) parts.updates

abbrev pub is_long : List Part → Bool
is_long expr = is_many (length expr)

-- one of the counts is above 16: LETs, selected names, conditions, updates, terms in a sum, keys that differ
abbrev pub has_too_many : BodyParts → Bool
has_too_many parts =
    is_many (length parts.lets) || is_many (length (selected_names parts.select)) || is_many (length parts.guards) || is_many (length parts.updates)
    || some_expression is_long parts || is_many (length (footprint_of parts))

-- no LET has this number
abbrev pub is_unbound : ℕ → ℕ → Bool
is_unbound lets name = nat_le lets name

abbrev pub term_is_unbound : ℕ → Term → Bool
term_is_unbound lets (Number number) = false
term_is_unbound lets (Name name) = is_unbound lets name
term_is_unbound lets Null = false
term_is_unbound lets (Text text) = false

abbrev pub mentions_unbound : ℕ → List Part → Bool
mentions_unbound lets expr = list_any (λ part. term_is_unbound lets part.term) expr

abbrev pub asks_unbound : ℕ → Condition → Bool
asks_unbound lets (Compare op left right) = false
asks_unbound lets (IsNull name) = is_unbound lets name
asks_unbound lets (IsNotNull name) = is_unbound lets name

-- some number names no LET
abbrev pub has_unbound_name : BodyParts → Bool
has_unbound_name parts =
    let lets = length parts.lets in
    list_any (is_unbound lets) (selected_names parts.select) || some_expression (mentions_unbound lets) parts || list_any (asks_unbound lets) parts.guards

-- two LETs have one name
abbrev pub has_name_twice : List Let → Bool
has_name_twice [] = false
has_name_twice (l ∷ lets) = list_any (λ other. bytes_eq l.name other.name) lets || has_name_twice lets

-- there is no key at all
abbrev pub has_no_key : BodyParts → Bool
has_no_key parts = length (read_keys parts ++ written_keys parts) == 0

-- the name of some LET is no name
abbrev pub has_bad_name : List Let → Bool
has_bad_name lets = list_any (λ l. not (is_name l.name)) lets

-- the key of a LET, of the select or of an update has a table that is no name, or a text that has not its form
abbrev pub has_bad_key : BodyParts → Bool
has_bad_key parts =
    list_any (λ l. not (is_key l.key)) parts.lets || list_any (λ key. not (is_key key)) (selected_keys parts.select)
    || list_any (λ update. not (is_key (updated_key update))) parts.updates

-- it is empty or begins with a minus
abbrev pub is_malformed : List Part → Bool
is_malformed [] = true
is_malformed (part ∷ expr) = part.minus

-- a select of names without any
abbrev pub selects_nothing : Select → Bool
selects_nothing Nothing = false
selects_nothing (Names names) = length names == 0
selects_nothing (Get key) = false

-- a malformed expression, a select without items, or conditions without an update
abbrev pub has_bad_shape : BodyParts → Bool
has_bad_shape parts =
    some_expression is_malformed parts || selects_nothing parts.select || (nat_lt 0 (length parts.guards) && length parts.updates == 0)

-- a text that no cell can hold
abbrev pub is_bad_text : Term → Bool
is_bad_text (Number number) = false
is_bad_text (Name name) = false
is_bad_text Null = false
is_bad_text (Text text) = not (is_text_value text)

abbrev pub mentions_bad_text : List Part → Bool
mentions_bad_text expr = list_any (λ part. is_bad_text part.term) expr

-- the first rule that the parts break, in the order of the rules
abbrev pub refusal_of : BodyParts → Option BodyError
refusal_of parts =
    if has_too_many parts then Some TooMany
    else (if has_unbound_name parts then Some UnboundName
    else (if has_name_twice parts.lets then Some TwiceBound
    else (if has_no_key parts then Some NoKey
    else (if has_bad_name parts.lets || has_bad_key parts then Some BadWord
    else (if has_bad_shape parts then Some BadShape
    else (if some_expression mentions_bad_text parts then Some BadText
    else None))))))

-- the parts break no rule
abbrev pub IsBody : BodyParts → Type 0
IsBody parts = IsTrue (is_none (refusal_of parts))

-- the parts are refused with this error. Want of memory may come at any parts
abbrev pub IsRefused : BodyParts → BodyError → Type 0
IsRefused parts TooMany = refusal_of parts ≡ Some TooMany
IsRefused parts UnboundName = refusal_of parts ≡ Some UnboundName
IsRefused parts TwiceBound = refusal_of parts ≡ Some TwiceBound
IsRefused parts NoKey = refusal_of parts ≡ Some NoKey
IsRefused parts BadWord = refusal_of parts ≡ Some BadWord
IsRefused parts BadShape = refusal_of parts ≡ Some BadShape
IsRefused parts BadText = refusal_of parts ≡ Some BadText
IsRefused parts OutOfMemory = ⊤

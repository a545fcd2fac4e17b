-- What a body means on cells.
use Rattle.std.specs.Prelude.{ℕ, Bool, true, false, not, ◌&&◌, List, [], ◌∷◌, map, ℤ, pos, negsuc, ◌+ℤ◌, ◌-ℤ◌, int_lt, int_le, Option, Some, None, unwrap_or, is_some, is_none, Result, Ok, Err, slice_get, if◌then◌else◌}
use Rattle.std.specs.List.{fold}
use Rattle.std.specs.Ordering.{nat_cmp, int_eq, is_lt}
use Rattle.std.specs.Cmp.Lexicographic.{slice_cmp}
use Rattle.std.specs.Str.{bytes_eq}
use Rattle.acc_base.specs.Numbers.{greatest_i64}
use Rattle.acc_value.specs.declared.key.Key.{Key}
use Rattle.acc_value.specs.declared.value.Value.{Value}
use Rattle.acc_value.specs.declared.value.Value.TheVariants.{Number as NumberValue, Text as TextValue}
use Rattle.acc_value.specs.Pairs.{put}
use Rattle.acc_txn.specs.declared.parts.Let.{Let}
use Rattle.acc_txn.specs.declared.parts.Select.{Select}
use Rattle.acc_txn.specs.declared.parts.Select.TheVariants.{Nothing, Names, Get}
use Rattle.acc_txn.specs.declared.parts.Operator.{Operator}
use Rattle.acc_txn.specs.declared.parts.Operator.TheVariants.{Equal, Differs, Less, AtMost, More, AtLeast}
use Rattle.acc_txn.specs.declared.parts.Term.{Term}
use Rattle.acc_txn.specs.declared.parts.Term.TheVariants.{Number, Name, Null, Text}
use Rattle.acc_txn.specs.declared.parts.Part.{Part}
use Rattle.acc_txn.specs.declared.parts.Condition.{Condition}
use Rattle.acc_txn.specs.declared.parts.Condition.TheVariants.{Compare, IsNull, IsNotNull}
use Rattle.acc_txn.specs.declared.parts.Update.{Update}
use Rattle.acc_txn.specs.declared.parts.Update.TheVariants.{Set, Delete}
use Rattle.acc_txn.specs.declared.parts.BodyParts.{BodyParts}
use Rattle.acc_txn.specs.declared.outcome.Verdict.TheVariants.{Ok as Done, Skipped, Overflow as TooBig}
use Rattle.acc_txn.specs.declared.outcome.Outcome.{Outcome}
use Rattle.acc_txn.specs.declared.evaluate.Overflow.{Overflow}
use Rattle.acc_txn.specs.Uses.{updated_key}

-- the cells that the names of a body stand for, in the order of its LETs
abbrev pub bound_cells : List Let → (Key → Option Value) → List (Option Value)
bound_cells lets cells = map (λ l. cells l.key) lets

-- the cell of a name, by its number
abbrev pub named : List (Option Value) → ℕ → Option Value
named bound name = unwrap_or (slice_get bound name) None

abbrev pub term_cell : List (Option Value) → Term → Option Value
term_cell bound (Number number) = Some (NumberValue number)
term_cell bound (Name name) = named bound name
term_cell bound Null = None
term_cell bound (Text text) = Some (TextValue text)

-- ---- sums

abbrev pub in_64_bits : ℤ → Bool
in_64_bits number = int_le (negsuc greatest_i64) number && int_le number (pos greatest_i64)

-- what a cell adds to a sum: null and a text make it null
abbrev pub summand : Option Value → Option ℤ
summand None = None
summand (Some (NumberValue number)) = Some number
summand (Some (TextValue text)) = None

-- a partial sum, which has to fit 64 bits
abbrev pub fitting : ℤ → Result (Option ℤ) Overflow
fitting number = if in_64_bits number then Ok (Some number) else Err (record {})

-- a partial sum with one term more: null where either is
abbrev pub plus : Option ℤ → Bool → Option ℤ → Result (Option ℤ) Overflow
plus None minus term = Ok None
plus (Some so_far) minus None = Ok None
plus (Some so_far) minus (Some number) = fitting (if minus then so_far -ℤ number else so_far +ℤ number)

abbrev pub and_plus : List (Option Value) → Result (Option ℤ) Overflow → Part → Result (Option ℤ) Overflow
and_plus bound (Err error) part = Err error
and_plus bound (Ok so_far) part = plus so_far part.minus (summand (term_cell bound part.term))

-- the sum of a first term and the others, from the left
abbrev pub total_of : List (Option Value) → Part → List Part → Result (Option ℤ) Overflow
total_of bound first rest = fold (and_plus bound) (Ok (summand (term_cell bound first.term))) rest

abbrev pub as_cell : Result (Option ℤ) Overflow → Result (Option Value) Overflow
as_cell (Err error) = Err error
as_cell (Ok None) = Ok None
as_cell (Ok (Some number)) = Ok (Some (NumberValue number))

-- an expression: one term stands for its own value, and several for their sum
abbrev pub sum_of : List (Option Value) → List Part → Result (Option Value) Overflow
sum_of bound [] = Ok None
sum_of bound (first ∷ []) = Ok (term_cell bound first.term)
sum_of bound (first ∷ second ∷ rest) = as_cell (total_of bound first (second ∷ rest))

-- ---- comparisons

abbrev pub compares : Operator → ℤ → ℤ → Bool
compares Equal a b = int_eq a b
compares Differs a b = not (int_eq a b)
compares Less a b = int_lt a b
compares AtMost a b = int_le a b
compares More a b = int_lt b a
compares AtLeast a b = int_le b a

-- the first text stands before the second, byte by byte
abbrev pub text_lt : List ℕ → List ℕ → Bool
text_lt a b = is_lt (slice_cmp nat_cmp a b)

abbrev pub compares_texts : Operator → List ℕ → List ℕ → Bool
compares_texts Equal a b = bytes_eq a b
compares_texts Differs a b = not (bytes_eq a b)
compares_texts Less a b = text_lt a b
compares_texts AtMost a b = not (text_lt b a)
compares_texts More a b = text_lt b a
compares_texts AtLeast a b = not (text_lt a b)

-- no comparison of a text and a number holds
abbrev pub compares_values : Operator → Value → Value → Bool
compares_values op (NumberValue a) (NumberValue b) = compares op a b
compares_values op (TextValue a) (TextValue b) = compares_texts op a b
compares_values op (NumberValue a) (TextValue b) = false
compares_values op (TextValue a) (NumberValue b) = false

-- a comparison with null is false
abbrev pub compares_cells : Operator → Option Value → Option Value → Bool
compares_cells op None right = false
compares_cells op (Some a) None = false
compares_cells op (Some a) (Some b) = compares_values op a b

-- the right side is summed even where the left one is null
abbrev pub compared : Operator → Result (Option Value) Overflow → Result (Option Value) Overflow → Result Bool Overflow
compared op (Err error) right = Err error
compared op (Ok left) (Err error) = Err error
compared op (Ok left) (Ok right) = Ok (compares_cells op left right)

abbrev pub condition_holds : List (Option Value) → Condition → Result Bool Overflow
condition_holds bound (Compare op left right) = compared op (sum_of bound left) (sum_of bound right)
condition_holds bound (IsNull name) = Ok (is_none (named bound name))
condition_holds bound (IsNotNull name) = Ok (is_some (named bound name))

-- a condition and those after it, which count only where it holds
abbrev pub and_then : Result Bool Overflow → Result Bool Overflow → Result Bool Overflow
and_then (Err error) behind = Err error
and_then (Ok false) behind = Ok false
and_then (Ok true) behind = behind

-- whether all conditions hold, up to the first that doesn't
abbrev pub all_hold : List (Option Value) → List Condition → Result Bool Overflow
all_hold bound [] = Ok true
all_hold bound (guard ∷ guards) = and_then (condition_holds bound guard) (all_hold bound guards)

-- the cell that an update gives its key
abbrev pub updated_cell : List (Option Value) → Update → Result (Option Value) Overflow
updated_cell bound (Set key value) = sum_of bound value
updated_cell bound (Delete key) = Ok None

abbrev pub with_key : Key → Result (Option Value) Overflow → Result (Key × Option Value) Overflow
with_key key (Ok cell) = Ok (key, cell)
with_key key (Err error) = Err error

-- the write that an update asks for
abbrev pub write_of : List (Option Value) → Update → Result (Key × Option Value) Overflow
write_of bound update = with_key (updated_key update) (updated_cell bound update)

abbrev pub in_front : Result (Key × Option Value) Overflow → Result (List (Key × Option Value)) Overflow → Result (List (Key × Option Value)) Overflow
in_front (Err error) later = Err error
in_front (Ok write) (Err error) = Err error
in_front (Ok write) (Ok later) = Ok (write ∷ later)

-- the writes of the updates, in their order
abbrev pub writes_of : List (Option Value) → List Update → Result (List (Key × Option Value)) Overflow
writes_of bound [] = Ok []
writes_of bound (update ∷ updates) = in_front (write_of bound update) (writes_of bound updates)

-- the writes sorted by key, of which the last to each key counts
abbrev pub last_of_each : List (Key × Option Value) → List (Key × Option Value)
last_of_each writes = fold (λ so_far write. put so_far write.0 write.1) [] writes

abbrev pub final : Result (List (Key × Option Value)) Overflow → Result (List (Key × Option Value)) Overflow
final (Err error) = Err error
final (Ok writes) = Ok (last_of_each writes)

abbrev pub selected : List (Option Value) → (Key → Option Value) → Select → List (Option Value)
selected bound cells Nothing = []
selected bound cells (Names names) = map (named bound) names
selected bound cells (Get key) = cells key ∷ []

abbrev pub overflowed : Outcome
overflowed = record { reply = record { verdict = TooBig; values = [] }; writes = [] }

abbrev pub skipped : List (Option Value) → Outcome
skipped values = record { reply = record { verdict = Skipped; values = values }; writes = [] }

abbrev pub done : List (Option Value) → Result (List (Key × Option Value)) Overflow → Outcome
done values (Err error) = overflowed
done values (Ok writes) = record { reply = record { verdict = Done; values = values }; writes = writes }

abbrev pub decided : List (Option Value) → Result Bool Overflow → Result (List (Key × Option Value)) Overflow → Outcome
decided values (Err error) writes = overflowed
decided values (Ok false) writes = skipped values
decided values (Ok true) writes = done values (final writes)

-- the outcome of a body whose names stand for these cells
abbrev pub outcome_with : List (Option Value) → BodyParts → (Key → Option Value) → Outcome
outcome_with bound parts cells =
    decided (selected bound cells parts.select) (all_hold bound parts.guards) (writes_of bound parts.updates)

-- the outcome of a body on these cells: all reads see them as they were before
abbrev pub outcome_of : BodyParts → (Key → Option Value) → Outcome
outcome_of parts cells = outcome_with (bound_cells parts.lets cells) parts cells

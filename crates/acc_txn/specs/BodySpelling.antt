-- The spelling of bodies.
use Rattle.std.specs.Prelude.{ℕ, Bool, List, ◌++◌, length, if◌then◌else◌}
use Rattle.std.specs.List.{flat_map}
use Rattle.acc_wire.specs.Spelling.{u8_bytes, i64_bytes, text_bytes}
use Rattle.acc_value.specs.declared.key.Key.{Key}
use Rattle.acc_txn.specs.declared.parts.Let.{Let}
use Rattle.acc_txn.specs.declared.parts.Select.{Select}
use Rattle.acc_txn.specs.declared.parts.Select.TheVariants.{Nothing, Names, Get}
use Rattle.acc_txn.specs.declared.parts.Operator.{Operator}
use Rattle.acc_txn.specs.declared.parts.Operator.TheVariants.{Equal, Differs, Less, AtMost, More, AtLeast}
use Rattle.acc_txn.specs.declared.parts.Term.{Term}
use Rattle.acc_txn.specs.declared.parts.Term.TheVariants.{Number, Name, Null, Text}
use Rattle.acc_txn.specs.declared.parts.Part.{Part}
use Rattle.acc_txn.specs.declared.parts.Condition.{Condition}
use Rattle.acc_txn.specs.declared.parts.Condition.TheVariants.{Compare, IsNull, IsNotNull}
use Rattle.acc_txn.specs.declared.parts.Update.{Update}
use Rattle.acc_txn.specs.declared.parts.Update.TheVariants.{Set, Delete}
use Rattle.acc_txn.specs.declared.parts.BodyParts.{BodyParts}

-- a list is its count in one byte, and its elements
unfoldable pub listed : {A : Type 0} → (A → List ℕ) → List A → List ℕ
listed spelling xs = u8_bytes (length xs) ++ flat_map spelling xs

-- a key is its table and its text
unfoldable pub key_bytes : Key → List ℕ
key_bytes key = text_bytes key.table ++ text_bytes key.key

unfoldable pub let_bytes : Let → List ℕ
let_bytes l = text_bytes l.name ++ key_bytes l.key

-- a select is 0, or 1 and the numbers of LETs, or 2 and a key
unfoldable pub select_bytes : Select → List ℕ
select_bytes Nothing = u8_bytes 0
select_bytes (Names names) = u8_bytes 1 ++ listed u8_bytes names
select_bytes (Get key) = u8_bytes 2 ++ key_bytes key

-- a term is 0 and a number, or 1 and the number of a LET, or 2 for null, or 3 and a text
unfoldable pub term_bytes : Term → List ℕ
term_bytes (Number number) = u8_bytes 0 ++ i64_bytes number
term_bytes (Name name) = u8_bytes 1 ++ u8_bytes name
term_bytes Null = u8_bytes 2
term_bytes (Text text) = u8_bytes 3 ++ text_bytes text

-- a sign is 0 for plus, and 1 for minus
abbrev pub sign_number : Bool → ℕ
sign_number minus = if minus then 1 else 0

unfoldable pub part_bytes : Part → List ℕ
part_bytes part = u8_bytes (sign_number part.minus) ++ term_bytes part.term

unfoldable pub sum_bytes : List Part → List ℕ
sum_bytes parts = listed part_bytes parts

abbrev pub operator_number : Operator → ℕ
operator_number Equal = 1
operator_number Differs = 2
operator_number Less = 3
operator_number AtMost = 4
operator_number More = 5
operator_number AtLeast = 6

-- a condition is its operator and two sums, or 7 (IS NULL) or 8 (IS NOT NULL) and the number of a LET
unfoldable pub condition_bytes : Condition → List ℕ
condition_bytes (Compare op left right) = u8_bytes (operator_number op) ++ sum_bytes left ++ sum_bytes right
condition_bytes (IsNull name) = u8_bytes 7 ++ u8_bytes name
condition_bytes (IsNotNull name) = u8_bytes 8 ++ u8_bytes name

-- an update is 1, its key and its sum, or 2 and its key
unfoldable pub update_bytes : Update → List ℕ
update_bytes (Set key value) = u8_bytes 1 ++ key_bytes key ++ sum_bytes value
update_bytes (Delete key) = u8_bytes 2 ++ key_bytes key

unfoldable pub body_bytes : BodyParts → List ℕ
body_bytes parts =
    listed let_bytes parts.lets ++ select_bytes parts.select ++ listed condition_bytes parts.guards ++ listed update_bytes parts.updates

-- Reading a body. A field that would break a rule of bodies is out of range.
use Rattle.std.specs.Prelude.{ℕ, zero, suc, Bool, true, false, not, ◌||◌, ◌==◌, List, [], ◌∷◌, length, map, Option, Some, None, Ok, nat_lt, if◌then◌else◌}
use Rattle.std.specs.List.{list_any}
use Rattle.std.specs.Str.{bytes_eq}
use Rattle.acc_wire.specs.Reading.{Unread, Read, ◌>>=◌, u8_at, i64_at, text_at}
use Rattle.acc_value.specs.declared.key.Key.{Key}
use Rattle.acc_value.specs.Key.{key_eq}
use Rattle.acc_value.specs.Footprint.{used}
use Rattle.acc_txn.specs.declared.parts.Let.{Let}
use Rattle.acc_txn.specs.declared.parts.Select.{Select}
use Rattle.acc_txn.specs.declared.parts.Select.TheVariants.{Nothing, Names, Get}
use Rattle.acc_txn.specs.declared.parts.Operator.{Operator}
use Rattle.acc_txn.specs.declared.parts.Operator.TheVariants.{Equal, Differs, Less, AtMost, More, AtLeast}
use Rattle.acc_txn.specs.declared.parts.Term.{Term}
use Rattle.acc_txn.specs.declared.parts.Term.TheVariants.{Number, Name, Null, Text}
use Rattle.acc_txn.specs.declared.parts.Part.{Part}
use Rattle.acc_txn.specs.declared.parts.Condition.{Condition}
use Rattle.acc_txn.specs.declared.parts.Condition.TheVariants.{Compare, IsNull, IsNotNull}
use Rattle.acc_txn.specs.declared.parts.Update.{Update}
use Rattle.acc_txn.specs.declared.parts.Update.TheVariants.{Set, Delete}
use Rattle.acc_txn.specs.declared.parts.BodyParts.{BodyParts}
use Rattle.acc_txn.specs.Words.{is_name, is_key_text}
use Rattle.acc_txn.specs.Uses.{selected_keys, updated_key, with_keys}
use Rattle.acc_txn.specs.Rules.{is_many, has_no_key}
use Rattle.acc_code.specs.CellReading.{text_value_at}
use Rattle.acc_code.specs.Reading.{passing, between_at, listed_at}

-- ---- keys

-- a word that may name a LET or a table
unfoldable pub word_at : Unread → Read (List ℕ)
word_at u = passing is_name text_at u

-- a text that may be a key's
unfoldable pub key_text_at : Unread → Read (List ℕ)
key_text_at u = passing is_key_text text_at u

unfoldable pub key_at : Unread → Read Key
key_at u = do
  table ← word_at u
  key ← key_text_at table.1
  Ok (record { table = table.0; key = key.0 }, key.1)

-- a key that is read or written after these uses, and isn't the seventeenth distinct one
unfoldable pub use_at : List (Key × Bool) → Bool → Unread → Read Key
use_at uses writes u = passing (λ key. not (is_many (length (used uses key writes)))) key_at u

-- ---- LETs

-- the uses of the keys of LETs
abbrev pub let_uses : List Let → List (Key × Bool)
let_uses lets = with_keys false [] (map (λ l. l.key) lets)

-- a name that no LET before has
unfoldable pub new_name_at : List Let → Unread → Read (List ℕ)
new_name_at front u = passing (λ name. not (list_any (λ l. bytes_eq l.name name) front)) word_at u

unfoldable pub let_at : List Let → Unread → Read Let
let_at front u = do
  name ← new_name_at front u
  key ← use_at (let_uses front) false name.1
  Ok (record { name = name.0; key = key.0 }, key.1)

unfoldable pub lets_at : Unread → Read (List Let)
lets_at u = listed_at 0 16 let_at u

-- ---- the select

-- the number of one of so many LETs
unfoldable pub let_number_at : ℕ → Unread → Read ℕ
let_number_at lets u = passing (λ name. nat_lt name lets) u8_at u

-- what stands after the first byte of a select
abbrev pub select_behind : List Let → ℕ → Unread → Read Select
select_behind lets zero u = Ok (Nothing, u)
select_behind lets (suc zero) u = do
  names ← listed_at 1 16 (λ _. let_number_at (length lets)) u
  Ok (Names names.0, names.1)
select_behind lets (suc (suc _)) u = do
  key ← use_at (let_uses lets) false u
  Ok (Get key.0, key.1)

unfoldable pub select_at : List Let → Unread → Read Select
select_at lets u = do
  tag ← between_at 0 2 u
  select_behind lets tag.0 tag.1

-- ---- sums

abbrev pub term_behind : ℕ → ℕ → Unread → Read Term
term_behind lets zero u = do
  number ← i64_at u
  Ok (Number number.0, number.1)
term_behind lets (suc zero) u = do
  name ← let_number_at lets u
  Ok (Name name.0, name.1)
term_behind lets (suc (suc zero)) u = Ok (Null, u)
term_behind lets (suc (suc (suc _))) u = do
  text ← text_value_at u
  Ok (Text text.0, text.1)

unfoldable pub term_at : ℕ → Unread → Read Term
term_at lets u = do
  tag ← between_at 0 3 u
  term_behind lets tag.0 tag.1

-- the first term has no minus
abbrev pub greatest_sign : List Part → ℕ
greatest_sign [] = 0
greatest_sign (_ ∷ _) = 1

unfoldable pub part_at : ℕ → List Part → Unread → Read Part
part_at lets front u = do
  sign ← between_at 0 (greatest_sign front) u
  term ← term_at lets sign.1
  Ok (record { minus = sign.0 == 1; term = term.0 }, term.1)

unfoldable pub sum_at : ℕ → Unread → Read (List Part)
sum_at lets u = listed_at 1 16 (part_at lets) u

-- ---- conditions

abbrev pub operator_of : ℕ → Option Operator
operator_of number =
    if number == 1 then Some Equal
    else (if number == 2 then Some Differs
    else (if number == 3 then Some Less
    else (if number == 4 then Some AtMost
    else (if number == 5 then Some More
    else (if number == 6 then Some AtLeast
    else None)))))

-- a test for null, IS NULL where the number before it is 7 and IS NOT NULL where it is 8
abbrev pub null_test : ℕ → ℕ → Condition
null_test number name = if number == 7 then IsNull name else IsNotNull name

abbrev pub condition_behind : ℕ → ℕ → Option Operator → Unread → Read Condition
condition_behind lets number (Some op) u = do
  left ← sum_at lets u
  right ← sum_at lets left.1
  Ok (Compare op left.0 right.0, right.1)
condition_behind lets number None u = do
  name ← let_number_at lets u
  Ok (null_test number name.0, name.1)

unfoldable pub condition_at : ℕ → Unread → Read Condition
condition_at lets u = do
  number ← between_at 1 8 u
  condition_behind lets number.0 (operator_of number.0) number.1

-- no condition stands for no IF
unfoldable pub conditions_at : ℕ → Unread → Read (List Condition)
conditions_at lets u = listed_at 0 16 (λ _. condition_at lets) u

-- ---- updates

-- what stands after the key of an update, which sets it or else deletes it
abbrev pub update_with : ℕ → Key → Bool → Unread → Read Update
update_with lets key true u = do
  value ← sum_at lets u
  Ok (Set key value.0, value.1)
update_with lets key false u = Ok (Delete key, u)

-- an update after these uses of keys
unfoldable pub update_at : ℕ → List (Key × Bool) → Unread → Read Update
update_at lets uses u = do
  number ← between_at 1 2 u
  key ← use_at uses true number.1
  update_with lets key.0 (number.0 == 1) key.1

-- an update after others, where the LETs and the select use these keys
abbrev pub next_update_at : ℕ → List (Key × Bool) → List Update → Unread → Read Update
next_update_at lets uses front u = update_at lets (with_keys true uses (map updated_key front)) u

-- after a condition stands an update
abbrev pub least_updates : List Condition → ℕ
least_updates [] = 0
least_updates (_ ∷ _) = 1

unfoldable pub updates_at : ℕ → List (Key × Bool) → ℕ → Unread → Read (List Update)
updates_at lets uses least u = listed_at least 16 (next_update_at lets uses) u

-- ---- bodies

-- the uses of the keys of LETs and of a select
abbrev pub read_uses : List Let → Select → List (Key × Bool)
read_uses lets select = with_keys false (let_uses lets) (selected_keys select)

-- and of updates
abbrev pub uses_so_far : List Let → Select → List Update → List (Key × Bool)
uses_so_far lets select updates = with_keys true (read_uses lets select) (map updated_key updates)

-- whether a key is among them
abbrev pub is_among : List Let → Select → List Update → Key → Bool
is_among lets select updates key =
    list_any (λ l. key_eq key l.key) lets || list_any (key_eq key) (selected_keys select) || list_any (λ u. key_eq key (updated_key u)) updates

unfoldable pub parts_at : Unread → Read BodyParts
parts_at u = do
  lets ← lets_at u
  select ← select_at lets.0 lets.1
  guards ← conditions_at (length lets.0) select.1
  updates ← updates_at (length lets.0) (read_uses lets.0 select.0) (least_updates guards.0) guards.1
  Ok (record { lets = lets.0; select = select.0; guards = guards.0; updates = updates.0 }, updates.1)

-- a body has a key
unfoldable pub body_at : Unread → Read BodyParts
body_at u = passing (λ parts. not (has_no_key parts)) parts_at u

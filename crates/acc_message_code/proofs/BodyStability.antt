-- Bodies, cells and outcomes: more after them changes no answer other than that the bytes are too short.
use Rattle.std.proofs.Common.{ℕ, ℤ, zero, suc, Bool, true, false, not, List, length, Option, Some, None}
use Rattle.std.specs.Prelude.{◌==◌, nat_lt}
use Rattle.std.specs.List.{list_any, list_all}
use Rattle.std.specs.Str.{bytes_eq}
use Rattle.acc_value.specs.declared.key.Key.{Key}
use Rattle.acc_value.specs.declared.value.Value.{Value}
use Rattle.acc_value.specs.declared.value.Value.TheVariants.{Number as NumberValue, Text as TextValue}
use Rattle.acc_value.specs.Key.{key_lt}
use Rattle.acc_value.specs.Footprint.{used}
use Rattle.acc_txn.specs.declared.parts.Let.{Let}
use Rattle.acc_txn.specs.declared.parts.Select.{Select}
use Rattle.acc_txn.specs.declared.parts.Select.TheVariants.{Nothing, Names, Get}
use Rattle.acc_txn.specs.declared.parts.Term.TheVariants.{Number, Name, Null, Text}
use Rattle.acc_txn.specs.declared.parts.Part.{Part}
use Rattle.acc_txn.specs.declared.parts.Operator.{Operator}
use Rattle.acc_txn.specs.declared.parts.Condition.{Condition}
use Rattle.acc_txn.specs.declared.parts.Condition.TheVariants.{Compare}
use Rattle.acc_txn.specs.declared.parts.Update.{Update}
use Rattle.acc_txn.specs.declared.parts.Update.TheVariants.{Set, Delete}
use Rattle.acc_txn.specs.declared.parts.BodyParts.{BodyParts}
use Rattle.acc_txn.specs.declared.outcome.Outcome.{Outcome}
use Rattle.acc_txn.specs.Words.{is_name, is_key_text, is_text_value}
use Rattle.acc_txn.specs.Rules.{is_many, has_no_key}
use Rattle.acc_code.specs.CellReading.{text_value_at, cell_behind, cell_at, any_key_at, next_key_at, pair_at, cells_at, outcome_at, verdict_of}
use Rattle.acc_code.specs.BodyReading.{word_at, key_text_at, key_at, use_at, let_uses, new_name_at, let_at, lets_at, let_number_at, select_behind, select_at, term_behind, term_at, greatest_sign, part_at, sum_at, operator_of, null_test, condition_behind, condition_at, conditions_at, update_with, update_at, next_update_at, least_updates, updates_at, read_uses, parts_at, body_at}
use Rattle.acc_message_code.proofs.Stability.{IsStable, stable_then, stable_done, stable_passing, u8_stable, i64_stable, text_stable, between_stable, listed_stable}

-- ---- cells and outcomes

text_value_stable : IsStable text_value_at
unfolding text_value_at
text_value_stable = stable_passing is_text_value text_stable

abbrev number_cell : ℤ → Option Value
number_cell number = Some (NumberValue number)

abbrev text_cell : List ℕ → Option Value
text_cell text = Some (TextValue text)

cell_behind_stable : (tag : ℕ) → IsStable (cell_behind tag)
cell_behind_stable zero = stable_done None
cell_behind_stable (suc zero) = stable_then i64_stable (λ number. stable_done (number_cell number))
cell_behind_stable (suc (suc _)) = stable_then text_value_stable (λ text. stable_done (text_cell text))

cell_stable : IsStable cell_at
unfolding cell_at
cell_stable = stable_then (between_stable 0 2) cell_behind_stable

abbrev make_key : List ℕ → List ℕ → Key
make_key table key = record { table = table; key = key }

any_key_stable : IsStable any_key_at
unfolding any_key_at
any_key_stable = stable_then text_stable (λ table. stable_then text_stable (λ key. stable_done (make_key table key)))

next_key_stable : (front : List (Key × Option Value)) → IsStable (next_key_at front)
unfolding next_key_at
next_key_stable front = stable_passing (λ key. list_all (λ p. key_lt p.0 key) front) any_key_stable

pair_stable : (front : List (Key × Option Value)) → IsStable (pair_at front)
unfolding pair_at
pair_stable front = stable_then (next_key_stable front) (λ key. stable_then cell_stable (λ cell. stable_done (key, cell)))

pub cells_stable : IsStable cells_at
unfolding cells_at
cells_stable = listed_stable pair_stable 0 255

abbrev make_outcome : ℕ → List (Option Value) → List (Key × Option Value) → Outcome
make_outcome verdict values writes = record { reply = record { verdict = verdict_of verdict; values = values }; writes = writes }

pub outcome_stable : IsStable outcome_at
unfolding outcome_at
outcome_stable =
    stable_then (between_stable 1 3) (λ verdict.
    stable_then (listed_stable (λ _. cell_stable) 0 255) (λ values.
    stable_then cells_stable (λ writes. stable_done (make_outcome verdict values writes))))

-- ---- keys

word_stable : IsStable word_at
unfolding word_at
word_stable = stable_passing is_name text_stable

key_text_stable : IsStable key_text_at
unfolding key_text_at
key_text_stable = stable_passing is_key_text text_stable

key_stable : IsStable key_at
unfolding key_at
key_stable = stable_then word_stable (λ table. stable_then key_text_stable (λ key. stable_done (make_key table key)))

use_stable : (uses : List (Key × Bool)) (writes : Bool) → IsStable (use_at uses writes)
unfolding use_at
use_stable uses writes = stable_passing (λ key. not (is_many (length (used uses key writes)))) key_stable

-- ---- LETs and the select

new_name_stable : (front : List Let) → IsStable (new_name_at front)
unfolding new_name_at
new_name_stable front = stable_passing (λ name. not (list_any (λ l. bytes_eq l.name name) front)) word_stable

abbrev make_let : List ℕ → Key → Let
make_let name key = record { name = name; key = key }

let_stable : (front : List Let) → IsStable (let_at front)
unfolding let_at
let_stable front = stable_then (new_name_stable front) (λ name. stable_then (use_stable (let_uses front) false) (λ key. stable_done (make_let name key)))

lets_stable : IsStable lets_at
unfolding lets_at
lets_stable = listed_stable let_stable 0 16

name_stable : (lets : ℕ) → IsStable (let_number_at lets)
unfolding let_number_at
name_stable lets = stable_passing (λ name. nat_lt name lets) u8_stable

select_behind_stable : (lets : List Let) (tag : ℕ) → IsStable (select_behind lets tag)
select_behind_stable lets zero = stable_done Nothing
select_behind_stable lets (suc zero) = stable_then (listed_stable (λ _. name_stable (length lets)) 1 16) (λ names. stable_done (Names names))
select_behind_stable lets (suc (suc _)) = stable_then (use_stable (let_uses lets) false) (λ key. stable_done (Get key))

select_stable : (lets : List Let) → IsStable (select_at lets)
unfolding select_at
select_stable lets = stable_then (between_stable 0 2) (select_behind_stable lets)

-- ---- sums and conditions

term_behind_stable : (lets tag : ℕ) → IsStable (term_behind lets tag)
term_behind_stable lets zero = stable_then i64_stable (λ number. stable_done (Number number))
term_behind_stable lets (suc zero) = stable_then (name_stable lets) (λ name. stable_done (Name name))
term_behind_stable lets (suc (suc zero)) = stable_done Null
term_behind_stable lets (suc (suc (suc _))) = stable_then text_value_stable (λ text. stable_done (Text text))

term_stable : (lets : ℕ) → IsStable (term_at lets)
unfolding term_at
term_stable lets = stable_then (between_stable 0 3) (term_behind_stable lets)

part_stable : (lets : ℕ) (front : List Part) → IsStable (part_at lets front)
unfolding part_at
part_stable lets front =
    stable_then (between_stable 0 (greatest_sign front)) (λ sign. stable_then (term_stable lets) (λ term. stable_done (record { minus = sign == 1; term = term })))

sum_stable : (lets : ℕ) → IsStable (sum_at lets)
unfolding sum_at
sum_stable lets = listed_stable (part_stable lets) 1 16

condition_behind_stable : (lets number : ℕ) (op : Option Operator) → IsStable (condition_behind lets number op)
condition_behind_stable lets number (Some op) = stable_then (sum_stable lets) (λ left. stable_then (sum_stable lets) (λ right. stable_done (Compare op left right)))
condition_behind_stable lets number None = stable_then (name_stable lets) (λ name. stable_done (null_test number name))

condition_stable : (lets : ℕ) → IsStable (condition_at lets)
unfolding condition_at
condition_stable lets = stable_then (between_stable 1 8) (λ number. condition_behind_stable lets number (operator_of number))

conditions_stable : (lets : ℕ) → IsStable (conditions_at lets)
unfolding conditions_at
conditions_stable lets = listed_stable (λ _. condition_stable lets) 0 16

-- ---- updates and bodies

update_with_stable : (lets : ℕ) (key : Key) (sets : Bool) → IsStable (update_with lets key sets)
update_with_stable lets key true = stable_then (sum_stable lets) (λ value. stable_done (Set key value))
update_with_stable lets key false = stable_done (Delete key)

update_stable : (lets : ℕ) (uses : List (Key × Bool)) → IsStable (update_at lets uses)
unfolding update_at
update_stable lets uses = stable_then (between_stable 1 2) (λ number. stable_then (use_stable uses true) (λ key. update_with_stable lets key (number == 1)))

updates_stable : (lets : ℕ) (uses : List (Key × Bool)) (least : ℕ) → IsStable (updates_at lets uses least)
unfolding updates_at
updates_stable lets uses least = listed_stable {at = next_update_at lets uses} (λ front. update_stable lets _) least 16

abbrev make_parts : List Let → Select → List Condition → List Update → BodyParts
make_parts lets select guards updates = record { lets = lets; select = select; guards = guards; updates = updates }

parts_stable : IsStable parts_at
unfolding parts_at
parts_stable =
    stable_then lets_stable (λ lets.
    stable_then (select_stable lets) (λ select.
    stable_then (conditions_stable (length lets)) (λ guards.
    stable_then (updates_stable (length lets) (read_uses lets select) (least_updates guards)) (λ updates. stable_done (make_parts lets select guards updates)))))

pub body_stable : IsStable body_at
unfolding body_at
body_stable = stable_passing (λ parts. not (has_no_key parts)) parts_stable

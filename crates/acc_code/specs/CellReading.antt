-- Reading cells, lists of them, and outcomes.
use Rattle.std.specs.Prelude.{ℕ, zero, suc, ◌==◌, List, Option, Some, None, Ok, if◌then◌else◌}
use Rattle.std.specs.List.{list_all}
use Rattle.acc_wire.specs.Reading.{Unread, Read, ◌>>=◌, i64_at, text_at}
use Rattle.acc_value.specs.declared.key.Key.{Key}
use Rattle.acc_value.specs.declared.value.Value.{Value}
use Rattle.acc_value.specs.declared.value.Value.TheVariants.{Number as NumberValue, Text as TextValue}
use Rattle.acc_value.specs.Key.{key_lt}
use Rattle.acc_txn.specs.declared.outcome.Verdict.{Verdict}
use Rattle.acc_txn.specs.declared.outcome.Verdict.TheVariants.{Ok as Done, Skipped, Overflow}
use Rattle.acc_txn.specs.declared.outcome.Outcome.{Outcome}
use Rattle.acc_txn.specs.Words.{is_text_value}
use Rattle.acc_code.specs.Reading.{passing, between_at, listed_at}

-- a text that a cell may hold
unfoldable pub text_value_at : Unread → Read (List ℕ)
text_value_at u = passing is_text_value text_at u

-- what stands after the first byte of a cell
abbrev pub cell_behind : ℕ → Unread → Read (Option Value)
cell_behind zero u = Ok (None, u)
cell_behind (suc zero) u = do
  number ← i64_at u
  Ok (Some (NumberValue number.0), number.1)
cell_behind (suc (suc _)) u = do
  text ← text_value_at u
  Ok (Some (TextValue text.0), text.1)

unfoldable pub cell_at : Unread → Read (Option Value)
cell_at u = do
  tag ← between_at 0 2 u
  cell_behind tag.0 tag.1

-- a key of any texts
unfoldable pub any_key_at : Unread → Read Key
any_key_at u = do
  table ← text_at u
  key ← text_at table.1
  Ok (record { table = table.0; key = key.0 }, key.1)

-- a key that is greater than those of the pairs before it
unfoldable pub next_key_at : List (Key × Option Value) → Unread → Read Key
next_key_at front u = passing (λ key. list_all (λ p. key_lt p.0 key) front) any_key_at u

unfoldable pub pair_at : List (Key × Option Value) → Unread → Read (Key × Option Value)
pair_at front u = do
  key ← next_key_at front u
  cell ← cell_at key.1
  Ok ((key.0, cell.0), cell.1)

-- cells by their keys, which rise
unfoldable pub cells_at : Unread → Read (List (Key × Option Value))
cells_at u = listed_at 0 255 pair_at u

abbrev pub verdict_of : ℕ → Verdict
verdict_of number = if number == 1 then Done else (if number == 2 then Skipped else Overflow)

unfoldable pub outcome_at : Unread → Read Outcome
outcome_at u = do
  verdict ← between_at 1 3 u
  values ← listed_at 0 255 (λ _. cell_at) verdict.1
  writes ← cells_at values.1
  Ok (record { reply = record { verdict = verdict_of verdict.0; values = values.0 }; writes = writes.0 }, writes.1)

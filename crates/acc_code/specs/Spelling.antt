-- The spelling of cells, of lists of them, and of outcomes.
use Rattle.std.specs.Prelude.{ℕ, List, ◌++◌, Option, Some, None}
use Rattle.acc_wire.specs.Spelling.{u8_bytes, i64_bytes, text_bytes}
use Rattle.acc_value.specs.declared.key.Key.{Key}
use Rattle.acc_value.specs.declared.value.Value.{Value}
use Rattle.acc_value.specs.declared.value.Value.TheVariants.{Number as NumberValue, Text as TextValue}
use Rattle.acc_txn.specs.declared.outcome.Verdict.{Verdict}
use Rattle.acc_txn.specs.declared.outcome.Verdict.TheVariants.{Ok as Done, Skipped, Overflow}
use Rattle.acc_txn.specs.declared.outcome.Outcome.{Outcome}
unfoldable pub use Rattle.acc_txn.specs.BodySpelling.{listed, key_bytes}

-- a cell is 0, or 1 and its number, or 2 and its text
unfoldable pub cell_bytes : Option Value → List ℕ
cell_bytes None = u8_bytes 0
cell_bytes (Some (NumberValue number)) = u8_bytes 1 ++ i64_bytes number
cell_bytes (Some (TextValue text)) = u8_bytes 2 ++ text_bytes text

unfoldable pub pair_bytes : Key × Option Value → List ℕ
pair_bytes pair = key_bytes pair.0 ++ cell_bytes pair.1

-- cells by their keys
unfoldable pub cells_bytes : List (Key × Option Value) → List ℕ
cells_bytes pairs = listed pair_bytes pairs

abbrev pub verdict_number : Verdict → ℕ
verdict_number Done = 1
verdict_number Skipped = 2
verdict_number Overflow = 3

-- an outcome is its verdict, the cells that were selected, and the writes
unfoldable pub outcome_bytes : Outcome → List ℕ
outcome_bytes o = u8_bytes (verdict_number o.reply.verdict) ++ listed cell_bytes o.reply.values ++ cells_bytes o.writes

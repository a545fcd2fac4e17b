-- What has a spelling: texts of at most 255 bytes, lists of at most 255 elements, and cells whose texts are such as a cell may
-- hold.
use Rattle.std.specs.Prelude.{List, length, ◌<◌, Option, None, Some, IsTrue}
use Rattle.std.specs.Int.{w64}
use Rattle.std.specs.Int.RustNames.{FitsSigned}
use Rattle.std.specs.List.{AllByRecursion}
use Rattle.acc_value.specs.declared.key.Key.{Key}
use Rattle.acc_value.specs.declared.value.Value.{Value}
use Rattle.acc_value.specs.declared.value.Value.TheVariants.{Number as NumberValue, Text as TextValue}
use Rattle.acc_value.specs.Pairs.{IsRising}
use Rattle.acc_txn.specs.Words.{is_text_value}
use Rattle.acc_txn.specs.declared.outcome.Outcome.{Outcome}
pub use Rattle.acc_txn.specs.Short.{IsShortKey, IsShortLet, IsShortSelect, IsShortTerm, IsShortSum, IsShortCondition, IsShortUpdate, IsShortBody, IsTerm, AreTerms, HasTerms, SetsTerms, IsNumberedBody}

-- the text of a cell, if it has one, is such as a cell may hold
abbrev pub HoldsText : Option Value → Type 0
HoldsText None = Unit {0}
HoldsText (Some (NumberValue number)) = Unit {0}
HoldsText (Some (TextValue text)) = IsTrue (is_text_value text)

pub record AreShortCells (pairs : List (Key × Option Value)) : Type 0 where
  pub count : length pairs < 256
  pub keys : AllByRecursion (λ p. IsShortKey p.0) pairs
  pub texts : AllByRecursion (λ p. HoldsText p.1) pairs

pub record IsShortOutcome (o : Outcome) : Type 0 where
  pub values : length o.reply.values < 256
  pub texts : AllByRecursion HoldsText o.reply.values
  pub writes : AreShortCells o.writes

-- ---- numbers of 64 bits, and texts that a cell may hold

abbrev pub IsCell : Option Value → Type 0
IsCell None = Unit {0}
IsCell (Some (NumberValue number)) = FitsSigned w64 number
IsCell (Some (TextValue text)) = IsTrue (is_text_value text)

-- a list of cells that has a spelling
pub record AreCells (pairs : List (Key × Option Value)) : Type 0 where
  pub short : AreShortCells pairs
  pub cells : AllByRecursion (λ p. IsCell p.1) pairs
  pub rises : IsRising pairs

-- an outcome that has a spelling
pub record IsOutcome (o : Outcome) : Type 0 where
  pub count : length o.reply.values < 256
  pub values : AllByRecursion IsCell o.reply.values
  pub writes : AreCells o.writes

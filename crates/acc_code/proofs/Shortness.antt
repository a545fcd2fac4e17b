-- What fits the format has a spelling: what was read can be written again.
use Rattle.std.proofs.Common.{List, [], ◌∷◌, Option, None, Some}
use Rattle.std.specs.List.{AllByRecursion}
use Rattle.acc_value.specs.declared.value.Value.{Value}
use Rattle.acc_value.specs.declared.value.Value.TheVariants.{Number as NumberValue, Text as TextValue}
use Rattle.acc_txn.specs.declared.outcome.Outcome.{Outcome}
pub use Rattle.acc_txn.proofs.BodyShortness.{short_text}
use Rattle.acc_code.specs.Short.{HoldsText, IsCell, IsShortOutcome, IsOutcome}

pub text_of_cell : (cell : Option Value) → IsCell cell → HoldsText cell
text_of_cell None h = tt
text_of_cell (Some (NumberValue number)) h = tt
text_of_cell (Some (TextValue text)) h = h

pub texts_of_cells : (cells : List (Option Value)) → AllByRecursion IsCell cells → AllByRecursion HoldsText cells
texts_of_cells [] h = tt
texts_of_cells (cell ∷ cells) h = (text_of_cell cell h.0, texts_of_cells cells h.1)

pub short_outcome : (o : Outcome) → IsOutcome o → IsShortOutcome o
short_outcome o fits = record { values = fits.count; texts = texts_of_cells o.reply.values fits.values; writes = fits.writes.short }

use Rattle.acc_examples.proofs.RowsSafe.{four_of_five-safe}
use Rattle.acc_examples.proofs.Computed.{four_of_five-notes, four_of_five-serial, four_of_five-outcomes, four_of_five-bodies}
use Rattle.acc_examples.proofs.rows.four_of_five.Goals as goal

pub returns : goal.returns
returns c = record { notes = four_of_five-notes; serial = four_of_five-serial; outcomes = four_of_five-outcomes; bodies = four_of_five-bodies; safe = four_of_five-safe }

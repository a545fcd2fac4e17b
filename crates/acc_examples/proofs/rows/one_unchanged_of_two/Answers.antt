use Rattle.acc_examples.proofs.RowsSafe.{one_unchanged_of_two-safe}
use Rattle.acc_examples.proofs.Computed.{one_unchanged_of_two-notes, one_unchanged_of_two-serial, one_unchanged_of_two-outcomes, one_unchanged_of_two-bodies}
use Rattle.acc_examples.proofs.rows.one_unchanged_of_two.Goals as goal

pub returns : goal.returns
returns c = record { notes = one_unchanged_of_two-notes; serial = one_unchanged_of_two-serial; outcomes = one_unchanged_of_two-outcomes; bodies = one_unchanged_of_two-bodies; safe = one_unchanged_of_two-safe }

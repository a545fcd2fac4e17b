use Rattle.acc_examples.proofs.RowsSafe.{one_update-safe}
use Rattle.acc_examples.proofs.Computed.{one_update-notes, one_update-serial, one_update-outcomes, one_update-bodies}
use Rattle.acc_examples.proofs.rows.one_update.Goals as goal

pub returns : goal.returns
returns c = record { notes = one_update-notes; serial = one_update-serial; outcomes = one_update-outcomes; bodies = one_update-bodies; safe = one_update-safe }

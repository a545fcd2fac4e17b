use Rattle.acc_examples.proofs.RowsSafe.{silent_until_applied-safe}
use Rattle.acc_examples.proofs.Computed.{silent_until_applied-notes, silent_until_applied-serial, silent_until_applied-outcomes, silent_until_applied-bodies}
use Rattle.acc_examples.proofs.rows.silent_until_applied.Goals as goal

pub returns : goal.returns
returns c = record { notes = silent_until_applied-notes; serial = silent_until_applied-serial; outcomes = silent_until_applied-outcomes; bodies = silent_until_applied-bodies; safe = silent_until_applied-safe }

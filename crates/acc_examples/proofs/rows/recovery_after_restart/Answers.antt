use Rattle.acc_examples.proofs.RowsSafe.{recovery_after_restart-safe}
use Rattle.acc_examples.proofs.Computed.{recovery_after_restart-notes, recovery_after_restart-serial, recovery_after_restart-outcomes, recovery_after_restart-bodies}
use Rattle.acc_examples.proofs.rows.recovery_after_restart.Goals as goal

pub returns : goal.returns
returns c = record { notes = recovery_after_restart-notes; serial = recovery_after_restart-serial; outcomes = recovery_after_restart-outcomes; bodies = recovery_after_restart-bodies; safe = recovery_after_restart-safe }

use Rattle.acc_examples.proofs.RowsSafe.{blocked_recovery-safe}
use Rattle.acc_examples.proofs.Computed.{blocked_recovery-notes, blocked_recovery-serial, blocked_recovery-outcomes, blocked_recovery-bodies}
use Rattle.acc_examples.proofs.rows.blocked_recovery.Goals as goal

pub returns : goal.returns
returns c = record { notes = blocked_recovery-notes; serial = blocked_recovery-serial; outcomes = blocked_recovery-outcomes; bodies = blocked_recovery-bodies; safe = blocked_recovery-safe }

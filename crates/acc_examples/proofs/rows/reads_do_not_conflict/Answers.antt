use Rattle.acc_examples.proofs.RowsSafe.{reads_do_not_conflict-safe}
use Rattle.acc_examples.proofs.Computed.{reads_do_not_conflict-notes, reads_do_not_conflict-serial, reads_do_not_conflict-outcomes, reads_do_not_conflict-bodies}
use Rattle.acc_examples.proofs.rows.reads_do_not_conflict.Goals as goal

pub returns : goal.returns
returns c = record { notes = reads_do_not_conflict-notes; serial = reads_do_not_conflict-serial; outcomes = reads_do_not_conflict-outcomes; bodies = reads_do_not_conflict-bodies; safe = reads_do_not_conflict-safe }

use Rattle.acc_examples.proofs.RowsSafe.{conflict_heard_first-safe}
use Rattle.acc_examples.proofs.Computed.{conflict_heard_first-notes, conflict_heard_first-serial, conflict_heard_first-outcomes, conflict_heard_first-bodies}
use Rattle.acc_examples.proofs.rows.conflict_heard_first.Goals as goal

pub returns : goal.returns
returns c = record { notes = conflict_heard_first-notes; serial = conflict_heard_first-serial; outcomes = conflict_heard_first-outcomes; bodies = conflict_heard_first-bodies; safe = conflict_heard_first-safe }

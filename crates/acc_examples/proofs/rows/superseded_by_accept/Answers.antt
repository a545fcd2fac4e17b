use Rattle.acc_examples.proofs.RowsSafe.{superseded_by_accept-safe}
use Rattle.acc_examples.proofs.Computed.{superseded_by_accept-notes, superseded_by_accept-serial, superseded_by_accept-outcomes, superseded_by_accept-bodies}
use Rattle.acc_examples.proofs.rows.superseded_by_accept.Goals as goal

pub returns : goal.returns
returns c = record { notes = superseded_by_accept-notes; serial = superseded_by_accept-serial; outcomes = superseded_by_accept-outcomes; bodies = superseded_by_accept-bodies; safe = superseded_by_accept-safe }

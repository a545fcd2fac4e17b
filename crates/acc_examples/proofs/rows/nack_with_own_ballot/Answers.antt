use Rattle.acc_examples.proofs.RowsSafe.{nack_with_own_ballot-safe}
use Rattle.acc_examples.proofs.Computed.{nack_with_own_ballot-notes, nack_with_own_ballot-serial, nack_with_own_ballot-outcomes, nack_with_own_ballot-bodies}
use Rattle.acc_examples.proofs.rows.nack_with_own_ballot.Goals as goal

pub returns : goal.returns
returns c = record { notes = nack_with_own_ballot-notes; serial = nack_with_own_ballot-serial; outcomes = nack_with_own_ballot-outcomes; bodies = nack_with_own_ballot-bodies; safe = nack_with_own_ballot-safe }

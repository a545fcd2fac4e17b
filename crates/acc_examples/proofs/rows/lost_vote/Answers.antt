use Rattle.acc_examples.proofs.RowsSafe.{lost_vote-safe}
use Rattle.acc_examples.proofs.Computed.{lost_vote-notes, lost_vote-serial, lost_vote-outcomes, lost_vote-bodies}
use Rattle.acc_examples.proofs.rows.lost_vote.Goals as goal

pub returns : goal.returns
returns c = record { notes = lost_vote-notes; serial = lost_vote-serial; outcomes = lost_vote-outcomes; bodies = lost_vote-bodies; safe = lost_vote-safe }

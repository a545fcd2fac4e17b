use Rattle.acc_examples.proofs.RowsSafe.{no_lost_vote-safe}
use Rattle.acc_examples.proofs.Computed.{no_lost_vote-notes, no_lost_vote-serial, no_lost_vote-outcomes, no_lost_vote-bodies}
use Rattle.acc_examples.proofs.rows.no_lost_vote.Goals as goal

pub returns : goal.returns
returns c = record { notes = no_lost_vote-notes; serial = no_lost_vote-serial; outcomes = no_lost_vote-outcomes; bodies = no_lost_vote-bodies; safe = no_lost_vote-safe }

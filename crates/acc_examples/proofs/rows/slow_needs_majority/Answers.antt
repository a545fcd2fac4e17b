use Rattle.acc_examples.proofs.RowsSafe.{slow_needs_majority-safe}
use Rattle.acc_examples.proofs.Computed.{slow_needs_majority-notes, slow_needs_majority-serial, slow_needs_majority-skips, slow_needs_majority-outcomes, slow_needs_majority-bodies}
use Rattle.acc_examples.proofs.rows.slow_needs_majority.Goals as goal

pub returns : goal.returns
returns c = record { notes = slow_needs_majority-notes; skips = slow_needs_majority-skips; serial = slow_needs_majority-serial; outcomes = slow_needs_majority-outcomes; bodies = slow_needs_majority-bodies; safe = slow_needs_majority-safe }

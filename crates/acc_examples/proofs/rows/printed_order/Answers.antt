use Rattle.acc_examples.proofs.RowsSafe.{printed_order-safe}
use Rattle.acc_examples.proofs.Computed.{printed_order-notes, printed_order-serial, printed_order-outcomes, printed_order-bodies}
use Rattle.acc_examples.proofs.rows.printed_order.Goals as goal

pub returns : goal.returns
returns c = record { notes = printed_order-notes; serial = printed_order-serial; outcomes = printed_order-outcomes; bodies = printed_order-bodies; safe = printed_order-safe }

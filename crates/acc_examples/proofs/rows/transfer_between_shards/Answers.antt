use Rattle.acc_examples.proofs.RowsSafe.{transfer_between_shards-safe}
use Rattle.acc_examples.proofs.Computed.{transfer_between_shards-notes, transfer_between_shards-serial, transfer_between_shards-outcomes}
use Rattle.acc_examples.proofs.rows.transfer_between_shards.Goals as goal

pub returns : goal.returns
returns c = record { notes = transfer_between_shards-notes; serial = transfer_between_shards-serial; outcomes = transfer_between_shards-outcomes; safe = transfer_between_shards-safe }

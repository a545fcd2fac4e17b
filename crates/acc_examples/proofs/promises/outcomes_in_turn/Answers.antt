use Rattle.std.proofs.Common.{refl}
use Rattle.acc_examples.proofs.SerialTested.{serial_ones-hold, not_serial_ones-refused}
use Rattle.acc_examples.proofs.promises.outcomes_in_turn.Goals as goal

pub returns : goal.returns
returns c = record { holds = serial_ones-hold; fails = not_serial_ones-refused; first_ones = refl }

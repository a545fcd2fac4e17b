use Rattle.acc_message_code.proofs.Shortness.{short_message}
use Rattle.acc_message_code.proofs.laws.what_fits_is_short.Goals as goal

pub returns : goal.returns
returns c = λ m fits. short_message m fits

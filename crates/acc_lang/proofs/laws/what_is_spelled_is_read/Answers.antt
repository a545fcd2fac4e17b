use Rattle.acc_lang.proofs.Obeys.{fits_from_rules}
use Rattle.acc_lang.proofs.OnlyBody.{reading_only}
use Rattle.acc_lang.proofs.laws.what_is_spelled_is_read.Goals as goal

pub returns : goal.returns
returns c texts text parts is = let f = fits_from_rules parts is.1 in reading_only texts text parts f.0 is.0 f.1

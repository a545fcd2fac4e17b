use Rattle.acc_lang.proofs.FoundBody.{reading_found}
use Rattle.acc_lang.proofs.laws.what_is_read_is_spelled.Goals as goal

pub returns : goal.returns
returns c texts text parts is = (reading_found texts text parts is).0

use Rattle.acc_lang.proofs.FirstFault.{found_at_once}
use Rattle.acc_lang.proofs.laws.faults_are_found_at_once.Goals as goal

pub returns : goal.returns
returns c texts text kind at is = found_at_once texts text kind at is

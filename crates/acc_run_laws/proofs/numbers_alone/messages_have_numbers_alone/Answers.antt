use Rattle.acc_run_laws.proofs.AloneEverywhere.{numbers_alone}
use Rattle.acc_run_laws.proofs.numbers_alone.messages_have_numbers_alone.Goals as goal

pub returns : goal.returns
returns c = numbers_alone

use Rattle.acc_calm.proofs.StoresOnly.{stores_only_answer}
use Rattle.acc_calm.proofs.laws.stores_only_answer.Goals as goal

pub returns : goal.returns
returns c = stores_only_answer

use Rattle.acc_deps.proofs.ByShard.{all_ids-has}
use Rattle.acc_deps.proofs.laws.all_has_each.Goals as goal

pub returns : goal.returns
returns c = all_ids-has

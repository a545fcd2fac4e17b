use Rattle.acc_free_laws.proofs.Others.{no_entries, same_over, all_over}
use Rattle.acc_free_laws.proofs.laws.others_change_no_step.Goals as goal

pub returns-clause-same : goal.returns-clause-same
returns-clause-same c = λ cluster seen others a event act apart may. same_over cluster seen others a event act (no_entries a others apart) may.act_is

pub returns-clause-all : goal.returns-clause-all
returns-clause-all c = all_over

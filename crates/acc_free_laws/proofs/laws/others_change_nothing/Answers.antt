use Rattle.acc_free_laws.proofs.Others.{untouched_by, may_over, untaken_over, no_entries, entering_over}
use Rattle.acc_free_laws.proofs.laws.others_change_nothing.Goals as goal

pub returns-clause-untouched : goal.returns-clause-untouched
returns-clause-untouched c = λ cluster seen others a apart. untouched_by cluster seen a others apart

pub returns-clause-may : goal.returns-clause-may
returns-clause-may c = λ cluster seen others a event act apart stands plain may. may_over cluster seen a event act others apart stands plain may

pub returns-clause-entering : goal.returns-clause-entering
returns-clause-entering c = λ cluster seen others a event act lost apart may.
    entering_over cluster seen others a event act (no_entries a others apart) may.act_is lost

pub returns-clause-untaken : goal.returns-clause-untaken
returns-clause-untaken c = λ cluster seen others a event act apart stands may none.
    untaken_over cluster seen a event act others apart stands may none

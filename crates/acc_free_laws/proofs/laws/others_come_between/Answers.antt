use Rattle.acc_free_laws.proofs.Between.{down_between, stop_between, stops_between, entry_between}
use Rattle.acc_free_laws.proofs.laws.others_come_between.Goals as goal

pub returns-clause-entry : goal.returns-clause-entry
returns-clause-entry c = λ cluster seen others a event act lost apart may. entry_between cluster seen others a apart event act may lost

pub returns-clause-down : goal.returns-clause-down
returns-clause-down c = down_between

pub returns-clause-stop : goal.returns-clause-stop
returns-clause-stop c = λ cluster seen others a event act apart may. stop_between cluster seen others a apart event act may

pub returns-clause-stops : goal.returns-clause-stops
returns-clause-stops c = λ cluster seen others a events lost apart may. stops_between cluster seen others a apart events lost may

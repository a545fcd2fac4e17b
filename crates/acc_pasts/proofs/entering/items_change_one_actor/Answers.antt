use Rattle.acc_pasts.proofs.Pasts.{untouched, did_more, went_down}
use Rattle.acc_pasts.proofs.Sound.{reopened_apart}
use Rattle.acc_pasts.proofs.entering.items_change_one_actor.Goals as goal

pub returns-clause-others : goal.returns-clause-others
returns-clause-others c = untouched

pub returns-clause-entry : goal.returns-clause-entry
returns-clause-entry c = did_more

pub returns-clause-down : goal.returns-clause-down
returns-clause-down c = went_down

pub returns-clause-reopened_apart : goal.returns-clause-reopened_apart
returns-clause-reopened_apart c = reopened_apart

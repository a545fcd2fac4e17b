use Rattle.acc_safety.proofs.PlaceFacts.{begin_is_home, begin_is_first, recover_is_behind}
use Rattle.acc_safety.proofs.laws.begins_stand_first.Goals as goal

pub returns : goal.returns
returns c = record { home = begin_is_home; first = begin_is_first; recover = recover_is_behind }

use Rattle.acc_glance_laws.proofs.Looks.{what_is_read_was_there}
use Rattle.acc_glance_laws.proofs.laws.what_is_read_was_there.Goals as goal

pub returns : goal.returns
returns c = what_is_read_was_there

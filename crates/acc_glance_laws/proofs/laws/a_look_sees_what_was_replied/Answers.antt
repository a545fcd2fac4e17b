use Rattle.acc_glance_laws.proofs.Looks.{a_look_sees_what_was_replied}
use Rattle.acc_glance_laws.proofs.laws.a_look_sees_what_was_replied.Goals as goal

pub returns : goal.returns
returns c = a_look_sees_what_was_replied

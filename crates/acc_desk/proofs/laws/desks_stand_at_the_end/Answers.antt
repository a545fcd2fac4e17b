use Rattle.acc_desk.specs.Desks.{no_hold}
use Rattle.acc_desk.proofs.Opening.{at_closed}
use Rattle.acc_desk.proofs.laws.desks_stand_at_the_end.Goals as goal

pub returns : goal.returns
returns g c = λ strict_run plan tape a seat slot commands gone limits desk items begins mine free. at_closed g.D.Disk strict_run plan tape limits a slot no_hold seat commands gone desk items begins mine free

use Rattle.acc_glance_laws.proofs.Moments.{oldest_stays, all_are_oldest}
use Rattle.acc_glance_laws.proofs.laws.oldest_items_stay.Goals as goal

pub returns : goal.returns
returns c = record { stay = oldest_stays; all = all_are_oldest }

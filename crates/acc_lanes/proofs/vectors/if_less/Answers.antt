use Rattle.std.proofs.Common.{ltb}
use Rattle.acc_lanes.proofs.Lanes.{HasLanes-select_splat}
use Rattle.acc_lanes.proofs.vectors.if_less.Goals as goal

pub returns : goal.returns
returns c = HasLanes-select_splat ltb c.args.v c.args.bound c.args.yes c.args.no c.fits-v.0 c.fits-yes.0 c.fits-no.0

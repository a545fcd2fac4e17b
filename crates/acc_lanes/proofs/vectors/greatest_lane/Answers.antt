use Rattle.std.proofs.Common.{◌∙◌, arith}
use Rattle.acc_lanes.proofs.Numbers.{step_one}
use Rattle.acc_lanes.proofs.vectors.greatest_lane.Goals as goal

pub loop-lane-preserved : goal.loop-lane-preserved
loop-lane-preserved c =
    c.max-greatest.ensures ∙ step_one c.args.v c.loop-lane.lane-index c.loop-lane.greatest (omega (arith, c.fits-v.0)) c.loop-lane.invariant

use Rattle.acc_examples.proofs.Stepped.{lost_and_down-marked, lost_and_down-marks_refused, lost_and_down-down, lost_and_down-downs_refused, lost_and_down-taken, lost_and_down-numbers}
use Rattle.acc_examples.proofs.actors.lost_and_down.Goals as goal

pub returns : goal.returns
returns c =
    record {
      marked = lost_and_down-marked;
      marks_refused = lost_and_down-marks_refused;
      down = lost_and_down-down;
      downs_refused = lost_and_down-downs_refused;
      taken = lost_and_down-taken;
      numbers = lost_and_down-numbers;
    }

use Rattle.acc_message.specs.BallotRules.{stable_of, settled_in}
use Rattle.acc_world.proofs.Records.{kept_some, taken_if_none}
use Rattle.acc_world.proofs.step_laws.stable_records_stay.Goals as goal

pub returns : goal.returns
returns c =
    record {
      stays = λ step past x s is. kept_some (stable_of past x) (settled_in x step.message) s is;
      comes = λ step past x is. taken_if_none (stable_of past x) (settled_in x step.message) is;
    }

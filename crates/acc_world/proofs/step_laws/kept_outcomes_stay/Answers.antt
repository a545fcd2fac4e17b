use Rattle.acc_message.specs.BallotRules.{kept_outcome, outcome_in}
use Rattle.acc_world.proofs.Records.{kept_some, taken_if_none}
use Rattle.acc_world.proofs.step_laws.kept_outcomes_stay.Goals as goal

pub returns : goal.returns
returns c =
    record {
      stays = λ step past x outcome is. kept_some (kept_outcome past x) (outcome_in x step.message) outcome is;
      comes = λ step past x is. taken_if_none (kept_outcome past x) (outcome_in x step.message) is;
    }

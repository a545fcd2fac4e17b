use Rattle.acc_command_alone.proofs.Counted.{calm_answered, strictly_answered}
use Rattle.acc_command_alone.proofs.generated.calm_plans_count_their_begins.Goals as goal

pub returns : goal.returns
returns c = record {
  answered = λ plan answers items h never ends apart obeys.
      calm_answered plan h apart answers items never ends obeys (c.calm_plans_are_answered.ensures.none_open plan answers items h never ends obeys);
  strictly = λ plan items h ends apart obeys.
      strictly_answered plan h apart items ends obeys (c.plans_run_safely_over_strict_disks.ensures.none_open plan items h ends obeys);
}

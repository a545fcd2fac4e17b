use Rattle.acc_plan_laws.proofs.AllReplied.{none_is_open}
use Rattle.acc_schedule_runs.specs.Schedules.{cluster_of}
use Rattle.acc_free_laws.proofs.Answered.{served_is_calm}
use Rattle.acc_free_laws.proofs.laws.served_runs_are_answered.Goals as goal

pub returns : goal.returns
returns c = record {
  answered = λ plan items valid h quiet.
      c.calm.ensures (cluster_of plan) items (c.plans_are_valid.ensures plan valid) h.free.run (served_is_calm plan items h quiet);
  none_open = λ plan items valid h quiet.
      none_is_open (cluster_of plan) items h.free.run.stands
      (c.calm.ensures (cluster_of plan) items (c.plans_are_valid.ensures plan valid) h.free.run (served_is_calm plan items h quiet));
}

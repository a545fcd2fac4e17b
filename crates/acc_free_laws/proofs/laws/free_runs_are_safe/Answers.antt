use Rattle.acc_safety_laws.proofs.EveryRun.{agreement_holds, coverage_holds, serial_holds}
use Rattle.acc_schedule_runs.specs.Schedules.{cluster_of}
use Rattle.acc_free_laws.proofs.laws.free_runs_are_safe.Goals as goal

pub returns : goal.returns
returns c = record {
  agreement = λ plan items valid free. agreement_holds (cluster_of plan) items (c.plans_are_valid.ensures plan valid) free.run;
  coverage = λ plan items valid free. coverage_holds (cluster_of plan) items (c.plans_are_valid.ensures plan valid) free.run;
  serial = λ plan items valid free. serial_holds (cluster_of plan) items (c.plans_are_valid.ensures plan valid) free.run;
}

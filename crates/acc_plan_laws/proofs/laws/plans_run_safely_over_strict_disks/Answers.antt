use Rattle.acc_plan_laws.proofs.OverStrictDisks.{strict_run, strict_agree, strict_cover, strict_are_serial, strict_are_answered, strict_none_open}
use Rattle.acc_plan_laws.proofs.laws.plans_run_safely_over_strict_disks.Goals as goal

pub returns : goal.returns
returns c = record {
  run = strict_run;
  agreement = strict_agree;
  coverage = strict_cover;
  serial = strict_are_serial;
  answered = λ plan items h. strict_are_answered plan items h c.calm.ensures;
  none_open = λ plan items h. strict_none_open plan items h c.calm.ensures;
}

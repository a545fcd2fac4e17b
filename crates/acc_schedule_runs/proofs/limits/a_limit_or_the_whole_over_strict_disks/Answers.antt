use Rattle.acc_schedule_runs.proofs.StrictWhole.{whole_is_strict_front, whole_is_longest_strict, strict_limit_or_whole, never_both_strictly, strictly_goes_on}
use Rattle.acc_schedule_runs.proofs.limits.a_limit_or_the_whole_over_strict_disks.Goals as goal

pub returns : goal.returns
returns c = record {
  whole = whole_is_strict_front;
  longest = whole_is_longest_strict;
  one = strict_limit_or_whole;
  not_both = never_both_strictly;
  step = strictly_goes_on;
}

use Rattle.acc_heal_laws.proofs.StrictHealingLimits.{in_line, one_limit, is_longest, limit_or_whole, strict_limits_are_answered, one_strict_end}
use Rattle.acc_heal_laws.proofs.laws.one_healing_limit_over_strict_disks.Goals as goal

pub returns-clause-line : goal.returns-clause-line
returns-clause-line c =
    in_line (record {
      step = c.a_limit_or_the_whole_over_strict_disks.ensures.step;
      line = c.one_limit_over_strict_disks.ensures.line;
      whole = c.a_limit_or_the_whole_over_strict_disks.ensures.whole;
      longest = c.a_limit_or_the_whole_over_strict_disks.ensures.longest;
      one = c.one_limit_over_strict_disks.ensures.one;
      either = c.a_limit_or_the_whole_over_strict_disks.ensures.one;
      not_both = c.a_limit_or_the_whole_over_strict_disks.ensures.not_both;
    })

pub returns-clause-longest : goal.returns-clause-longest
returns-clause-longest c =
    is_longest (record {
      step = c.a_limit_or_the_whole_over_strict_disks.ensures.step;
      line = c.one_limit_over_strict_disks.ensures.line;
      whole = c.a_limit_or_the_whole_over_strict_disks.ensures.whole;
      longest = c.a_limit_or_the_whole_over_strict_disks.ensures.longest;
      one = c.one_limit_over_strict_disks.ensures.one;
      either = c.a_limit_or_the_whole_over_strict_disks.ensures.one;
      not_both = c.a_limit_or_the_whole_over_strict_disks.ensures.not_both;
    })

pub returns-clause-one : goal.returns-clause-one
returns-clause-one c =
    one_limit (record {
      step = c.a_limit_or_the_whole_over_strict_disks.ensures.step;
      line = c.one_limit_over_strict_disks.ensures.line;
      whole = c.a_limit_or_the_whole_over_strict_disks.ensures.whole;
      longest = c.a_limit_or_the_whole_over_strict_disks.ensures.longest;
      one = c.one_limit_over_strict_disks.ensures.one;
      either = c.a_limit_or_the_whole_over_strict_disks.ensures.one;
      not_both = c.a_limit_or_the_whole_over_strict_disks.ensures.not_both;
    })

pub returns-clause-either : goal.returns-clause-either
returns-clause-either c =
    limit_or_whole (record {
      step = c.a_limit_or_the_whole_over_strict_disks.ensures.step;
      line = c.one_limit_over_strict_disks.ensures.line;
      whole = c.a_limit_or_the_whole_over_strict_disks.ensures.whole;
      longest = c.a_limit_or_the_whole_over_strict_disks.ensures.longest;
      one = c.one_limit_over_strict_disks.ensures.one;
      either = c.a_limit_or_the_whole_over_strict_disks.ensures.one;
      not_both = c.a_limit_or_the_whole_over_strict_disks.ensures.not_both;
    })

pub returns-clause-answered : goal.returns-clause-answered
returns-clause-answered c = strict_limits_are_answered c.one_limit_over_strict_disks.ensures.answered

pub returns-clause-end : goal.returns-clause-end
returns-clause-end c =
    one_strict_end (record {
      step = c.a_limit_or_the_whole_over_strict_disks.ensures.step;
      line = c.one_limit_over_strict_disks.ensures.line;
      whole = c.a_limit_or_the_whole_over_strict_disks.ensures.whole;
      longest = c.a_limit_or_the_whole_over_strict_disks.ensures.longest;
      one = c.one_limit_over_strict_disks.ensures.one;
      either = c.a_limit_or_the_whole_over_strict_disks.ensures.one;
      not_both = c.a_limit_or_the_whole_over_strict_disks.ensures.not_both;
    })

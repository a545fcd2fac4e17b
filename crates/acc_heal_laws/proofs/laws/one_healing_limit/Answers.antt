use Rattle.acc_heal_laws.proofs.HealingLimits.{in_line, one_limit, is_longest, limit_or_whole}
use Rattle.acc_heal_laws.proofs.laws.one_healing_limit.Goals as goal

pub returns-clause-line : goal.returns-clause-line
returns-clause-line c =
    in_line (record {
      step = c.fronts_are_made_step_by_step.ensures.step;
      line = c.fronts_stand_in_line.ensures.line;
      whole = c.fronts_stand_in_line.ensures.whole;
      longest = c.fronts_stand_in_line.ensures.longest;
      one = c.one_limit.ensures;
      either = c.a_limit_or_the_whole.ensures.one;
      not_both = c.a_limit_or_the_whole.ensures.not_both;
    })

pub returns-clause-longest : goal.returns-clause-longest
returns-clause-longest c =
    is_longest (record {
      step = c.fronts_are_made_step_by_step.ensures.step;
      line = c.fronts_stand_in_line.ensures.line;
      whole = c.fronts_stand_in_line.ensures.whole;
      longest = c.fronts_stand_in_line.ensures.longest;
      one = c.one_limit.ensures;
      either = c.a_limit_or_the_whole.ensures.one;
      not_both = c.a_limit_or_the_whole.ensures.not_both;
    })

pub returns-clause-one : goal.returns-clause-one
returns-clause-one c =
    one_limit (record {
      step = c.fronts_are_made_step_by_step.ensures.step;
      line = c.fronts_stand_in_line.ensures.line;
      whole = c.fronts_stand_in_line.ensures.whole;
      longest = c.fronts_stand_in_line.ensures.longest;
      one = c.one_limit.ensures;
      either = c.a_limit_or_the_whole.ensures.one;
      not_both = c.a_limit_or_the_whole.ensures.not_both;
    })

pub returns-clause-either : goal.returns-clause-either
returns-clause-either c =
    limit_or_whole (record {
      step = c.fronts_are_made_step_by_step.ensures.step;
      line = c.fronts_stand_in_line.ensures.line;
      whole = c.fronts_stand_in_line.ensures.whole;
      longest = c.fronts_stand_in_line.ensures.longest;
      one = c.one_limit.ensures;
      either = c.a_limit_or_the_whole.ensures.one;
      not_both = c.a_limit_or_the_whole.ensures.not_both;
    })

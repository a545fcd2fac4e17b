use Rattle.std.proofs.Common.{ap}
use Rattle.acc_message.specs.Opening.{may_open}
use Rattle.acc_store.proofs.steps.prepare.Goals as goal

pub returns-in_ok-prepare_stable-in-Stable : goal.returns-in_ok-prepare_stable-in-Stable
returns-in_ok-prepare_stable-in-Stable c =
    record {
      opening = ap may_open c.in-Stable.is;
      ready = c.in_ok-prepare_stable-in-Stable.ensures.ready;
      answers = c.in_ok-prepare_stable-in-Stable.ensures.answers;
    }

pub returns-in_ok-prepare_apply-in-Apply : goal.returns-in_ok-prepare_apply-in-Apply
returns-in_ok-prepare_apply-in-Apply c =
    record {
      opening = ap may_open c.in-Apply.is;
      ready = c.in_ok-prepare_apply-in-Apply.ensures.ready;
      answers = c.in_ok-prepare_apply-in-Apply.ensures.answers;
    }

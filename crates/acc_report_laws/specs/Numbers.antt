-- Plans of which each number is one of 64 bits: those in its bodies, and the numbers of the messages in its steps.
use Rattle.std.specs.List.{AllByRecursion}
use Rattle.acc_code.specs.Short.{IsNumberedBody}
use Rattle.acc_schedule.specs.Content.{Content}
use Rattle.acc_schedule.specs.declared.plan.Step.{Step}
use Rattle.acc_schedule.specs.declared.plan.Step.TheVariants.{Begin, Deliver, Drop, Recover, Slow, Restart, Fail, Drain}
use Rattle.acc_report_line.specs.Forms.{IsCount}

abbrev pub NumbersMessage : Step → Type 0
NumbersMessage (Begin txn) = Unit {0}
NumbersMessage (Deliver message) = IsCount message
NumbersMessage (Drop message) = IsCount message
NumbersMessage (Recover txn node) = Unit {0}
NumbersMessage (Slow txn) = Unit {0}
NumbersMessage (Restart actor choice) = Unit {0}
NumbersMessage (Fail actor calls) = Unit {0}
NumbersMessage Drain = Unit {0}

pub record IsNumbered (plan : Content) : Type 0 where
  pub bodies : AllByRecursion IsNumberedBody plan.bodies
  pub messages : AllByRecursion NumbersMessage plan.steps

-- The line of the refusal is due.
use Rattle.acc_command_alone.proofs.CommandFacts.{refusal}
use Rattle.acc_command_alone.proofs.check.check.Goals as goal

pub returns-in_ok-refusal_line-in-Err : goal.returns-in_ok-refusal_line-in-Err
returns-in_ok-refusal_line-in-Err c =
    (c.requires, refusal c.args.bytes c.in-Err.error c.in_ok-refusal_line-in-Err.field-0 c.in-Err.ensures.refused c.in_ok-refusal_line-in-Err.ensures)

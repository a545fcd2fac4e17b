-- The text that was said is the document.
use Rattle.std.proofs.Common.{◌∙◌}
use Rattle.acc_command_alone.proofs.SaidFacts.{ends_generated}
use Rattle.acc_command_alone.proofs.generate.generate.Goals as goal

pub returns-in-Ok-clause-ends : goal.returns-in-Ok-clause-ends
returns-in-Ok-clause-ends g c =
    ends_generated c.args.numbers.seed c.args.numbers.txns _ _ _ _ (c.as_slice.ensures ∙ c.in-Ok.ensures.text) c.say.ensures.said

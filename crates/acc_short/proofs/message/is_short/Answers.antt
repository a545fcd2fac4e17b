use Rattle.std.proofs.Common.{sym, ◌∙◌}
use Rattle.acc_short.proofs.Tells.{message_tells}
use Rattle.acc_short.proofs.message.is_short.Goals as goal

pub returns-clause-short : goal.returns-clause-short
returns-clause-short c = λ is. message_tells c.args.m.now (sym c.message_is_short.ensures ∙ is)

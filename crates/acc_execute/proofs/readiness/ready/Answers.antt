use Rattle.std.proofs.Common.{◌∙◌}
use Rattle.acc_execute.proofs.MayExecute.{ready_is}
use Rattle.acc_execute.proofs.readiness.ready.Goals as goal

pub returns-clause-rules : goal.returns-clause-rules
returns-clause-rules c layout history stands = c.is_ready.ensures ∙ ready_is layout c.args.shelf.now history stands c.args.id

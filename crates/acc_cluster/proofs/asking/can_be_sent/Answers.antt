use Rattle.std.proofs.Common.{subst}
use Rattle.acc_run_laws.specs.Sends.{AreSendable}
use Rattle.acc_cluster.proofs.asking.can_be_sent.Goals as goal

pub returns : goal.returns
returns c = λ is. subst AreSendable c.as_slice.ensures (record { short = c.are_sendable.ensures.short is; weight = c.are_sendable.ensures.weight is })

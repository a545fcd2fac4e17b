use Rattle.std.proofs.Common.{arith}
use Rattle.acc_short.proofs.Tells.{few_rise}
use Rattle.acc_short.proofs.waits.+rise.Goals as goal

pub returns-then-ids-lt2 : goal.returns-then-ids-lt2
returns-then-ids-lt2 t c = few_rise c.args.ids.now (omega (arith, c.if-ids-lt2.true))

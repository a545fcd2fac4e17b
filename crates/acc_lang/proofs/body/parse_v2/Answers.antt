use Rattle.std.proofs.Common.{true}
use Rattle.acc_lang.proofs.Answering.{answered}
use Rattle.acc_lang.proofs.body.parse_v2.Goals as goal

pub returns-clause-only : goal.returns-clause-only
returns-clause-only c = answered true c.args.text.now c.read_body.result c.read_body.ensures.read c.read_body.ensures.fault

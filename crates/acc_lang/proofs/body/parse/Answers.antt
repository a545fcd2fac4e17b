use Rattle.std.proofs.Common.{false}
use Rattle.acc_lang.proofs.Answering.{answered}
use Rattle.acc_lang.proofs.NoTexts.{no_text_read}
use Rattle.acc_lang.proofs.body.parse.Goals as goal

pub returns-clause-only : goal.returns-clause-only
returns-clause-only c = answered false c.args.text.now c.read_body.result c.read_body.ensures.read c.read_body.ensures.fault

pub returns-clause-numbers : goal.returns-clause-numbers
returns-clause-numbers c = no_text_read c.args.text.now c.read_body.result c.read_body.ensures.sound

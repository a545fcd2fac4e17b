use Rattle.acc_left_laws.proofs.LeftLines.{lines_read}
use Rattle.acc_left_laws.proofs.laws.left_lines_are_texts.Goals as goal

pub returns : goal.returns
returns c = lines_read c.messages_have_numbers_alone.ensures c.plans_are_valid.ensures c.plans_have_few_bodies.ensures

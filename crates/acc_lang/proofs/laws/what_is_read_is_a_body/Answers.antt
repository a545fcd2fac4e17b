use Rattle.acc_lang.proofs.Bodies.{read_sound}
use Rattle.acc_lang.proofs.laws.what_is_read_is_a_body.Goals as goal

pub returns : goal.returns
returns c texts text parts utf8 is = read_sound texts text parts utf8 is

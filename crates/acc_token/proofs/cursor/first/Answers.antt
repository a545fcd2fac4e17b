use Rattle.std.specs.Char.{is_ascii_digit}
use Rattle.acc_token.proofs.DigitFacts.{passes_take_while}
use Rattle.acc_token.proofs.cursor.first.Goals as goal

pub number_of-requires : goal.number_of-requires
number_of-requires c = rw c.digits_len-len.ensures.count (passes_take_while is_ascii_digit c.args.text.now)

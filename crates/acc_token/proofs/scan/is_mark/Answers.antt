use Rattle.std.proofs.Common.{arith}
use Rattle.std.proofs.lemmas.Bool.Decides.{nat_tests}
use Rattle.acc_token.proofs.Words.{mark_in_front}
use Rattle.acc_token.proofs.scan.is_mark.Goals as goal

pub returns-then-len-ne0 : goal.returns-then-len-ne0
returns-then-len-ne0 c = let is = mark_in_front c.args.mark.now c.args.text.now in grind (arith, nat_tests, is)

use Rattle.std.proofs.Common.{arith}
use Rattle.std.proofs.lemmas.Bool.Decides.{nat_tests}
use Rattle.acc_token.proofs.Words.{word_tested}
use Rattle.acc_token.proofs.scan.is_word.Goals as goal

pub returns-then-not-goes_on : goal.returns-then-not-goes_on
returns-then-not-goes_on c = let is = word_tested c.args.word.now c.args.text.now in grind (arith, nat_tests, is)

pub returns-else-not-goes_on : goal.returns-else-not-goes_on
returns-else-not-goes_on c = let is = word_tested c.args.word.now c.args.text.now in grind (arith, nat_tests, is)

use Rattle.acc_command_alone.proofs.SpellingFacts.{spelled_utf8}
use Rattle.acc_command_alone.proofs.options.number_in.Goals as goal

pub returns-in-Err : goal.returns-in-Err
returns-in-Err c = λ h. c.in-Err.ensures.cases.0 (spelled_utf8 c.args.least c.args.most c.args.word.now h)

use Rattle.std.proofs.Common.{◌∙◌, arith}
use Rattle.acc_lang.proofs.Spelling.{spelled}
use Rattle.acc_lang.proofs.lexemes.spells.Goals as goal

pub returns-then-letters-word : goal.returns-then-letters-word
returns-then-letters-word c = c.begins_alike.ensures ∙ spelled c.args.letters.now c.args.word.now (omega arith)

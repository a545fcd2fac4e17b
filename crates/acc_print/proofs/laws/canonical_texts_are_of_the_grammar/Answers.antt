use Rattle.acc_print.proofs.BodyFacts.{canonical_spelled}
use Rattle.acc_print.proofs.laws.canonical_texts_are_of_the_grammar.Goals as goal

pub returns : goal.returns
returns c = λ texts parts rules said. (canonical_spelled texts parts rules said, rules)

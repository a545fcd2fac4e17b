use Rattle.std.proofs.Common.{true, false, subst}
use Rattle.acc_print.specs.Canonical.{canonical_text}
use Rattle.acc_print.specs.Numbers.{IsSaid}
use Rattle.acc_print.proofs.BodyFacts.{canonical_spelled}
use Rattle.acc_print.proofs.SaidFacts.{said_without_texts}
use Rattle.acc_print.proofs.laws.canonical_text_is_read.Goals as goal

pub returns-clause-grammar : goal.returns-clause-grammar
returns-clause-grammar c =
    let rules = c.parts.ensures.keeps_rules in
    let said = subst (IsSaid true) c.parts.ensures.parts c.visit.ensures in
    (canonical_spelled true c.args.body.now rules said, rules)

pub returns-clause-reading : goal.returns-clause-reading
returns-clause-reading c = c.what_is_spelled_is_read.ensures true (canonical_text c.args.body.now) c.args.body.now (returns-clause-grammar c)

pub returns-clause-grammar_v1 : goal.returns-clause-grammar_v1
returns-clause-grammar_v1 c plain =
    let rules = c.parts.ensures.keeps_rules in
    let said = subst (IsSaid true) c.parts.ensures.parts c.visit.ensures in
    (canonical_spelled false c.args.body.now rules (said_without_texts c.args.body.now said plain), rules)

pub returns-clause-reading_v1 : goal.returns-clause-reading_v1
returns-clause-reading_v1 c plain = c.what_is_spelled_is_read.ensures false (canonical_text c.args.body.now) c.args.body.now (returns-clause-grammar_v1 c plain)

use Rattle.std.proofs.Common.{◌<◌, ℕ, List, Bool, Some, None, true, false, subst, sym, ap, ◌∙◌}
use Rattle.acc_audit.specs.Rules.{rules}
use Rattle.acc_audit.proofs.NumberFacts.{numbered}
use Rattle.acc_audit.proofs.DecisionFacts.{at_number}
use Rattle.acc_audit.proofs.StepFacts.{begun_more, known_first}
use Rattle.acc_audit.proofs.steps.begin.Goals as goal

pub begin_at-requires : goal.begin_at-requires
begin_at-requires c = subst (λ (n : ℕ). c.in-Some.number < n) (sym c.requires.as_many) (numbered c.args.numbers.now c.args.name.now c.in-Some.number (sym c.in-Some.ensures)).0

pub returns-in-Some-clause-rule : goal.returns-in-Some-clause-rule
returns-in-Some-clause-rule c = λ (was : List ℕ → Bool) are.
    let names = c.args.numbers.now in
    let name = c.args.name.now in
    let known = known_first names name (Some c.in-Some.number) true c.in-Some.ensures in
    let held = at_number was names c.in-Some.number name c.args.begun.now.items false (sym c.in-Some.ensures) are in
    c.begin_at.ensures.rule ∙ (λ i. rules (known i) (held i) false false false false c.args.last)

pub returns-in-Some-clause-noted : goal.returns-in-Some-clause-noted
returns-in-Some-clause-noted c = λ (was : List ℕ → Bool) are none.
    c.begin_at.ensures.noted none ∙ begun_more was c.args.numbers.now c.in-Some.number c.args.name.now c.args.begun.now.items c.requires.differ (sym c.in-Some.ensures) are

pub returns-in-None-clause-rule : goal.returns-in-None-clause-rule
returns-in-None-clause-rule c = λ (was : List ℕ → Bool) are.
    ap (λ (b : Bool). rules b (was c.args.name.now) false false false false c.args.last) (known_first c.args.numbers.now c.args.name.now None true c.in-None.ensures)

pub returns-in-None-clause-noted : goal.returns-in-None-clause-noted
returns-in-None-clause-noted c = λ (was : List ℕ → Bool) are none. absurd cc

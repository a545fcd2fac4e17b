use Rattle.std.proofs.Common.{◌<◌, ℕ, List, Bool, Some, None, true, false, not, unwrap_or, subst, sym, ap, ◌∙◌}
use Rattle.std.specs.List.{list_any}
use Rattle.acc_report_line.specs.declared.line.Line.{Line}
use Rattle.acc_audit.specs.Said.{begins, same_reply}
use Rattle.acc_audit.specs.Fronts.{answer_of, first_reply}
use Rattle.acc_audit.specs.Rules.{rules}
use Rattle.acc_audit.proofs.NumberFacts.{numbered}
use Rattle.acc_audit.proofs.DecisionFacts.{at_number}
use Rattle.acc_audit.proofs.OutcomeFacts.{body_item, outcome_noted, right_is}
use Rattle.acc_audit.proofs.StepFacts.{known_first}
use Rattle.acc_audit.proofs.steps.outcome.Goals as goal

pub returns-in_ok-rule-in-Some-clause-rule : goal.returns-in_ok-rule-in-Some-clause-rule
returns-in_ok-rule-in-Some-clause-rule c = λ (earlier : List Line) begun are.
    let names : List (List ℕ) = c.args.numbers.now in
    let name = c.args.name.now in
    let n = c.in-Some.number in
    let is = sym c.in-Some.ensures in
    let its = body_item names c.args.bodies.now name n c.index-bodies-number.result c.requires.as_many.2 is c.index-bodies-number.is in
    let known = known_first names name (Some n) true c.in-Some.ensures in
    let early = ap not (at_number (λ (other : List ℕ). list_any (begins other) earlier) names n name c.args.begun.now false is begun) in
    let wrong = ap not (right_is names c.args.bodies.now earlier c.args.outcomes.now name n c.index-bodies-number.result c.args.reply.now is its are) in
    c.in_ok-rule-in-Some.ensures.rule ∙ (λ i. rules (known i) false false false (early i) (wrong i) c.args.last)

pub returns-in_ok-rule-in-Some-clause-noted : goal.returns-in_ok-rule-in-Some-clause-noted
returns-in_ok-rule-in-Some-clause-noted c = λ none (earlier : List Line) are.
    let names : List (List ℕ) = c.args.numbers.now in
    let name = c.args.name.now in
    let n = c.in-Some.number in
    let is = sym c.in-Some.ensures in
    let its = body_item names c.args.bodies.now name n c.index-bodies-number.result c.requires.as_many.2 is c.index-bodies-number.is in
    outcome_noted names c.args.bodies.now earlier c.args.outcomes.now c.outcome_at.new.outcomes name n c.index-bodies-number.result c.args.reply.now c.requires.differ is its are (c.in_ok-rule-in-Some.ensures.first none) (c.in_ok-rule-in-Some.ensures.cells none)

pub outcome_at-requires-clause-begun : goal.outcome_at-requires-clause-begun
outcome_at-requires-clause-begun c =
    subst (λ (n : ℕ). c.in-Some.number < n) (sym c.requires.as_many.0) (numbered c.args.numbers.now c.args.name.now c.in-Some.number (sym c.in-Some.ensures)).0

pub outcome_at-requires-clause-first : goal.outcome_at-requires-clause-first
outcome_at-requires-clause-first c =
    subst (λ (n : ℕ). c.in-Some.number < n) (sym c.requires.as_many.1) (numbered c.args.numbers.now c.args.name.now c.in-Some.number (sym c.in-Some.ensures)).0

pub bounds-bodies-number : goal.bounds-bodies-number
bounds-bodies-number c =
    subst (λ (n : ℕ). c.in-Some.number < n) (sym c.requires.as_many.2) (numbered c.args.numbers.now c.args.name.now c.in-Some.number (sym c.in-Some.ensures)).0

pub returns-in-None-clause-rule : goal.returns-in-None-clause-rule
returns-in-None-clause-rule c = λ (earlier : List Line) begun are.
    let name = c.args.name.now in
    ap (λ (b : Bool). rules b false false false (not (list_any (begins name) earlier)) (not (same_reply (unwrap_or (first_reply name earlier) (answer_of c.args.numbers.now c.args.bodies.now earlier name)) c.args.reply.now)) c.args.last)
    (known_first c.args.numbers.now name None true c.in-None.ensures)

pub returns-in-None-clause-noted : goal.returns-in-None-clause-noted
returns-in-None-clause-noted c = λ none (earlier : List Line) are. absurd cc

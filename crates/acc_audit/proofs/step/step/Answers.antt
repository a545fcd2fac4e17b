use Rattle.std.proofs.Common.{◌+◌, ℕ, List, ◌∷◌, ◌||◌, map, refl, subst, sym, ap, ◌∙◌}
use Rattle.std.specs.List.{list_any}
use Rattle.acc_report_line.specs.declared.line.Line.{Line}
use Rattle.acc_audit.specs.Said.{begins, decision_in, outcome_in}
use Rattle.acc_audit.specs.Fronts.{newly_in}
use Rattle.acc_audit.specs.Kept.{Holds}
use Rattle.acc_audit.specs.Rules.{rule_of}
use Rattle.acc_audit.proofs.MarkFacts.{marks_later}
use Rattle.acc_audit.proofs.StepFacts.{decisions_kept, holds_other, outcomes_kept, said}
use Rattle.acc_audit.proofs.step.step.Goals as goal

pub returns-in-Recover-clause-holds : goal.returns-in-Recover-clause-holds
returns-in-Recover-clause-holds c = λ none (earlier : List Line) holds.
    subst (λ (l : Line). Holds c.args.against.now.numbers.now c.args.against.now.bodies.now (l ∷ earlier) (c.args.place + 1) c.args.front.now) (said c.form.result.now c.args.line.now _ c.in-Recover.is c.form.ensures)
    (holds_other c.args.against.now.numbers.now c.args.against.now.bodies.now earlier c.args.place c.args.front.now _ (λ name. refl) refl (λ name. refl) refl holds)

pub returns-in-Blocked-clause-holds : goal.returns-in-Blocked-clause-holds
returns-in-Blocked-clause-holds c = λ none (earlier : List Line) holds.
    subst (λ (l : Line). Holds c.args.against.now.numbers.now c.args.against.now.bodies.now (l ∷ earlier) (c.args.place + 1) c.args.front.now) (said c.form.result.now c.args.line.now _ c.in-Blocked.is c.form.ensures)
    (holds_other c.args.against.now.numbers.now c.args.against.now.bodies.now earlier c.args.place c.args.front.now _ (λ name. refl) refl (λ name. refl) refl holds)

pub returns-in-Ended-clause-holds : goal.returns-in-Ended-clause-holds
returns-in-Ended-clause-holds c = λ none (earlier : List Line) holds.
    subst (λ (l : Line). Holds c.args.against.now.numbers.now c.args.against.now.bodies.now (l ∷ earlier) (c.args.place + 1) c.args.front.now) (said c.form.result.now c.args.line.now _ c.in-Ended.is c.form.ensures)
    (holds_other c.args.against.now.numbers.now c.args.against.now.bodies.now earlier c.args.place c.args.front.now _ (λ name. refl) refl (λ name. refl) refl holds)

pub returns-in-SkipNoMessage-clause-holds : goal.returns-in-SkipNoMessage-clause-holds
returns-in-SkipNoMessage-clause-holds c = λ none (earlier : List Line) holds.
    subst (λ (l : Line). Holds c.args.against.now.numbers.now c.args.against.now.bodies.now (l ∷ earlier) (c.args.place + 1) c.args.front.now) (said c.form.result.now c.args.line.now _ c.in-SkipNoMessage.is c.form.ensures)
    (holds_other c.args.against.now.numbers.now c.args.against.now.bodies.now earlier c.args.place c.args.front.now _ (λ name. refl) refl (λ name. refl) refl holds)

pub returns-in-SkipDown-clause-holds : goal.returns-in-SkipDown-clause-holds
returns-in-SkipDown-clause-holds c = λ none (earlier : List Line) holds.
    subst (λ (l : Line). Holds c.args.against.now.numbers.now c.args.against.now.bodies.now (l ∷ earlier) (c.args.place + 1) c.args.front.now) (said c.form.result.now c.args.line.now _ c.in-SkipDown.is c.form.ensures)
    (holds_other c.args.against.now.numbers.now c.args.against.now.bodies.now earlier c.args.place c.args.front.now _ (λ name. refl) refl (λ name. refl) refl holds)

pub returns-in-SkipBegun-clause-holds : goal.returns-in-SkipBegun-clause-holds
returns-in-SkipBegun-clause-holds c = λ none (earlier : List Line) holds.
    subst (λ (l : Line). Holds c.args.against.now.numbers.now c.args.against.now.bodies.now (l ∷ earlier) (c.args.place + 1) c.args.front.now) (said c.form.result.now c.args.line.now _ c.in-SkipBegun.is c.form.ensures)
    (holds_other c.args.against.now.numbers.now c.args.against.now.bodies.now earlier c.args.place c.args.front.now _ (λ name. refl) refl (λ name. refl) refl holds)

pub returns-in-SkipUnknown-clause-holds : goal.returns-in-SkipUnknown-clause-holds
returns-in-SkipUnknown-clause-holds c = λ none (earlier : List Line) holds.
    subst (λ (l : Line). Holds c.args.against.now.numbers.now c.args.against.now.bodies.now (l ∷ earlier) (c.args.place + 1) c.args.front.now) (said c.form.result.now c.args.line.now _ c.in-SkipUnknown.is c.form.ensures)
    (holds_other c.args.against.now.numbers.now c.args.against.now.bodies.now earlier c.args.place c.args.front.now _ (λ name. refl) refl (λ name. refl) refl holds)

pub returns-in-SkipNoQuorum-clause-holds : goal.returns-in-SkipNoQuorum-clause-holds
returns-in-SkipNoQuorum-clause-holds c = λ none (earlier : List Line) holds.
    subst (λ (l : Line). Holds c.args.against.now.numbers.now c.args.against.now.bodies.now (l ∷ earlier) (c.args.place + 1) c.args.front.now) (said c.form.result.now c.args.line.now _ c.in-SkipNoQuorum.is c.form.ensures)
    (holds_other c.args.against.now.numbers.now c.args.against.now.bodies.now earlier c.args.place c.args.front.now _ (λ name. refl) refl (λ name. refl) refl holds)

pub returns-in-Down-clause-holds : goal.returns-in-Down-clause-holds
returns-in-Down-clause-holds c = λ none (earlier : List Line) holds.
    subst (λ (l : Line). Holds c.args.against.now.numbers.now c.args.against.now.bodies.now (l ∷ earlier) (c.args.place + 1) c.args.front.now) (said c.form.result.now c.args.line.now _ c.in-Down.is c.form.ensures)
    (holds_other c.args.against.now.numbers.now c.args.against.now.bodies.now earlier c.args.place c.args.front.now _ (λ name. refl) refl (λ name. refl) refl holds)

pub returns-in-Restart-clause-holds : goal.returns-in-Restart-clause-holds
returns-in-Restart-clause-holds c = λ none (earlier : List Line) holds.
    subst (λ (l : Line). Holds c.args.against.now.numbers.now c.args.against.now.bodies.now (l ∷ earlier) (c.args.place + 1) c.args.front.now) (said c.form.result.now c.args.line.now _ c.in-Restart.is c.form.ensures)
    (holds_other c.args.against.now.numbers.now c.args.against.now.bodies.now earlier c.args.place c.args.front.now _ (λ name. refl) refl (λ name. refl) refl holds)

pub returns-in-Decided-clause-holds : goal.returns-in-Decided-clause-holds
returns-in-Decided-clause-holds c = λ none (earlier : List Line) holds. absurd cc

pub returns-in-End-clause-holds : goal.returns-in-End-clause-holds
returns-in-End-clause-holds c = λ none (earlier : List Line) holds.
    subst (λ (l : Line). Holds c.args.against.now.numbers.now c.args.against.now.bodies.now (l ∷ earlier) (c.args.place + 1) c.args.front.now) (said c.form.result.now c.args.line.now _ c.in-End.is c.form.ensures)
    (holds_other c.args.against.now.numbers.now c.args.against.now.bodies.now earlier c.args.place c.args.front.now _ (λ name. refl) refl (λ name. refl) refl holds)

pub returns-in-Reply-clause-holds : goal.returns-in-Reply-clause-holds
returns-in-Reply-clause-holds c = λ none (earlier : List Line) holds.
    subst (λ (l : Line). Holds c.args.against.now.numbers.now c.args.against.now.bodies.now (l ∷ earlier) (c.args.place + 1) c.args.front.now) (said c.form.result.now c.args.line.now _ c.in-Reply.is c.form.ensures)
    (holds_other c.args.against.now.numbers.now c.args.against.now.bodies.now earlier c.args.place c.args.front.now _ (λ name. refl) refl (λ name. refl) refl holds)

pub returns-in-Begin-clause-holds : goal.returns-in-Begin-clause-holds
returns-in-Begin-clause-holds c = λ none (earlier : List Line) holds.
    let says = said c.form.result.now c.args.line.now _ c.in-Begin.is c.form.ensures in
    record {
      marks = marks_later c.args.against.now.numbers.now c.args.front.now.marks.items c.args.place holds.marks;
      begun =
          c.begin.ensures.noted (λ (name : List ℕ). list_any (begins name) earlier) holds.begun none
          ∙ ap (λ (l : Line). map (λ (other : List ℕ). begins other l || list_any (begins other) earlier) c.args.against.now.numbers.now) says;
      decisions = decisions_kept c.args.against.now.numbers.now earlier c.args.line.now c.args.front.now.decisions (sym (ap decision_in says)) holds.decisions;
      outcomes = outcomes_kept c.args.against.now.numbers.now c.args.against.now.bodies.now earlier c.args.line.now c.args.front.now.outcomes (λ name. sym (ap (outcome_in name) says)) (sym (ap (newly_in earlier) says)) holds.outcomes;
    }

pub returns-in_ok-rule-in-Decide-clause-rule : goal.returns-in_ok-rule-in-Decide-clause-rule
returns-in_ok-rule-in-Decide-clause-rule c = λ (earlier : List Line) holds index.
    c.in_ok-rule-in-Decide.ensures.rule earlier c.in-Decide.path holds index
    ∙ ap (rule_of c.args.against.now.numbers.now c.args.against.now.bodies.now c.args.against.now.lines.now earlier c.args.last) (said c.form.result.now c.args.line.now _ c.in-Decide.is c.form.ensures)

pub returns-in_ok-rule-in-Decide-clause-holds : goal.returns-in_ok-rule-in-Decide-clause-holds
returns-in_ok-rule-in-Decide-clause-holds c = λ none (earlier : List Line) holds.
    subst (λ (l : Line). Holds c.args.against.now.numbers.now c.args.against.now.bodies.now (l ∷ earlier) (c.args.place + 1) c.decision.new.front)
    (said c.form.result.now c.args.line.now _ c.in-Decide.is c.form.ensures)
    (c.in_ok-rule-in-Decide.ensures.holds none earlier c.in-Decide.path holds)

pub returns-in_ok-rule-in-Outcome-clause-rule : goal.returns-in_ok-rule-in-Outcome-clause-rule
returns-in_ok-rule-in-Outcome-clause-rule c = λ (earlier : List Line) holds index.
    c.in_ok-rule-in-Outcome.ensures.rule earlier c.args.place holds
    ∙ ap (rule_of c.args.against.now.numbers.now c.args.against.now.bodies.now c.args.against.now.lines.now earlier c.args.last) (said c.form.result.now c.args.line.now _ c.in-Outcome.is c.form.ensures)

pub returns-in_ok-rule-in-Outcome-clause-holds : goal.returns-in_ok-rule-in-Outcome-clause-holds
returns-in_ok-rule-in-Outcome-clause-holds c = λ none (earlier : List Line) holds.
    subst (λ (l : Line). Holds c.args.against.now.numbers.now c.args.against.now.bodies.now (l ∷ earlier) (c.args.place + 1) c.told.new.front)
    (said c.form.result.now c.args.line.now _ c.in-Outcome.is c.form.ensures)
    (c.in_ok-rule-in-Outcome.ensures.holds none earlier c.args.place holds)

pub returns-in-Reply-clause-rule : goal.returns-in-Reply-clause-rule
returns-in-Reply-clause-rule c = λ (earlier : List Line) holds index.
    c.reply.ensures c.args.against.now.bodies.now earlier holds.outcomes
    ∙ ap (rule_of c.args.against.now.numbers.now c.args.against.now.bodies.now c.args.against.now.lines.now earlier c.args.last) (said c.form.result.now c.args.line.now _ c.in-Reply.is c.form.ensures)

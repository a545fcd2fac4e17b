use Rattle.std.proofs.Common.{List, refl}
use Rattle.acc_message.specs.declared.note.Path.{Path}
use Rattle.acc_report_line.specs.declared.line.Line.{Line}
use Rattle.acc_report_line.specs.declared.line.Line.TheVariants.{Decide}
use Rattle.acc_audit.proofs.RuleFacts.{unknown_decision}
use Rattle.acc_audit.proofs.StepFacts.{outcomes_kept}
use Rattle.acc_audit.proofs.step.decision.Goals as goal

pub returns-in_ok-rule-in-Some-clause-rule : goal.returns-in_ok-rule-in-Some-clause-rule
returns-in_ok-rule-in-Some-clause-rule c = λ (earlier : List Line) (path : Path) holds index.
    c.in_ok-rule-in-Some.ensures.rule c.args.against.now.bodies.now earlier c.args.against.now.lines.now path c.requires.sized.as_many holds.marks holds.decisions index

pub returns-in_ok-rule-in-Some-clause-holds : goal.returns-in_ok-rule-in-Some-clause-holds
returns-in_ok-rule-in-Some-clause-holds c = λ none (earlier : List Line) (path : Path) holds.
    record {
      marks = c.in_ok-rule-in-Some.ensures.marks none holds.marks;
      begun = holds.begun;
      decisions = c.in_ok-rule-in-Some.ensures.noted none earlier path holds.decisions;
      outcomes = outcomes_kept c.args.against.now.numbers.now c.args.against.now.bodies.now earlier (Decide c.args.name.now c.args.t path c.args.deps.now) c.args.front.now.outcomes (λ name. refl) refl holds.outcomes;
    }

pub returns-in-None-clause-rule : goal.returns-in-None-clause-rule
returns-in-None-clause-rule c = λ (earlier : List Line) (path : Path) holds index.
    unknown_decision c.args.against.now.numbers.now c.args.against.now.bodies.now c.args.against.now.lines.now earlier c.args.last c.args.name.now c.args.t path c.args.deps.now c.in-None.ensures

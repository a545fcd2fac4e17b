use Rattle.std.proofs.Common.{ℕ, List, refl}
use Rattle.acc_report_line.specs.declared.line.Line.{Line}
use Rattle.acc_report_line.specs.declared.line.Line.TheVariants.{Outcome}
use Rattle.acc_audit.proofs.MarkFacts.{marks_later}
use Rattle.acc_audit.proofs.StepFacts.{decisions_kept}
use Rattle.acc_audit.proofs.step.told.Goals as goal

pub returns-clause-holds : goal.returns-clause-holds
returns-clause-holds c = λ none (earlier : List Line) (place : ℕ) holds.
    record {
      marks = marks_later c.args.against.now.numbers.now c.args.front.now.marks.items place holds.marks;
      begun = holds.begun;
      decisions = decisions_kept c.args.against.now.numbers.now earlier (Outcome c.args.name.now c.args.reply.now) c.args.front.now.decisions refl holds.decisions;
      outcomes = c.in_ok-rule.ensures.noted none earlier holds.outcomes;
    }

use Rattle.std.proofs.Common.{ℕ, List}
use Rattle.serde_json.specs.View.{view}
use Rattle.acc_txn.specs.declared.parts.BodyParts.{BodyParts}
use Rattle.acc_report_line.specs.declared.line.Line.{Line}
use Rattle.acc_schedule.specs.declared.error.PlanError.{PlanError}
use Rattle.acc_audit.proofs.CaseFacts.{given_case, given_refusal, many_in}
use Rattle.acc_audit.proofs.cases.read_case.Goals as goal

pub returns-clause-as_many : goal.returns-clause-as_many
returns-clause-as_many c = many_in (view c.args.root.now) c.case_in.result c.case_in.ensures

pub returns-clause-read : goal.returns-clause-read
returns-clause-read c = λ (names : List (List ℕ)) (bodies : List BodyParts) (lines : List Line) says.
    given_case (view c.args.root.now) c.case_in.result c.case_in.ensures names bodies lines says

pub returns-clause-refuses : goal.returns-clause-refuses
returns-clause-refuses c = λ (error : PlanError) cause. given_refusal (view c.args.root.now) c.case_in.result c.case_in.ensures error cause

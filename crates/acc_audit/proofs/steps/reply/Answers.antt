use Rattle.std.proofs.Common.{◌<◌, ℕ, List, Bool, Some, None, true, false, not, is_some, subst, sym, ap, ◌∙◌}
use Rattle.acc_txn.specs.declared.parts.BodyParts.{BodyParts}
use Rattle.acc_report_line.specs.declared.line.Line.{Line}
use Rattle.acc_audit.specs.Fronts.{first_reply, has_outcome}
use Rattle.acc_audit.specs.Rules.{differs_from, rules}
use Rattle.acc_audit.proofs.NumberFacts.{numbered}
use Rattle.acc_audit.proofs.OutcomeFacts.{first_is}
use Rattle.acc_audit.proofs.StepFacts.{known_first}
use Rattle.acc_audit.proofs.steps.reply.Goals as goal

pub first-requires : goal.first-requires
first-requires c = subst (λ (n : ℕ). c.in-Some.number < n) (sym c.requires.as_many) (numbered c.args.numbers.now c.args.name.now c.in-Some.number (sym c.in-Some.ensures)).0

pub returns-in-Some : goal.returns-in-Some
returns-in-Some c = λ (bodies : List BodyParts) (earlier : List Line) are.
    let names : List (List ℕ) = c.args.numbers.now in
    let name = c.args.name.now in
    let held = c.first.ensures ∙ first_is names bodies earlier c.args.outcomes.now name c.in-Some.number (sym c.in-Some.ensures) are in
    let known = known_first names name (Some c.in-Some.number) true c.in-Some.ensures in
    c.reply_after.ensures ∙ (λ i. rules (known i) false false false (not (is_some (held i))) (differs_from (held i) c.args.reply.now) c.args.last)

pub returns-in-None : goal.returns-in-None
returns-in-None c = λ (bodies : List BodyParts) (earlier : List Line) are.
    let name = c.args.name.now in
    ap (λ (b : Bool). rules b false false false (not (has_outcome name earlier)) (differs_from (first_reply name earlier) c.args.reply.now) c.args.last)
    (known_first c.args.numbers.now name None true c.in-None.ensures)

use Rattle.std.proofs.Common.{List, ℕ, None, map, length, ap, ◌∙◌}
use Rattle.std.proofs.lemmas.List.{length-map}
use Rattle.acc_report_line.specs.declared.line.Line.{Line}
use Rattle.acc_audit.specs.Fronts.{before}
use Rattle.acc_audit.specs.Kept.{least_in}
use Rattle.acc_audit.proofs.FaultFacts.{before-more}
use Rattle.acc_audit.proofs.LeastFacts.{all_one}
use Rattle.acc_audit.proofs.decisions.least.Goals as goal

pub loop-line-init : goal.loop-line-init
loop-line-init c = all_one c.args.numbers.now None c.len.result c.in_ok-least.least.items c.in_ok-least.ensures c.len.ensures

pub lower_by-requires-clause-as_many : goal.lower_by-requires-clause-as_many
lower_by-requires-clause-as_many c =
    ap length c.loop-line.invariant ∙ length-map c.args.numbers.now (λ name. least_in name (before c.args.lines.now c.loop-line.line-index))

pub loop-line-preserved : goal.loop-line-preserved
loop-line-preserved c =
    let i = c.loop-line.line-index in
    c.lower_by.ensures (λ name. least_in name (before c.args.lines.now i)) c.loop-line.invariant
    ∙ ap (λ (ls : List Line). map (λ (name : List ℕ). least_in name ls) c.args.numbers.now) (before-more c.args.lines.now i c.line-item.result c.loop-line-test.true c.line-item.is)

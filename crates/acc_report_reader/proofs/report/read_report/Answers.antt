use Rattle.std.proofs.Common.{◌≡◌, ◌+◌, List, length, Some, None, true, rules, subst, sym, ap}
use Rattle.std.specs.Prelude.{◌==◌}
use Rattle.std.proofs.lemmas.Bool.{eq-eqb}
use Rattle.acc_report_line.specs.declared.line.Line.{Line}
use Rattle.acc_report_reader.specs.Fields.{parts_at}
use Rattle.acc_report_reader.proofs.WholeReport.{IsRead, one_more, less_left, fault_read, unfinished_line}
use Rattle.acc_report_reader.proofs.report.read_report.Goals as goal

pub returns-in_err-numbered : goal.returns-in_err-numbered
returns-in_err-numbered c =
    let cut : Some (c.in-Some.first.now, c.in-Some.others.now) ≡ parts_at 10 c.loop-first.rest.now = c.in-Some.ensures in
    fault_read c.from_residual-in_err-numbered.result c.args.bytes.now c.loop-first.rest.now c.in-Some.first.now c.in-Some.others.now c.loop-first.lines (c.len.result + 1)
    c.in_err-numbered.field-0.0 c.from_residual-in_err-numbered.ensures.1 c.loop-first.invariant cut c.in_err-numbered.ensures (ap (λ n. n + 1) c.len.ensures)

pub loop-first-smaller : goal.loop-first-smaller
loop-first-smaller c =
    let cut : Some (c.in-Some.first.now, c.in-Some.others.now) ≡ parts_at 10 c.loop-first.rest.now = c.in-Some.ensures in
    less_left c.loop-first.rest.now c.in-Some.first.now c.in-Some.others.now cut

pub loop-first-preserved : goal.loop-first-preserved
loop-first-preserved c =
    let cut : Some (c.in-Some.first.now, c.in-Some.others.now) ≡ parts_at 10 c.loop-first.rest.now = c.in-Some.ensures in
    let P : List Line → Type 0 = λ lines. IsRead c.args.bytes.now lines c.in-Some.others.now in
    subst P (sym c.in_ok-push.ensures.ok)
    (one_more c.args.bytes.now c.loop-first.rest.now c.in-Some.first.now c.in-Some.others.now c.loop-first.lines c.in_ok-numbered.field-0 c.loop-first.invariant cut c.in_ok-numbered.ensures)

pub returns : goal.returns
returns c =
    let cut : None ≡ parts_at 10 c.loop-first.rest.now = search rules in
    unfinished_line c.args.bytes.now c.loop-first.rest.now c.loop-first.lines (c.len-else-is_empty.result + 1) c.loop-first.invariant cut
    (λ empty. let f : (length c.loop-first.rest.now == 0) ≡ true = eq-eqb (length c.loop-first.rest.now) 0 empty in cc)
    (ap (λ n. n + 1) c.len-else-is_empty.ensures)

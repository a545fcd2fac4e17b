use Rattle.std.proofs.Common.{◌++◌, length, reverse, take, ap, ◌∙◌, arith, length-append}
use Rattle.std.proofs.lemmas.List.{take_all}
use Rattle.std.proofs.lemmas.Result.{IfOk-weaker}
use Rattle.acc_message.specs.Items.{notes_of}
use Rattle.acc_message.specs.Shown.{with_sent}
use Rattle.acc_report_line.specs.Texts.{full_text, lines_text}
use Rattle.acc_report.specs.Counts.{last_line_of}
use Rattle.acc_report.specs.Numbers.{name_in}
use Rattle.acc_report.specs.Report.{name_at, last_line, lines_in, lines_from}
use Rattle.acc_report.proofs.Joined.{one_more, ended}
use Rattle.acc_report.proofs.report.length_in_lines.Goals as goal

pub loop-place-preserved : goal.loop-place-preserved
loop-place-preserved c =
    let name = name_in c.args.directory.now in
    let called = name_at c.args.directory.now.names.now in
    let items = c.args.items.now in
    let place = c.loop-place.place in
    let item = with_sent c.shown.result c.shown.ensures.0 in
    let front = lines_text (lines_from name called (reverse (take place items))) in
    let more = lines_text (lines_in name called item) in
    let part = ap length (c.in_ok-push_item.ensures c.shown.ensures.0 ∙ ap (λ t. t ++ more) c.clear.ensures.items) in
    let all = ap length (one_more name called items place item c.shown.ensures.1) in
    omega (arith, c.in_ok-count.ensures, c.loop-place.invariant, c.len.ensures, c.push_item.new.text.ok.0, part, length-append front more, all)

pub returns : goal.returns
returns c =
    let name = name_in c.args.directory.now in
    let called = name_at c.args.directory.now.names.now in
    let items = c.args.items.now in
    let lines = lines_from name called (reverse items) in
    let last = last_line (notes_of (reverse items)) in
    let whole = ap (λ l. length (lines_text (lines_from name called (reverse l)))) (take_all c.loop-place.place items (omega (arith, c.loop-place-test.false, c.len-place-end.ensures))) in
    let part = ap length (c.in_ok-push_last.ensures ∙ ap (λ t. t ++ full_text (last_line_of c.args.counts.now)) c.clear-2.ensures.items ∙ ap full_text c.requires) in
    let all = ap length (ended lines last) in
    IfOk-weaker c.sum-2.result _ _ (λ count is. omega (arith, is, c.loop-place.invariant, whole, c.len-2.ensures, c.push_last.new.text.ok.0, part, all, length-append (lines_text lines) (full_text last))) c.sum-2.ensures

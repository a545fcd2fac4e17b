use Rattle.std.proofs.Common.{◌++◌, reverse, sym, ap, ◌∙◌, arith}
use Rattle.std.proofs.lemmas.List.{take_all}
use Rattle.acc_message.specs.Items.{notes_of}
use Rattle.acc_message.specs.Shown.{with_sent}
use Rattle.acc_report_line.specs.Texts.{full_text, lines_text}
use Rattle.acc_report.specs.Numbers.{name_in}
use Rattle.acc_report.specs.Report.{name_at, name_of, last_line, lines_in, lines_from, lines_of}
use Rattle.acc_report.proofs.Joined.{ended, one_more}
use Rattle.acc_report.proofs.NameFacts.{name_in-is}
use Rattle.acc_report.proofs.report.text_in_lines.Goals as goal

pub loop-place-preserved : goal.loop-place-preserved
loop-place-preserved c =
    let directory = c.in_ok-directory.directory in
    let name = name_in directory in
    let called = name_at directory.names.now in
    let item = with_sent c.shown.result c.shown.ensures.0 in
    c.in_ok-push_item.ensures c.shown.ensures.0
    ∙ ap (λ text. text ++ lines_text (lines_in name called item)) c.loop-place.invariant
    ∙ one_more name called c.args.items.now c.loop-place.place item c.shown.ensures.1

pub returns : goal.returns
returns c =
    let directory = c.in_ok-directory.directory in
    let called = name_at directory.names.now in
    let history = reverse c.args.items.now in
    let last = last_line (notes_of history) in
    c.from_vec.ensures ∙ c.in_ok-push_last.ensures
    ∙ ap (λ line. c.loop-place.text.items ++ full_text line) c.in_ok-counts.ensures.last
    ∙ ap (λ text. text ++ full_text last)
    (c.loop-place.invariant
    ∙ ap (λ items. lines_text (lines_from (name_in directory) called (reverse items))) (take_all c.loop-place.place c.args.items.now (omega (arith, c.loop-place-test.false, c.len-place-end.ensures)))
    ∙ ap (λ name. lines_text (lines_from name called history)) (name_in-is directory c.args.names.now c.args.roll.now history c.in_ok-directory.ensures)
    ∙ ap (λ names. lines_text (lines_from (name_of c.args.names.now c.args.roll.now history) (name_at names) history)) c.in_ok-directory.ensures.0)
    ∙ sym (ended (lines_of c.args.names.now c.args.roll.now history) last)

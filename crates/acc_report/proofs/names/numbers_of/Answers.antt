use Rattle.std.proofs.Common.{reverse, take, sym, ap, ◌∙◌, arith}
use Rattle.std.proofs.lemmas.List.{take_all}
use Rattle.std.proofs.lemmas.Result.{IfOk-weaker}
use Rattle.acc_message.specs.Items.{txn_in, txn_of}
use Rattle.acc_message.specs.Shown.{with_sent}
use Rattle.acc_report.specs.Known.{number_at}
use Rattle.acc_report.specs.Report.{number_in, number_of}
use Rattle.acc_report.proofs.Steps.{or_else-none, or_else-assoc, reverse_more}
use Rattle.acc_report.proofs.names.numbers_of.Goals as goal

pub loop-place-init : goal.loop-place-init
loop-place-init c = λ x. c.in_ok-numbers.ensures x ∙ sym (or_else-none (number_in c.args.roll.now x))

pub loop-place-preserved : goal.loop-place-preserved
loop-place-preserved c = λ x.
    let items = c.args.items.now in
    let place = c.loop-place.place in
    let item = with_sent c.shown.result c.shown.ensures.0 in
    let found = c.in_ok-enter_item.ensures c.shown.ensures.0 x in
    let before = c.loop-place.invariant x in
    let more = ap (λ items. number_of c.args.roll.now items x) (reverse_more items place item c.shown.ensures.1) in
    let joined = or_else-assoc (number_in c.args.roll.now x) (txn_of (reverse (take place items)) x) (txn_in x item) in
    cc

pub returns : goal.returns
returns c =
    IfOk-weaker c.with_table.result _ _ (λ numbers same x.
    ap (λ known. number_at known x) same
    ∙ c.loop-place.invariant x
    ∙ ap (λ items. number_of c.args.roll.now (reverse items) x) (take_all c.loop-place.place c.args.items.now (omega (arith, c.loop-place-test.false, c.len-place-end.ensures)))) c.with_table.ensures

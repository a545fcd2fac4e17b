use Rattle.std.proofs.Common.{reverse, ap, ◌∙◌, arith}
use Rattle.std.proofs.lemmas.List.{take_all}
use Rattle.acc_message.specs.Items.{txn_of}
use Rattle.acc_message.specs.Shown.{with_sent}
use Rattle.acc_report.proofs.Steps.{reverse_more}
use Rattle.acc_heal.proofs.begun.begun.Goals as goal

pub loop-place-preserved : goal.loop-place-preserved
loop-place-preserved c = λ x.
    let items = c.args.items.now.items in
    let place = c.loop-place.place in
    let item = with_sent c.shown.result c.shown.ensures.0 in
    let found = c.in_ok-enter_item.ensures c.shown.ensures.0 x in
    let before = c.loop-place.invariant x in
    let more = ap (λ items. txn_of items x) (reverse_more items place item c.shown.ensures.1) in
    cc

pub returns : goal.returns
returns c = λ x.
    c.loop-place.invariant x
    ∙ ap (λ items. txn_of (reverse items) x) (take_all c.loop-place.place c.args.items.now.items (omega (arith, c.loop-place-test.false, c.len-place-end.ensures)))

use Rattle.std.proofs.Common.{reverse, take, ap}
use Rattle.std.proofs.lemmas.List.Sums.{sum_by-append}
use Rattle.std.specs.Prelude.{cond}
use Rattle.std.specs.List.{count_by}
use Rattle.acc_message.specs.Items.{notes_of, noted_in}
use Rattle.acc_message.specs.Shown.{with_sent}
use Rattle.acc_report.specs.Counts.{is_counted}
use Rattle.acc_report.proofs.Steps.{reverse_more}
use Rattle.acc_report.proofs.summary.Counts.count.Goals as goal

pub loop-place-preserved : goal.loop-place-preserved
loop-place-preserved c what =
    let is = is_counted what in
    let items = c.args.items.now in
    let place = c.loop-place.place in
    let item = with_sent c.shown.result c.shown.ensures.0 in
    let before = c.loop-place.invariant what in
    let added = c.in_ok-add_item.ensures c.shown.ensures.0 what in
    let more = ap (λ items. count_by is (notes_of items)) (reverse_more items place item c.shown.ensures.1) in
    let sum = sum_by-append (λ note. cond (is note) 1 0) (notes_of (reverse (take place items))) (noted_in item) in
    cc

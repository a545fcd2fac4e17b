use Rattle.std.proofs.Common.{refl, ap, ◌∙◌, arith}
use Rattle.std.specs.Prelude.{count_by}
use Rattle.std.proofs.lemmas.List.{take_all}
use Rattle.acc_audit.specs.Said.{is_begin}
use Rattle.acc_audit.proofs.RuleFacts.{count_more, counted_few}
use Rattle.acc_audit.proofs.ends.begins.Goals as goal

pub loop-place-init : goal.loop-place-init
loop-place-init c = record { counted = refl; few = omega arith }

pub plus-count-requires : goal.plus-count-requires
plus-count-requires c = omega (arith, c.loop-place.invariant.few, c.loop-place-test.true)

pub loop-place-preserved : goal.loop-place-preserved
loop-place-preserved c = record {
  counted = count_more is_begin c.args.lines.now c.loop-place.place c.index-lines-place.result c.is_begin.result c.loop-place.count c.plus-count.result c.loop-place-test.true c.index-lines-place.is c.is_begin.ensures c.loop-place.invariant.counted c.plus-count.ensures;
  few = counted_few c.is_begin.result c.loop-place.count c.plus-count.result c.loop-place.place c.loop-place.invariant.few c.plus-count.ensures;
}

pub returns : goal.returns
returns c = c.loop-place.invariant.counted ∙ ap (count_by is_begin) (take_all c.loop-place.place c.args.lines.now (omega (arith, c.loop-place-test.false)))

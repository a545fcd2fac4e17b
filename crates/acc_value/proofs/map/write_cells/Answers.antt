use Rattle.std.proofs.Common.{◌+◌, ◌∙◌, ap, sym, cond, arith, length-set}
use Rattle.std.proofs.lemmas.List.{drop-set-lt}
use Rattle.acc_value.specs.Key.{key_eq}
use Rattle.acc_value.specs.Cells.{applied}
use Rattle.acc_value.specs.Entries.{held}
use Rattle.acc_value.proofs.EntryFacts.{left_step, first_left}
use Rattle.acc_value.proofs.map.write_cells.Goals as goal

pub loop-place-preserved : goal.loop-place-preserved
loop-place-preserved c =
    let here = first_left c.loop-place.cells.items c.args.writes.now c.loop-place.place c.index_mut.result.now c.index-writes-place.result c.loop-place.invariant.1 c.loop-place-test.true c.index_mut.ensures.value c.index-writes-place.is c.loop-place.invariant.2 in
    let cell = c.take-cell.ensures.value ∙ here.0 in (
      left_step (applied (held c.args.entries.now) c.args.writes.now) c.loop-place.entries c.set_cell.new.entries c.args.writes.now c.loop-place.place c.index-writes-place.result
          c.loop-place-test.true c.index-writes-place.is
          (λ q.
          c.set_cell.ensures.set q
          ∙ ap (λ w. cond (key_eq w.0 q) c.take-cell.result (held c.loop-place.entries q)) (sym c.index-writes-place.is)
          ∙ ap (λ x. cond (key_eq c.index-writes-place.result.0 q) x (held c.loop-place.entries q)) cell)
          (λ q apart. c.set_cell.ensures.kept q (ap (λ w. key_eq w.0 q) (sym c.index-writes-place.is) ∙ apart))
          c.loop-place.invariant.0,
      length-set _ _ _ ∙ c.loop-place.invariant.1,
      drop-set-lt (c.loop-place.place + 1) c.loop-place.cells.items c.loop-place.place c.take-cell.new.self (omega (arith)) ∙ here.1,
    )

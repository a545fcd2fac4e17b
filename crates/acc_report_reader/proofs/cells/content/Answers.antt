use Rattle.std.proofs.Common.{◌+◌, ◌++◌, ◌&&◌, not, get_or, drop, sym, ap, ◌∙◌}
use Rattle.std.specs.Prelude.{option_map, ◌==◌}
use Rattle.acc_report_reader.specs.Fields.{content_in}
use Rattle.acc_report_reader.proofs.Cutting.{content_on}
use Rattle.acc_report_reader.proofs.cells.content.Goals as goal

pub loop-byte-preserved : goal.loop-byte-preserved
loop-byte-preserved c =
    content_on _ c.args.bytes.now c.loop-byte.said c.loop-byte.byte-index c.loop-byte.waits c.loop-byte-test.true c.if-waits-quote.false c.loop-byte.invariant
    ∙ ap (λ said. option_map (λ r. said ++ r)
    (content_in ((get_or c.args.bytes.now c.loop-byte.byte-index 0 == 39) && not c.loop-byte.waits) (drop (c.loop-byte.byte-index + 1) c.args.bytes.now)))
    (sym c.in_ok-push_said.ensures)

use Rattle.acc_report_reader.proofs.Cutting.{piece_on}
use Rattle.acc_report_reader.proofs.parts.piece.Goals as goal

pub loop-place-preserved : goal.loop-place-preserved
loop-place-preserved c = piece_on c.args.bytes.now c.loop-place.place c.loop-place.inside c.loop-place-test.true c.if-byte-inside.false c.loop-place.invariant

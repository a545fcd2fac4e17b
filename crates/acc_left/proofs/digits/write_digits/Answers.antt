use Rattle.std.proofs.Common.{arith}
use Rattle.hex.specs.Hex.{lower_digits}
use Rattle.hex.proofs.Pairs.{encode_done, encode_step}
use Rattle.acc_left.proofs.digits.write_digits.Goals as goal

pub loop-place-preserved : goal.loop-place-preserved
loop-place-preserved c =
    encode_step lower_digits c.args.bytes.now c.loop-place.digits c.loop-place.place c.digit_of.result c.digit_of-in-loop-place.result (omega arith) (omega (arith, c.requires))
    c.digit_of.ensures c.digit_of-in-loop-place.ensures c.loop-place.invariant

pub returns : goal.returns
returns c = encode_done lower_digits c.args.bytes.now c.loop-place.digits c.loop-place.place (omega arith) (omega (arith, c.requires)) c.loop-place.invariant

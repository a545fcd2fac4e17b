use Rattle.std.proofs.Common.{◌*◌, arith}
use Rattle.std.proofs.lemmas.List.{length-set}
use Rattle.std.proofs.lemmas.Simd.{length-put_chunk}
use Rattle.hex.proofs.Pairs.{decode_done, decode_step}
use Rattle.acc_left.proofs.LaneFacts.{lanes_step}
use Rattle.acc_left.proofs.digits.write_bytes.Goals as goal

pub loop-bytes-preserved : goal.loop-bytes-preserved
loop-bytes-preserved c =
    let same = length-put_chunk c.loop-bytes.place c.loop-bytes.bytes c.eight_bytes.result in
    record {
      within = omega (arith, same, c.loop-bytes-test.true, c.loop-bytes.invariant.within);
      fits = omega (arith, same, c.loop-bytes.invariant.fits);
      written = lanes_step c.args.digits.now c.loop-bytes.bytes c.eight_bytes.result c.loop-bytes.place (omega (arith, c.loop-bytes-test.true, c.loop-bytes.invariant.within, c.loop-bytes.invariant.fits))
          (omega (arith, c.loop-bytes-test.true, c.loop-bytes.invariant.within)) c.requires.digits c.eight_bytes.ensures c.loop-bytes.invariant.written;
    }

pub loop-rest-preserved : goal.loop-rest-preserved
loop-rest-preserved c =
    let same = length-set c.loop-rest.bytes c.loop-rest.rest c.byte_of.result in
    record {
      fits = omega (arith, same, c.loop-rest.invariant.fits);
      written = decode_step c.args.digits.now c.loop-rest.bytes c.loop-rest.rest c.byte_of.result (omega (arith, c.loop-rest.invariant.fits)) (omega arith)
          (c.byte_of.ensures (2 * c.loop-rest.rest)) c.loop-rest.invariant.written;
    }

pub returns : goal.returns
returns c = decode_done c.args.digits.now c.loop-rest.bytes c.loop-rest.rest (omega arith) (omega (arith, c.loop-rest.invariant.fits)) c.loop-rest.invariant.written

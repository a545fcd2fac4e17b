use Rattle.std.proofs.lemmas.Simd.{length-chunk, get_or-chunk}
use Rattle.acc_lanes.proofs.vectors.heights_at.Goals as goal

pub returns : goal.returns
returns c = record { long = length-chunk c.args.at 8 c.args.column.now c.requires; each = λ k l. get_or-chunk c.args.at 8 c.args.column.now k 0 l }

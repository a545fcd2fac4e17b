use Rattle.std.proofs.Common.{◌∙◌}
use Rattle.std.proofs.lemmas.List.{length-map}
use Rattle.std.proofs.Math.ListN.{get_or-map}
use Rattle.std.proofs.lemmas.Simd.{length-chunk, get_or-chunk}
use Rattle.std.specs.Simd.Lanes.{chunk}
use Rattle.acc_lanes.proofs.vectors.origins_at.Goals as goal

pub returns : goal.returns
returns c =
    let at = c.args.at in
    let column = c.args.column.now in
    record {
      long = length-map _ _ ∙ length-chunk at 8 column c.requires;
      each = λ k l. get_or-map _ (chunk at 8 column) k 0 ∙ get_or-chunk at 8 column k 0 l;
    }

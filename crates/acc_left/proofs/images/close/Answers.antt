use Rattle.std.proofs.Common.{◌≡◌, [], ◌∷◌, ◌++◌, get_or, set, sym, ap, ◌∙◌}
use Rattle.std.proofs.lemmas.List.Edits.{map_over_more}
use Rattle.acc_left.specs.declared.image.Image.{Image}
use Rattle.acc_left.specs.Kept.{closed}
use Rattle.acc_left.proofs.images.close.Goals as goal

pub loop-image-preserved : goal.loop-image-preserved
loop-image-preserved c =
    let x : Image = c.image-item.result in
    let i = c.loop-image.image-index in
    let now = c.loop-image.images in
    let at : x ≡ get_or now i x = c.image-item.is in
    let bytes : c.push.new.self ≡ x.bytes ++ 0 ∷ [] = c.in_ok-push.ensures.ok ∙ ap (λ (image : Image). image.bytes ++ 0 ∷ []) (sym at) in
    (λ k. set now i (record { actor = (sym at k).actor; bytes = bytes k })) ∙ map_over_more closed c.args.images.now now i x c.loop-image-test.true c.loop-image.invariant at

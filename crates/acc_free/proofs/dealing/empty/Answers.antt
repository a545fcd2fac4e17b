-- One hand more that holds nothing.
use Rattle.std.proofs.Common.{◌+◌, [], ◌∷◌, List, length, length-append, ◌∙◌, ap}
use Rattle.std.specs.Prelude.{Vec}
use Rattle.acc_free.specs.Dealing.{all_in}
use Rattle.acc_free.proofs.Hands.{nothing_more}
use Rattle.acc_free.proofs.dealing.empty.Goals as goal

pub loop-preserved : goal.loop-preserved
loop-preserved g c =
    let hands = c.loop.hands.items in
    let long = length-append hands (c.new.result ∷ []) in record {
      all = ap (λ (hands : List (Vec g.row.T.Denot _)). all_in hands) c.in_ok-push.ensures.items ∙ nothing_more hands c.new.result c.loop.invariant.all c.new.ensures.items;
      count = ap (λ (hands : List (Vec g.row.T.Denot _)). length hands) c.in_ok-push.ensures.items ∙ long ∙ ap (λ n. n + 1) c.loop.invariant.count;
    }

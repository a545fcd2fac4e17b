use Rattle.std.proofs.Common.{◌≡◌, ◌+◌, ◌-◌, ◌≤◌, List, length, take, drop, Bool, ◌∙◌, subst, arith}
use Rattle.std.proofs.lemmas.Result.{IfOk-weaker}
use Rattle.acc_value.specs.declared.key.Key.{Key}
use Rattle.acc_topology.specs.Keys.{share_of}
use Rattle.acc_record.proofs.ShareFacts.{rest_is, rest_length, part_is}
use Rattle.acc_record.proofs.share.share_of.Goals as goal

pub returns : goal.returns
returns c =
    let layout = c.args.topology.now in
    let shard = c.args.shard in
    let pairs : List (Key × Bool) = c.pairs-pairs.result.now in
    let a = c.run-from.result in
    let b = c.run.result in
    let d = c.run-behind.result in
    let long = rest_length pairs a in
    let within : b ≤ length (take (length pairs - a) (drop a pairs)) = c.run.ensures.within in
    let part = part_is layout shard pairs a b d _ _ (rest_is pairs a) (rest_is pairs (a + b)) (omega arith) (omega arith) c.run-from.ensures.each c.run.ensures.each c.run-behind.ensures.each in
    let whole = c.args.footprint.now in
    IfOk-weaker c.part.result (λ (share : List (Key × Bool)). share ≡ take (a + b - a) (drop a whole)) (λ (share : List (Key × Bool)). share ≡ share_of layout whole shard)
    (λ _ e. e ∙ subst (λ (xs : List (Key × Bool)). take (a + b - a) (drop a xs) ≡ share_of layout xs shard) c.pairs-pairs.ensures.pairs part)
    c.part.ensures

-- The closure compares the pair's key with the key that is sought.
use Rattle.std.proofs.Common.{rules}
use Rattle.std.proofs.lemmas.Fn.{always_returns_same}
use Rattle.acc_value.specs.Key.{key_cmp}
use Rattle.acc_value.proofs.Rising.{searched}
use Rattle.acc_opening.proofs.layer.place_of.Goals as goal

pub returns : goal.returns
returns c =
    let compared = c.binary_search_by.ensures.position (λ pair. key_cmp pair.0 c.args.key.now) (always_returns_same _ _ _ (λ a r f called. search rules)) in
    searched c.args.pairs.now c.args.key.now c.binary_search_by.result c.requires c.binary_search_by.ensures.bound compared

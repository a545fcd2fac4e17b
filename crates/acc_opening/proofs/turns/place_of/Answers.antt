use Rattle.std.proofs.Common.{refl, rules}
use Rattle.std.proofs.lemmas.List.Sorted.{answers_always}
use Rattle.acc_stamp.proofs.Places.{searched}
use Rattle.acc_opening.specs.Turns.{key_lt, key_of}
use Rattle.acc_opening.proofs.TurnFacts.{key_cmp_total, key_cmp_exact}
use Rattle.acc_opening.proofs.turns.place_of.Goals as goal

pub returns : goal.returns
returns c =
    searched {lt = key_lt} key_cmp_total key_cmp_exact (λ a b. refl) key_of c.args.turns.now (c.args.t, c.args.id) _ c.requires c.binary_search_by_key.ensures.bound
    (c.binary_search_by_key.ensures.position key_of (answers_always _ _ _ (λ f a r g h. search rules)))

-- The shards of keys exist in an accepted layout.
use Rattle.std.proofs.Common.{◌≡◌, ℕ, Bool, true, eqb, List, [], ◌∷◌, sym, ◌∙◌, subst, ⊎_elim, arith}
use Rattle.std.proofs.lemmas.Bool.{true≢false, or_cases, eqb-true}
use Rattle.acc_value.specs.declared.key.Key.{Key}
use Rattle.acc_topology.specs.Sets.{is_among, in_order}
use Rattle.acc_topology.specs.Layout.{Layout, IsLayout, HasShard}
use Rattle.acc_topology.specs.Keys.{shard_of_key, shards_of}
use Rattle.acc_topology.proofs.Ends.{shard_of-holds}
use Rattle.acc_topology.proofs.Listed.{is_among-in_order, AreSmall}
use Rattle.acc_tally.specs.Stands.{HasShards}

exists_of : (layout : Layout) → IsLayout layout → (footprint : List (Key × Bool)) (n : ℕ) → is_among (shards_of layout footprint) n ≡ true → HasShard layout n
exists_of layout valid [] n e = absurd (true≢false (sym e))
exists_of layout valid (item ∷ footprint) n e =
    ⊎_elim
    (λ same. subst (HasShard layout) (eqb-true _ n same) (shard_of-holds layout item.0.key valid.ends).exists)
    (λ rest. exists_of layout valid footprint n rest)
    (or_cases (eqb (shard_of_key layout item.0) n) (is_among (shards_of layout footprint) n) e)

small_of : (layout : Layout) → IsLayout layout → (footprint : List (Key × Bool)) → AreSmall (shards_of layout footprint)
small_of layout valid footprint n e =
    let has = exists_of layout valid footprint n e in
    let few = valid.few_shards in
    omega (arith, has.1, few)

pub shards_of-exist : (layout : Layout) → IsLayout layout → (footprint : List (Key × Bool)) → HasShards layout (in_order (shards_of layout footprint))
shards_of-exist layout valid footprint n e =
    exists_of layout valid footprint n (sym (is_among-in_order (shards_of layout footprint) (small_of layout valid footprint) n) ∙ e)

use Rattle.std.proofs.Common.{◌≡◌, ◌==◌, ◌++◌, Bool, List, [], ◌∷◌, filter, cond, Result, Ok, Err, IfOk, true, refl, sym, ap, subst, ◌∙◌}
use Rattle.std.specs.List.{list_all}
use Rattle.std.proofs.lemmas.Bool.{eq-eqb, and_parts}
use Rattle.acc_base.specs.declared.memory.OutOfMemory.{OutOfMemory}
use Rattle.acc_value.specs.declared.key.Key.{Key}
use Rattle.acc_value.specs.Pairs.{IsRising}
use Rattle.acc_topology.specs.Keys.{shard_of_key}
use Rattle.acc_topology.proofs.Shares.{share-rises}
use Rattle.acc_topology.proofs.topology.Topology.share.Goals as goal

-- what passes in whole is its own part
filter_all : {X : Type 0} (p : X → Bool) (xs : List X) → list_all p xs ≡ true → filter p xs ≡ xs
filter_all p [] h = refl
filter_all p (x ∷ xs) h =
    let both = and_parts (p x) (list_all p xs) h in
    ap (λ b. cond b (x ∷ filter p xs) (filter p xs)) both.0 ∙ ap (λ ys. x ∷ ys) (filter_all p xs both.1)

share_all : (r : Result (List (Key × Bool)) OutOfMemory) (all part : List (Key × Bool)) → IfOk r (λ copy. copy ≡ all) → part ≡ all → IfOk r (λ share. share ≡ part)
share_all (Ok copy) all part h e = h ∙ sym e
share_all (Err error) all part h e = tt

pub returns-then-holds_all : goal.returns-then-holds_all
returns-then-holds_all c =
    share_all c.copy.result c.args.footprint.now _ c.copy.ensures (filter_all (λ item. shard_of_key c.args.self.now item.0 == c.args.shard) c.args.footprint.now (sym c.if-holds_all.ensures))

pub push-requires : goal.push-requires
push-requires c =
    let item = c.loop-key-item.result in
    let lies : (shard_of_key c.args.self.now item.0 == c.args.shard) ≡ true = eq-eqb _ _ (sym c.shard_of.ensures.value ∙ c.if-shard_of-shard.true) in
    let rises : IsRising c.pairs-key-items.result.now = subst IsRising (sym c.pairs-key-items.ensures.pairs) c.pairs-key-items.ensures.rising in
    let h = share-rises (λ k. shard_of_key c.args.self.now k == c.args.shard) c.pairs-key-items.result.now c.loop-key.share c.loop-key.key-index item rises c.loop-key-test.true c.loop-key-item.is lies c.loop-key.invariant in
    subst (λ (k : Key). IsRising (c.loop-key.share ++ (k, item.1) ∷ [])) (sym c.in_ok-copy.ensures) h

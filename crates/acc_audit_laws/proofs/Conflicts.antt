-- Conflicts in a shard, and those of whole footprints.
use Rattle.std.proofs.Common.{◌≡◌, ◌==◌, ℕ, List, [], ◌∷◌, filter, Bool, true, false, ◌&&◌, ◌||◌, cond, refl, sym, ap, ap₂, ◌∙◌}
use Rattle.std.specs.List.{list_any}
use Rattle.std.proofs.lemmas.Bool.{and_parts}
use Rattle.std.proofs.lemmas.Bool.Decides.{Decides-eqb}
use Rattle.std.proofs.lemmas.List.Folds.{Any-from_list_any, list_any_at}
use Rattle.acc_value.specs.declared.key.Key.{Key}
use Rattle.acc_value.specs.Key.{key_eq}
use Rattle.acc_value.specs.Footprint.{clashes}
use Rattle.acc_value.proofs.KeyOrder.{key_eq-true}
use Rattle.acc_topology.specs.Keys.{shard_of_key, share_of}
use Rattle.acc_topology.specs.Layout.{Layout}

abbrev pub Use : Type 0
Use = Key × Bool

module _ {X : Type 0} where
  any_filter : (test kept : X → Bool) (xs : List X) → list_any test (filter kept xs) ≡ list_any (λ x. kept x && test x) xs
  any_filter test kept [] = refl
  any_filter test kept (x ∷ xs) =
      elim (kept x) as (λ b. list_any test (cond b (x ∷ filter kept xs) (filter kept xs)) ≡ ((b && test x) || list_any (λ y. kept y && test y) xs)) [
        | true ↦ ap (λ b. test x || b) (any_filter test kept xs)
        | false ↦ any_filter test kept xs
      ]

  any_more : (test wide : X → Bool) (xs : List X) → ((x : X) → test x ≡ true → wide x ≡ true) → list_any test xs ≡ true → list_any wide xs ≡ true
  any_more test wide xs more h =
      let any = Any-from_list_any test xs h in
      list_any_at wide xs any.0 any.1 any.2 (ap wide any.3 ∙ more any.1 any.4)

-- the two uses are of one key, and one of them writes it
abbrev meet : Use → Use → Bool
meet p q = key_eq p.0 q.0 && (p.1 || q.1)

abbrev lies_in : Layout → ℕ → Use → Bool
lies_in layout shard item = shard_of_key layout item.0 == shard

-- the uses of a shard clash where two uses that lie in it do
clash_there : (layout : Layout) (shard : ℕ) (a b : List Use)
    → clashes (share_of layout a shard) (share_of layout b shard) ≡ list_any (λ p. lies_in layout shard p && list_any (λ q. lies_in layout shard q && meet p q) b) a
clash_there layout shard a b =
    any_filter (λ p. list_any (meet p) (share_of layout b shard)) (lies_in layout shard) a
    ∙ same a
  where
    same : (uses : List Use) → list_any (λ p. lies_in layout shard p && list_any (meet p) (share_of layout b shard)) uses
        ≡ list_any (λ p. lies_in layout shard p && list_any (λ q. lies_in layout shard q && meet p q) b) uses
    same [] = refl
    same (p ∷ uses) = ap₂ (λ x y. (lies_in layout shard p && x) || y) (any_filter (meet p) (lies_in layout shard) b) (same uses)

pub whole_clash : (layout : Layout) (shard : ℕ) (a b : List Use) → clashes (share_of layout a shard) (share_of layout b shard) ≡ true → clashes a b ≡ true
whole_clash layout shard a b h =
    any_more (λ p. lies_in layout shard p && list_any (λ q. lies_in layout shard q && meet p q) b) (λ p. list_any (meet p) b) a
    (λ p there. any_more (λ q. lies_in layout shard q && meet p q) (meet p) b (λ q both. (and_parts (lies_in layout shard q) (meet p q) both).1)
    (and_parts (lies_in layout shard p) (list_any (λ q. lies_in layout shard q && meet p q) b) there).1)
    (sym (clash_there layout shard a b) ∙ h)

pub some_clash : (layout : Layout) (a b : List Use) → clashes a b ≡ true → (shard : ℕ) × (clashes (share_of layout a shard) (share_of layout b shard) ≡ true)
some_clash layout a b h =
    let left = Any-from_list_any (λ p. list_any (meet p) b) a h in
    let p : Use = left.1 in
    let right = Any-from_list_any (meet p) b left.4 in
    let q : Use = right.1 in
    let shard : ℕ = shard_of_key layout p.0 in
    let same : p.0 ≡ q.0 = key_eq-true p.0 q.0 (and_parts (key_eq p.0 q.0) (p.1 || q.1) right.4).0 in
    let here : lies_in layout shard p ≡ true = (Decides-eqb shard shard).1 refl in
    let there : lies_in layout shard q ≡ true = (Decides-eqb (shard_of_key layout q.0) shard).1 (ap (shard_of_key layout) (sym same)) in
    let inner : list_any (λ r. lies_in layout shard r && meet p r) b ≡ true =
    list_any_at (λ r. lies_in layout shard r && meet p r) b right.0 q right.2 (ap (λ (r : Use). lies_in layout shard r && meet p r) right.3 ∙ ap₂ ◌&&◌ there right.4) in
    let outer : list_any (λ r. lies_in layout shard r && list_any (λ s. lies_in layout shard s && meet r s) b) a ≡ true =
    list_any_at (λ r. lies_in layout shard r && list_any (λ s. lies_in layout shard s && meet r s) b) a left.0 p left.2
    (ap (λ (r : Use). lies_in layout shard r && list_any (λ s. lies_in layout shard s && meet r s) b) left.3 ∙ ap₂ ◌&&◌ here inner) in
    (shard, clash_there layout shard a b ∙ outer)

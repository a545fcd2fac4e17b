-- The steps of a merge of two lists of dependencies by shard.
use Rattle.std.proofs.Common.{◌≡◌, ℕ, ◌+◌, ◌<◌, ◌≤◌, true, nat_lt, List, [], ◌∷◌, ◌++◌, length, get_or, drop, zero, suc, sym, refl, ap, ◌∙◌, subst, append-nil}
use Rattle.std.specs.declared.cmp.Ordering.TheVariants.{Less, Equal, Greater}
use Rattle.std.specs.List.{AllByRecursion}
use Rattle.std.specs.Ordering.{nat_cmp, is_lt, ordering_reverse}
use Rattle.std.proofs.lemmas.Bool.{cond-true, cond-false}
use Rattle.std.proofs.lemmas.Cmp.{nat_cmp_total}
use Rattle.std.proofs.lemmas.List.{drop_all}
use Rattle.std.proofs.lemmas.Map.Lookups.{exact_unsigned}
use Rattle.acc_stamp.specs.Rising.{IsRisingBy, ids_union}
use Rattle.acc_stamp.proofs.Order.{number_order, asym, nat_cmp-is_lt}
use Rattle.acc_deps.specs.declared.shards.ShardDeps.{ShardDeps}
use Rattle.acc_deps.specs.Deps.{shard_lt, with_shard, deps_union}
use Rattle.acc_deps.proofs.ByShard.{Above, above_each, each_with_shard, with_shard-first}
use Rattle.acc_deps.proofs.Merge.{front, stepped}

-- ---- both lists, from their fronts

each_deps_union : (s : ℕ) (ds es : List ShardDeps) → AllByRecursion (Above s) ds → AllByRecursion (Above s) es → AllByRecursion (Above s) (deps_union ds es)
each_deps_union s ds [] h k = h
each_deps_union s ds (e ∷ es) h k = each_with_shard s e (deps_union ds es) k.0 (each_deps_union s ds es h k.1)

deps_union-nil : (es : List ShardDeps) → IsRisingBy shard_lt es → deps_union [] es ≡ es
deps_union-nil [] h = refl
deps_union-nil (e ∷ es) h = ap (with_shard e) (deps_union-nil es h.1) ∙ with_shard-first e es h.0

deps_union-left : (d : ShardDeps) (ds es : List ShardDeps) → AllByRecursion (Above d.shard) es → deps_union (d ∷ ds) es ≡ d ∷ deps_union ds es
deps_union-left d ds [] h = refl
deps_union-left d ds (e ∷ es) h =
    ap (with_shard e) (deps_union-left d ds es h.1)
    ∙ cond-false (shard_lt e d) _ _ (asym number_order d.shard e.shard h.0) ∙ cond-true (shard_lt d e) _ _ h.0

deps_union-right : (e : ShardDeps) (ds es : List ShardDeps) → AllByRecursion (Above e.shard) ds → AllByRecursion (Above e.shard) es → deps_union ds (e ∷ es) ≡ e ∷ deps_union ds es
deps_union-right e ds es h k = with_shard-first e (deps_union ds es) (each_deps_union e.shard ds es h k)

deps_union-both : (d e : ShardDeps) (ds es : List ShardDeps) → d.shard ≡ e.shard → AllByRecursion (Above e.shard) es → deps_union (d ∷ ds) (e ∷ es) ≡ record d { ids = ids_union d.ids e.ids } ∷ deps_union ds es
deps_union-both d e ds es p h =
    ap (with_shard e) (deps_union-left d ds es (subst (λ s. AllByRecursion (Above s) es) (sym p) h))
    ∙ cond-false (shard_lt e d) _ _ (ap (nat_lt e.shard) p ∙ number_order.irrefl e.shard)
    ∙ cond-false (shard_lt d e) _ _ (ap (nat_lt d.shard) (sym p) ∙ number_order.irrefl d.shard)

-- ---- the places

-- what is merged at the places i and j, with the union of what is left behind it, is the union
abbrev pub AreMerged : List ShardDeps → List ShardDeps → List ShardDeps → ℕ → ℕ → Type 0
AreMerged left right merged i j = merged ++ deps_union (drop i left) (drop j right) ≡ deps_union left right

rest_rises : (xs : List ShardDeps) (i : ℕ) → IsRisingBy shard_lt xs → IsRisingBy shard_lt (drop i xs)
rest_rises xs zero h = h
rest_rises [] (suc i) h = tt
rest_rises (x ∷ xs) (suc i) h = rest_rises xs i h.1

-- the element at i is the first of what is left
pub read_front : (xs : List ShardDeps) (i : ℕ) (x : ShardDeps) → i < length xs → x ≡ get_or xs i x → drop i xs ≡ x ∷ drop (i + 1) xs
read_front xs i x h e = front xs i x h ∙ ap (λ z. z ∷ drop (i + 1) xs) (sym e)

behind : (xs : List ShardDeps) (i : ℕ) (x : ShardDeps) → IsRisingBy shard_lt xs → drop i xs ≡ x ∷ drop (i + 1) xs → AllByRecursion (Above x.shard) (drop (i + 1) xs)
behind xs i x r f = let rest : IsRisingBy shard_lt (x ∷ drop (i + 1) xs) = subst (IsRisingBy shard_lt) f (rest_rises xs i r) in rest.0

above : (s : ℕ) (xs : List ShardDeps) (i : ℕ) (x : ShardDeps) → IsRisingBy shard_lt xs → drop i xs ≡ x ∷ drop (i + 1) xs → nat_lt s x.shard ≡ true → AllByRecursion (Above s) (drop i xs)
above s xs i x r f e = subst (AllByRecursion (Above s)) (sym f) (e, above_each s x.shard (drop (i + 1) xs) e (behind xs i x r f))

module _ (left right merged after : List ShardDeps) (i j : ℕ) (x y : ShardDeps) (l : IsRisingBy shard_lt left) (r : IsRisingBy shard_lt right) (f : drop i left ≡ x ∷ drop (i + 1) left) (g : drop j right ≡ y ∷ drop (j + 1) right) (m : AreMerged left right merged i j) where
  pub take_left : nat_cmp x.shard y.shard ≡ Less → after ≡ merged ++ x ∷ [] → AreMerged left right after (i + 1) j
  take_left less e =
      let lower : nat_lt x.shard y.shard ≡ true = sym (nat_cmp-is_lt x.shard y.shard) ∙ ap is_lt less in
      stepped merged after _ _ _ x e
      (ap (λ xs. deps_union xs (drop j right)) f ∙ deps_union-left x (drop (i + 1) left) (drop j right) (above x.shard right j y r g lower))
      m

  pub take_right : nat_cmp x.shard y.shard ≡ Greater → after ≡ merged ++ y ∷ [] → AreMerged left right after i (j + 1)
  take_right greater e =
      let lower : nat_lt y.shard x.shard ≡ true = sym (nat_cmp-is_lt y.shard x.shard) ∙ ap is_lt (nat_cmp_total.antisymm y.shard x.shard ∙ ap ordering_reverse greater) in
      stepped merged after _ _ _ y e
      (ap (deps_union (drop i left)) g ∙ deps_union-right y (drop i left) (drop (j + 1) right) (above y.shard left i x l f lower) (behind right j y r g))
      m

  pub take_both : nat_cmp x.shard y.shard ≡ Equal → after ≡ merged ++ record x { ids = ids_union x.ids y.ids } ∷ [] → AreMerged left right after (i + 1) (j + 1)
  take_both equal e =
      stepped merged after _ _ _ (record x { ids = ids_union x.ids y.ids }) e
      (ap (λ xs. deps_union xs (drop j right)) f ∙ ap (deps_union (x ∷ drop (i + 1) left)) g
      ∙ deps_union-both x y (drop (i + 1) left) (drop (j + 1) right) (exact_unsigned x.shard y.shard equal) (behind right j y r g))
      m

pub left_is_done : (left right merged : List ShardDeps) (i j : ℕ) → IsRisingBy shard_lt right → length left ≤ i → AreMerged left right merged i j → (merged ++ drop i left) ++ drop j right ≡ deps_union left right
left_is_done left right merged i j r h m =
    let none = drop_all i left h in
    ap (λ zs. (merged ++ zs) ++ drop j right) none ∙ ap (λ zs. zs ++ drop j right) (append-nil merged)
    ∙ ap (λ zs. merged ++ zs) (sym (ap (λ zs. deps_union zs (drop j right)) none ∙ deps_union-nil (drop j right) (rest_rises right j r)))
    ∙ m

pub right_is_done : (left right merged : List ShardDeps) (i j : ℕ) → length right ≤ j → AreMerged left right merged i j → (merged ++ drop i left) ++ drop j right ≡ deps_union left right
right_is_done left right merged i j h m =
    let none = drop_all j right h in
    ap (λ zs. (merged ++ drop i left) ++ zs) none ∙ append-nil (merged ++ drop i left)
    ∙ ap (λ zs. merged ++ deps_union (drop i left) zs) (sym none) ∙ m

-- Dependencies by shard: their form, what each shard has, and that this determines them.
use Rattle.std.proofs.Common.{◌≡◌, ℕ, ◌<◌, ◌==◌, Bool, true, false, cond, nat_lt, ◌||◌, ◌⊎◌, List, [], ◌∷◌, ◌++◌, length, get_or, set, insert, Result, Ok, Err, OnOk, OnErr, suc, zero, sym, refl, ap, ◌∙◌, ◌&&◌, subst, ⊎_elim, arith}
use Rattle.std.specs.List.{AllByRecursion, list_any}
use Rattle.std.proofs.lemmas.Bool.{cond_both, cond-true, cond-false, lt-ltb}
use Rattle.std.proofs.lemmas.List.{set-get_or}
use Rattle.std.proofs.lemmas.List.Elements.{All-from_recursion}
use Rattle.acc_stamp.specs.declared.stamps.TxnId.{TxnId}
use Rattle.acc_stamp.specs.Stamp.{id_lt, id_eq}
use Rattle.acc_stamp.specs.Rising.{IsRising, IsRisingBy, IsPlaceOf, IsGapFor, ids_union, ids_with, id_among, rising_with}
use Rattle.acc_stamp.proofs.Order.{id_order, number_order, asym, apart, apart_back, eq_itself, trichotomy}
use Rattle.acc_stamp.proofs.Rising.{each_weaker, each_append, IsRisingBy-union, rising_union-nil, is_among-with, same_from_among, is_among-union, rising_union-assoc}
use Rattle.acc_deps.specs.declared.shards.ShardDeps.{ShardDeps}
use Rattle.acc_deps.specs.Deps.{AreDeps, shard_lt, of_shard, deps_has, with_shard, deps_with, deps_union, deps_of, all_ids}

-- the shard is above s
abbrev pub Above : ℕ → ShardDeps → Type 0
Above s d = nat_lt s d.shard ≡ true

pub above_each : (s t : ℕ) (ds : List ShardDeps) → nat_lt s t ≡ true → AllByRecursion (Above t) ds → AllByRecursion (Above s) ds
above_each s t ds h = each_weaker (Above t) (Above s) ds (λ d k. number_order.trans s t d.shard h k)

-- ---- one shard put in

pub with_shard-first : (e : ShardDeps) (ds : List ShardDeps) → AllByRecursion (Above e.shard) ds → with_shard e ds ≡ e ∷ ds
with_shard-first e [] h = refl
with_shard-first e (d ∷ ds) h = cond-true (shard_lt e d) _ _ h.0

pub each_with_shard : (s : ℕ) (e : ShardDeps) (ds : List ShardDeps) → Above s e → AllByRecursion (Above s) ds → AllByRecursion (Above s) (with_shard e ds)
each_with_shard s e [] p h = (p, tt)
each_with_shard s e (d ∷ ds) p h =
    cond_both (shard_lt e d) _ _ (AllByRecursion (Above s)) (λ _. (p, h))
    (λ _. cond_both (shard_lt d e) _ _ (AllByRecursion (Above s)) (λ _. (h.0, each_with_shard s e ds p h.1)) (λ _. h))

shards-with : (e : ShardDeps) (ds : List ShardDeps) → IsRisingBy shard_lt ds → IsRisingBy shard_lt (with_shard e ds)
shards-with e [] h = (tt, tt)
shards-with e (d ∷ ds) h =
    cond_both (shard_lt e d) _ _ (IsRisingBy shard_lt) (λ f. ((f, above_each e.shard d.shard ds f h.0), h))
    (λ _. cond_both (shard_lt d e) _ _ (IsRisingBy shard_lt) (λ f. (each_with_shard d.shard e ds f h.0, shards-with e ds h.1)) (λ _. h))

ids-with : (e : ShardDeps) (ds : List ShardDeps) → IsRising e.ids → AllByRecursion (λ d. IsRising d.ids) ds → AllByRecursion (λ d. IsRising d.ids) (with_shard e ds)
ids-with e [] p h = (p, tt)
ids-with e (d ∷ ds) p h =
    let Rise : List ShardDeps → Type 0 = AllByRecursion (λ d. IsRising d.ids) in
    cond_both (shard_lt e d) _ _ Rise (λ _. (p, h))
    (λ _. cond_both (shard_lt d e) _ _ Rise (λ _. (h.0, ids-with e ds p h.1)) (λ _. (IsRisingBy-union id_order d.ids e.ids h.0, h.1)))

-- ---- not empty

with-some : (x : TxnId) (xs : List TxnId) → 0 < length (rising_with id_lt x xs)
with-some x [] = omega arith
with-some x (y ∷ ys) =
    let Some : List TxnId → Type 0 = λ zs. 0 < length zs in
    cond_both (id_lt x y) _ _ Some (λ _. omega arith) (λ _. cond_both (id_lt y x) _ _ Some (λ _. omega arith) (λ _. omega arith))

union-some : (xs ys : List TxnId) → 0 < length xs → 0 < length (ids_union xs ys)
union-some xs [] h = h
union-some xs (y ∷ ys) h = with-some y (ids_union xs ys)

some-with : (e : ShardDeps) (ds : List ShardDeps) → 0 < length e.ids → AllByRecursion (λ d. 0 < length d.ids) ds → AllByRecursion (λ d. 0 < length d.ids) (with_shard e ds)
some-with e [] p h = (p, tt)
some-with e (d ∷ ds) p h =
    let Some : List ShardDeps → Type 0 = AllByRecursion (λ d. 0 < length d.ids) in
    cond_both (shard_lt e d) _ _ Some (λ _. (p, h))
    (λ _. cond_both (shard_lt d e) _ _ Some (λ _. (h.0, some-with e ds p h.1)) (λ _. (union-some d.ids e.ids h.0, h.1)))

-- ---- the form is kept

pub AreDeps-nil : AreDeps []
AreDeps-nil = record { shards = tt; ids = tt; some = tt }

pub AreDeps-rest : (d : ShardDeps) (ds : List ShardDeps) → AreDeps (d ∷ ds) → AreDeps ds
AreDeps-rest d ds h = record { shards = h.shards.1; ids = h.ids.1; some = h.some.1 }

pub AreDeps-with : (e : ShardDeps) (ds : List ShardDeps) → IsRising e.ids → 0 < length e.ids → AreDeps ds → AreDeps (with_shard e ds)
AreDeps-with e ds p q h = record { shards = shards-with e ds h.shards; ids = ids-with e ds p h.ids; some = some-with e ds q h.some }

pub AreDeps-union : (ds es : List ShardDeps) → AreDeps ds → AreDeps es → AreDeps (deps_union ds es)
AreDeps-union ds [] h k = h
AreDeps-union ds (e ∷ es) h k = AreDeps-with e (deps_union ds es) k.ids.0 k.some.0 (AreDeps-union ds es h (AreDeps-rest e es k))

-- the form is kept by what answers OutOfMemory and changes nothing then
pub AreDeps-after : {T E : Type 0} (r : Result T E) (before after done : List ShardDeps) → OnOk r (after ≡ done) → OnErr r (after ≡ before) → AreDeps done → AreDeps before → AreDeps after
AreDeps-after (Ok x) before after done ok err h k = subst AreDeps (sym ok) h
AreDeps-after (Err e) before after done ok err h k = subst AreDeps (sym err) k

-- ---- what a shard has

pub of_shard-absent : (s : ℕ) (ds : List ShardDeps) → AllByRecursion (Above s) ds → of_shard ds s ≡ []
of_shard-absent s [] h = refl
of_shard-absent s (d ∷ ds) h = cond-false (d.shard == s) _ _ (apart_back number_order s d.shard h.0) ∙ of_shard-absent s ds h.1

pub of_shard-first : (d : ShardDeps) (ds : List ShardDeps) → of_shard (d ∷ ds) d.shard ≡ d.ids
of_shard-first d ds = cond-true (d.shard == d.shard) _ _ (eq_itself number_order d.shard)

of_shard-with_first : (e : ShardDeps) (ds : List ShardDeps) (s : ℕ) → AllByRecursion (Above e.shard) ds → IsRising e.ids → of_shard (e ∷ ds) s ≡ cond (e.shard == s) (ids_union (of_shard ds s) e.ids) (of_shard ds s)
of_shard-with_first e ds s h p = by_test (e.shard == s) refl
  where
    by_test : (b : Bool) → (e.shard == s) ≡ b → of_shard (e ∷ ds) s ≡ cond (e.shard == s) (ids_union (of_shard ds s) e.ids) (of_shard ds s)
    by_test true t =
        let none : of_shard ds s ≡ [] = of_shard-absent s ds (subst (λ z. AllByRecursion (Above z) ds) ((number_order.decides e.shard s).0 t) h) in
        cond-true (e.shard == s) _ _ t ∙ sym (cond-true (e.shard == s) _ _ t ∙ ap (λ zs. ids_union zs e.ids) none ∙ rising_union-nil id_order e.ids p)
    by_test false t = cond-false (e.shard == s) _ _ t ∙ sym (cond-false (e.shard == s) _ _ t)

pub of_shard-with : (e : ShardDeps) (ds : List ShardDeps) (s : ℕ) → IsRisingBy shard_lt ds → IsRising e.ids → of_shard (with_shard e ds) s ≡ cond (e.shard == s) (ids_union (of_shard ds s) e.ids) (of_shard ds s)
of_shard-with e [] s h p = of_shard-with_first e [] s tt p
of_shard-with e (d ∷ ds) s h p =
    let all = of_shard (d ∷ ds) s in
    cond_both (shard_lt e d) _ _ (λ zs. of_shard zs s ≡ cond (e.shard == s) (ids_union all e.ids) all)
    (λ f. of_shard-with_first e (d ∷ ds) s (f, above_each e.shard d.shard ds f h.0) p)
    (λ f. cond_both (shard_lt d e) _ _ (λ zs. of_shard zs s ≡ cond (e.shard == s) (ids_union all e.ids) all)
    (λ g. ap (λ zs. cond (d.shard == s) d.ids zs) (of_shard-with e ds s h.1 p) ∙ behind (d.shard == s) refl g)
    (λ g. together (d.shard == s) refl (number_order.connected e.shard d.shard f g)))
  where
    behind : (b : Bool) → (d.shard == s) ≡ b → shard_lt d e ≡ true → cond (d.shard == s) d.ids (cond (e.shard == s) (ids_union (of_shard ds s) e.ids) (of_shard ds s)) ≡ cond (e.shard == s) (ids_union (of_shard (d ∷ ds) s) e.ids) (of_shard (d ∷ ds) s)
    behind true t g =
        let other : (e.shard == s) ≡ false = ap (λ z. e.shard == z) (sym ((number_order.decides d.shard s).0 t)) ∙ apart_back number_order d.shard e.shard g in
        cond-true (d.shard == s) _ _ t ∙ sym (cond-false (e.shard == s) _ _ other ∙ cond-true (d.shard == s) _ _ t)
    behind false t g =
        let rest : of_shard (d ∷ ds) s ≡ of_shard ds s = cond-false (d.shard == s) _ _ t in
        cond-false (d.shard == s) _ _ t ∙ sym (ap (λ zs. cond (e.shard == s) (ids_union zs e.ids) zs) rest)

    together : (b : Bool) → (d.shard == s) ≡ b → e.shard ≡ d.shard → cond (d.shard == s) (ids_union d.ids e.ids) (of_shard ds s) ≡ cond (e.shard == s) (ids_union (of_shard (d ∷ ds) s) e.ids) (of_shard (d ∷ ds) s)
    together true t g =
        cond-true (d.shard == s) _ _ t
        ∙ sym (cond-true (e.shard == s) _ _ (ap (λ z. z == s) g ∙ t) ∙ ap (λ zs. ids_union zs e.ids) (cond-true (d.shard == s) _ _ t))
    together false t g =
        cond-false (d.shard == s) _ _ t ∙ sym (cond-false (e.shard == s) _ _ (ap (λ z. z == s) g ∙ t) ∙ cond-false (d.shard == s) _ _ t)

pub of_shard-union : (ds es : List ShardDeps) (s : ℕ) → AreDeps ds → AreDeps es → of_shard (deps_union ds es) s ≡ ids_union (of_shard ds s) (of_shard es s)
of_shard-union ds [] s h k = refl
of_shard-union ds (e ∷ es) s h k =
    let rest = AreDeps-rest e es k in
    of_shard-with e (deps_union ds es) s (AreDeps-union ds es h rest).shards k.ids.0
    ∙ ap (λ zs. cond (e.shard == s) (ids_union zs e.ids) zs) (of_shard-union ds es s h rest)
    ∙ by_test (e.shard == s) refl
  where
    by_test : (b : Bool) → (e.shard == s) ≡ b → cond (e.shard == s) (ids_union (ids_union (of_shard ds s) (of_shard es s)) e.ids) (ids_union (of_shard ds s) (of_shard es s)) ≡ ids_union (of_shard ds s) (of_shard (e ∷ es) s)
    by_test true t =
        let none : of_shard es s ≡ [] = of_shard-absent s es (subst (λ z. AllByRecursion (Above z) es) ((number_order.decides e.shard s).0 t) k.shards.0) in
        cond-true (e.shard == s) _ _ t ∙ ap (λ zs. ids_union (ids_union (of_shard ds s) zs) e.ids) none
        ∙ ap (ids_union (of_shard ds s)) (sym (cond-true (e.shard == s) e.ids (of_shard es s) t))
    by_test false t =
        cond-false (e.shard == s) _ _ t ∙ ap (ids_union (of_shard ds s)) (sym (cond-false (e.shard == s) e.ids (of_shard es s) t))

pub deps_has-union : (ds es : List ShardDeps) (s : ℕ) (id : TxnId) → AreDeps ds → AreDeps es → deps_has (deps_union ds es) s id ≡ (deps_has ds s id || deps_has es s id)
deps_has-union ds es s id h k = ap (id_among id) (of_shard-union ds es s h k) ∙ is_among-union id_order id (of_shard ds s) (of_shard es s)

pub IsRising-of_shard : (ds : List ShardDeps) (s : ℕ) → AllByRecursion (λ d. IsRising d.ids) ds → IsRising (of_shard ds s)
IsRising-of_shard [] s h = tt
IsRising-of_shard (d ∷ ds) s h = cond_both (d.shard == s) _ _ IsRising (λ _. h.0) (λ _. IsRising-of_shard ds s h.1)

-- ---- what the shards have determines the dependencies

pub same_shard : (d e : ShardDeps) → d.shard ≡ e.shard → d.ids ≡ e.ids → d ≡ e
same_shard d e p q = λ i. record { shard = p i; ids = q i }

not_empty : (ids : List TxnId) → 0 < length ids → ids ≡ [] → ⊥
not_empty ids h e = let n = ap length e in omega arith

pub same_deps : (ds es : List ShardDeps) → AreDeps ds → AreDeps es → ((s : ℕ) → of_shard ds s ≡ of_shard es s) → ds ≡ es
same_deps [] [] h k f = refl
same_deps [] (e ∷ es) h k f = absurd (not_empty e.ids k.some.0 (sym (of_shard-first e es) ∙ sym (f e.shard)))
same_deps (d ∷ ds) [] h k f = absurd (not_empty d.ids h.some.0 (sym (of_shard-first d ds) ∙ f d.shard))
same_deps (d ∷ ds) (e ∷ es) h k f = by_order (same_deps ds es (AreDeps-rest d ds h) (AreDeps-rest e es k)) (trichotomy number_order d.shard e.shard)
  where
    lower : (a b : ShardDeps) (xs ys : List ShardDeps) → nat_lt a.shard b.shard ≡ true → 0 < length a.ids → IsRisingBy shard_lt (b ∷ ys) → of_shard (a ∷ xs) a.shard ≡ of_shard (b ∷ ys) a.shard → ⊥
    lower a b xs ys p q r g = not_empty a.ids q (sym (of_shard-first a xs) ∙ g ∙ of_shard-absent a.shard (b ∷ ys) (p, above_each a.shard b.shard ys p r.0))

    tails : d.shard ≡ e.shard → (s : ℕ) → of_shard ds s ≡ of_shard es s
    tails p s = by_test (d.shard == s) refl
      where
        by_test : (b : Bool) → (d.shard == s) ≡ b → of_shard ds s ≡ of_shard es s
        by_test true t =
            let here : d.shard ≡ s = (number_order.decides d.shard s).0 t in
            of_shard-absent s ds (subst (λ z. AllByRecursion (Above z) ds) here h.shards.0)
            ∙ sym (of_shard-absent s es (subst (λ z. AllByRecursion (Above z) es) (sym p ∙ here) k.shards.0))
        by_test false t = sym (cond-false (d.shard == s) _ _ t) ∙ f s ∙ cond-false (e.shard == s) _ _ (ap (λ z. z == s) (sym p) ∙ t)

    by_order : (((s : ℕ) → of_shard ds s ≡ of_shard es s) → ds ≡ es) → (nat_lt d.shard e.shard ≡ true) ⊎ ((d.shard ≡ e.shard) ⊎ (nat_lt e.shard d.shard ≡ true)) → d ∷ ds ≡ e ∷ es
    by_order rest o = ⊎_elim (λ p. absurd (lower d e ds es p h.some.0 k.shards (f d.shard)))
        (λ o'. ⊎_elim
        (λ p. ap (λ x. x ∷ ds) (same_shard d e p (sym (of_shard-first d ds) ∙ f d.shard ∙ ap (of_shard (e ∷ es)) p ∙ of_shard-first e es)) ∙ ap (λ zs. e ∷ zs) (rest (tails p)))
        (λ p. absurd (lower e d es ds p k.some.0 h.shards (sym (f e.shard)))) o') o

-- ---- by the place of a shard

pub of_shard-place : (ds : List ShardDeps) (s i : ℕ) (d : ShardDeps) → IsRisingBy shard_lt ds → IsPlaceOf (λ e. e.shard) ds s i → of_shard ds s ≡ (get_or ds i d).ids
of_shard-place [] s i d h p = absurd (let l = p.in_range in omega arith)
of_shard-place (x ∷ xs) s zero d h p = cond-true (x.shard == s) _ _ ((number_order.decides x.shard s).1 (p.at x))
of_shard-place (x ∷ xs) s (suc i) d h p =
    let l : i < length xs = let k = p.in_range in omega arith in
    let lower : nat_lt x.shard s ≡ true = subst (λ z. nat_lt x.shard z ≡ true) (p.at x) (All-from_recursion (Above x.shard) xs h.0 i x l) in
    cond-false (x.shard == s) _ _ (apart number_order x.shard s lower) ∙ of_shard-place xs s i d h.1 (record { in_range = l; at = p.at })

pub of_shard-gap : (ds : List ShardDeps) (s i : ℕ) → IsGapFor nat_lt (λ e. e.shard) ds s i → of_shard ds s ≡ []
of_shard-gap [] s i g = refl
of_shard-gap (x ∷ xs) s zero g = of_shard-absent s (x ∷ xs) g.above
of_shard-gap (x ∷ xs) s (suc i) g =
    let l = g.in_range in
    cond-false (x.shard == s) _ _ (apart number_order x.shard s g.below.0) ∙ of_shard-gap xs s i (record { in_range = omega arith; below = g.below.1; above = g.above })

-- a shard put where it would stand
pub with_shard-gap : (e : ShardDeps) (ds : List ShardDeps) (i : ℕ) → IsGapFor nat_lt (λ d. d.shard) ds e.shard i → insert ds i e ≡ with_shard e ds
with_shard-gap e ds zero g = sym (with_shard-first e ds g.above)
with_shard-gap e [] (suc i) g = refl
with_shard-gap e (x ∷ xs) (suc i) g =
    let l = g.in_range in
    let rest = with_shard-gap e xs i (record { in_range = omega arith; below = g.below.1; above = g.above }) in
    ap (λ zs. x ∷ zs) rest
    ∙ sym (cond-false (shard_lt e x) _ _ (asym number_order x.shard e.shard g.below.0) ∙ cond-true (shard_lt x e) _ _ g.below.0)

-- a shard that stands there, with more transactions
pub with_shard-place : (e : ShardDeps) (ds : List ShardDeps) (i : ℕ) (d : ShardDeps) → IsRisingBy shard_lt ds → IsPlaceOf (λ d. d.shard) ds e.shard i → set ds i (record (get_or ds i d) { ids = ids_union (get_or ds i d).ids e.ids }) ≡ with_shard e ds
with_shard-place e [] i d h p = absurd (let l = p.in_range in omega arith)
with_shard-place e (x ∷ xs) zero d h p =
    let same : x.shard ≡ e.shard = p.at x in
    sym (cond-false (shard_lt e x) _ _ (ap (nat_lt e.shard) same ∙ number_order.irrefl e.shard)
    ∙ cond-false (shard_lt x e) _ _ (ap (nat_lt x.shard) (sym same) ∙ number_order.irrefl x.shard))
with_shard-place e (x ∷ xs) (suc i) d h p =
    let l : i < length xs = let k = p.in_range in omega arith in
    let lower : nat_lt x.shard e.shard ≡ true = subst (λ z. nat_lt x.shard z ≡ true) (p.at x) (All-from_recursion (Above x.shard) xs h.0 i x l) in
    ap (λ zs. x ∷ zs) (with_shard-place e xs i d h.1 (record { in_range = l; at = p.at }))
    ∙ sym (cond-false (shard_lt e x) _ _ (asym number_order x.shard e.shard lower) ∙ cond-true (shard_lt x e) _ _ lower)

-- ---- the transactions of all shards

pub IsRising-all_ids : (ds : List ShardDeps) → AllByRecursion (λ d. IsRising d.ids) ds → IsRising (all_ids ds)
IsRising-all_ids [] h = tt
IsRising-all_ids (d ∷ ds) h = IsRisingBy-union id_order d.ids (all_ids ds) h.0

pub all_ids-append : (ds es : List ShardDeps) → AllByRecursion (λ d. IsRising d.ids) ds → AllByRecursion (λ d. IsRising d.ids) es → all_ids (ds ++ es) ≡ ids_union (all_ids ds) (all_ids es)
all_ids-append [] es h k = sym (rising_union-nil id_order (all_ids es) (IsRising-all_ids es k))
all_ids-append (d ∷ ds) es h k = ap (ids_union d.ids) (all_ids-append ds es h.1 k) ∙ sym (rising_union-assoc id_order d.ids (all_ids ds) (all_ids es) h.0)

-- a transaction is among all where it is among those of some shard
pub all_ids-has : (ds : List ShardDeps) (id : TxnId) → id_among id (all_ids ds) ≡ list_any (λ d. id_among id d.ids) ds
all_ids-has [] id = refl
all_ids-has (d ∷ ds) id = is_among-union id_order id d.ids (all_ids ds) ∙ ap (λ b. id_among id d.ids || b) (all_ids-has ds id)

-- ---- one more shard behind the others

pub AreDeps-push : (ds : List ShardDeps) (s : ℕ) (ids : List TxnId) → AreDeps ds → AllByRecursion (λ d. d.shard < s) ds → IsRising ids → 0 < length ids → AreDeps (ds ++ record { shard = s; ids = ids } ∷ [])
AreDeps-push ds s ids h b p q =
    let e : ShardDeps = record { shard = s; ids = ids } in
    record {
      shards = shards-push ds e h.shards (each_weaker (λ d. d.shard < s) (λ d. nat_lt d.shard s ≡ true) ds (λ d k. lt-ltb d.shard s k) b);
      ids = each_append (λ d. IsRising d.ids) ds (e ∷ []) h.ids (p, tt);
      some = each_append (λ d. 0 < length d.ids) ds (e ∷ []) h.some (q, tt);
    }
  where
    shards-push : (xs : List ShardDeps) (e : ShardDeps) → IsRisingBy shard_lt xs → AllByRecursion (λ d. nat_lt d.shard e.shard ≡ true) xs → IsRisingBy shard_lt (xs ++ e ∷ [])
    shards-push [] e r k = (tt, tt)
    shards-push (x ∷ xs) e r k = (each_append (Above x.shard) xs (e ∷ []) r.0 (k.0, tt), shards-push xs e r.1 k.1)

-- ---- a transaction put in

pub AreDeps-with_id : (s : ℕ) (id : TxnId) (ds : List ShardDeps) → AreDeps ds → AreDeps (deps_with s id ds)
AreDeps-with_id s id ds h = AreDeps-with (record { shard = s; ids = id ∷ [] }) ds (tt, tt) (omega arith) h

pub deps_with-place : (ds : List ShardDeps) (s i : ℕ) (id : TxnId) (x : ShardDeps) (ids : List TxnId) → IsRisingBy shard_lt ds → IsPlaceOf (λ d. d.shard) ds s i → x ≡ get_or ds i x → ids ≡ ids_with id x.ids → set ds i (record { shard = x.shard; ids = ids }) ≡ deps_with s id ds
deps_with-place ds s i id x ids h p e f =
    ap (λ zs. set ds i (record { shard = x.shard; ids = zs })) f
    ∙ ap (λ y. set ds i (record y { ids = ids_with id y.ids })) e
    ∙ with_shard-place (record { shard = s; ids = id ∷ [] }) ds i x h p

pub unchanged-place : (ds : List ShardDeps) (i : ℕ) (x : ShardDeps) (ids : List TxnId) → x ≡ get_or ds i x → ids ≡ x.ids → set ds i (record { shard = x.shard; ids = ids }) ≡ ds
unchanged-place ds i x ids e f = ap (λ zs. set ds i (record { shard = x.shard; ids = zs })) f ∙ ap (set ds i) e ∙ set-get_or ds i x

-- ---- as sets

pub deps_has-with : (ds : List ShardDeps) (s t : ℕ) (id x : TxnId) → AreDeps ds → deps_has (deps_with s id ds) t x ≡ (((s == t) && id_eq id x) || deps_has ds t x)
deps_has-with ds s t id x h =
    ap (id_among x) (of_shard-with (record { shard = s; ids = id ∷ [] }) ds t h.shards (tt, tt)) ∙ by_test (s == t)
  where
    by_test : (b : Bool) → id_among x (cond b (ids_with id (of_shard ds t)) (of_shard ds t)) ≡ ((b && id_eq id x) || deps_has ds t x)
    by_test true = is_among-with id_order x id (of_shard ds t)
    by_test false = refl

pub same_from_has : (ds es : List ShardDeps) → AreDeps ds → AreDeps es → ((s : ℕ) (x : TxnId) → deps_has ds s x ≡ deps_has es s x) → ds ≡ es
same_from_has ds es h k f = same_deps ds es h k (λ s. same_from_among id_order (of_shard ds s) (of_shard es s) (IsRising-of_shard ds s h.ids) (IsRising-of_shard es s k.ids) (f s))

-- ---- those of one shard alone

pub AreDeps-of : (s : ℕ) (ids : List TxnId) → IsRising ids → AreDeps (deps_of s ids)
AreDeps-of s [] h = AreDeps-nil
AreDeps-of s (id ∷ ids) h = record { shards = (tt, tt); ids = (h, tt); some = (omega arith, tt) }

pub of_shard-of : (s t : ℕ) (ids : List TxnId) → of_shard (deps_of s ids) t ≡ cond (s == t) ids []
of_shard-of s t [] = cond_both (s == t) [] [] (λ (ids : List TxnId). [] ≡ ids) (λ _. refl) (λ _. refl)
of_shard-of s t (id ∷ ids) = refl

-- Lists that rise by a strict order, with one more after them.
use Rattle.std.proofs.Common.{◌≡◌, ℕ, suc, ◌-◌, ◌<◌, Bool, true, false, ◌&&◌, List, [], ◌∷◌, ◌++◌, length, Some, refl, sym, ap, ◌∙◌, IsTrue, slice_get, arith}
use Rattle.std.specs.Cmp.{first_so, second_so}
use Rattle.std.specs.List.{list_all, AllByRecursion}
use Rattle.std.specs.Prelude.{nat_lt}
use Rattle.std.proofs.lemmas.Bool.{ltb-true}
use Rattle.acc_stamp.specs.declared.stamps.TxnId.{TxnId}
use Rattle.acc_stamp.specs.Stamp.{id_lt}
use Rattle.acc_stamp.specs.Rising.{IsRising}
use Rattle.acc_stamp.proofs.Order.{id_order}
use Rattle.acc_stamp.proofs.Rising.{IsRisingBy-push}
use Rattle.acc_deps.specs.declared.shards.ShardDeps.{ShardDeps}
use Rattle.acc_deps.specs.Deps.{deps_of}
use Rattle.acc_value.proofs.Rising.{both}

only_true : (a : Bool) → (a && true) ≡ a
only_true true = refl
only_true false = refl

and_true : (a b : Bool) → (b ≡ true → a ≡ true) → (a && b) ≡ b
and_true a true h = ap (λ x. x && true) (h refl)
and_true true false h = refl
and_true false false h = refl

pub each_true : {A : Type 0} (test : A → Bool) (xs : List A) → IsTrue (list_all test xs) → AllByRecursion (λ x. test x ≡ true) xs
each_true test [] h = tt
each_true test (x ∷ xs) h = (first_so (test x) _ h, each_true test xs (second_so (test x) _ h))

pub true_each : {A : Type 0} (test : A → Bool) (xs : List A) → AllByRecursion (λ x. test x ≡ true) xs → IsTrue (list_all test xs)
true_each test [] h = refl
true_each test (x ∷ xs) h = both (test x) (list_all test xs) h.0 (true_each test xs h.1)

below_last : (a p : TxnId) (ids : List TxnId) (last : TxnId) → AllByRecursion (λ y. id_lt a y ≡ true) (p ∷ ids) → slice_get (p ∷ ids) (length ids) ≡ Some last → id_lt a last ≡ true
below_last a p [] last below e = let same : p ≡ last = cc in ap (id_lt a) (sym same) ∙ below.0
below_last a p (q ∷ ids) last below e = below_last a q ids last below.1 e

behind_last : (p : TxnId) (ids : List TxnId) (last x : TxnId) → IsRising (p ∷ ids) → slice_get (p ∷ ids) (length ids) ≡ Some last → list_all (λ y. id_lt y x) (p ∷ ids) ≡ id_lt last x
behind_last p [] last x rises e = let same : p ≡ last = cc in only_true (id_lt p x) ∙ ap (λ y. id_lt y x) same
behind_last p (q ∷ ids) last x rises e =
    let later = behind_last q ids last x rises.1 e in
    and_true (id_lt p x) (list_all (λ y. id_lt y x) (q ∷ ids)) (λ h. id_order.trans p last x (below_last p q ids last rises.0 e) (sym later ∙ h)) ∙ later

-- one is after them all where it is after the last
pub behind : (ids : List TxnId) (last x : TxnId) → IsRising ids → Some last ≡ slice_get ids (length ids - 1) → list_all (λ y. id_lt y x) ids ≡ id_lt last x
behind [] last x rises e = absurd cc
behind (p ∷ ids) last x rises e =
    let k : suc (length ids) - 1 ≡ length ids = omega arith in
    behind_last p ids last x rises (ap (slice_get (p ∷ ids)) (sym k) ∙ sym e)

pub rising_snoc : (ids : List TxnId) (x : TxnId) → IsRising ids → IsTrue (list_all (λ y. id_lt y x) ids) → IsRising (ids ++ x ∷ [])
rising_snoc ids x rises h = IsRisingBy-push id_order ids x rises (each_true (λ y. id_lt y x) ids h)

-- ---- shards

pub shards_below : (front : List ShardDeps) (shard : ℕ) → IsTrue (list_all (λ d. nat_lt d.shard shard) front) → AllByRecursion (λ d. d.shard < shard) front
shards_below [] shard h = tt
shards_below (d ∷ front) shard h = (ltb-true d.shard shard (first_so (nat_lt d.shard shard) _ h), shards_below front shard (second_so (nat_lt d.shard shard) _ h))

-- a shard that has transactions
pub deps_of_some : (shard : ℕ) (ids : List TxnId) → 0 < length ids → deps_of shard ids ≡ record { shard = shard; ids = ids } ∷ []
deps_of_some shard [] h = absurd (omega arith)
deps_of_some shard (id ∷ ids) h = refl

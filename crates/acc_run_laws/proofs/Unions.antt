-- What holds of each element holds of each of a union, and of what is made of dependencies.
use Rattle.std.proofs.Common.{ℕ, ◌≤◌, Bool, List, [], ◌∷◌, Option, None, Some, map}
use Rattle.std.specs.Prelude.{IfSome}
use Rattle.std.specs.List.{AllByRecursion}
use Rattle.std.proofs.lemmas.Bool.{cond_both}
use Rattle.acc_base.specs.Faults.{or_else}
use Rattle.acc_stamp.specs.declared.stamps.Stamp.{Stamp}
use Rattle.acc_stamp.specs.declared.stamps.TxnId.{TxnId}
use Rattle.acc_stamp.specs.Stamp.{id_lt, stamp_lt}
use Rattle.acc_stamp.specs.Rising.{rising_with, rising_union, ids_union}
use Rattle.acc_deps.specs.declared.shards.ShardDeps.{ShardDeps}
use Rattle.acc_deps.specs.Deps.{shard_lt, with_shard, deps_union, deps_of}
use Rattle.acc_quorum.specs.Answers.{Answer, later_stamp, greatest, union_of}
use Rattle.acc_safety.specs.Places.{IsIn}
use Rattle.acc_run_laws.proofs.Bounded.{IsLow, zero_low, IsBegunShard, AreBegunDeps}

pub or_else_if : {T : Type 0} (P : T → Type 0) (o other : Option T) → IfSome o P → IfSome other P → IfSome (or_else o other) P
or_else_if P None other h k = k
or_else_if P (Some x) other h k = h

pub each_mapped : {X Y : Type 0} (P : X → Type 0) (Q : Y → Type 0) (f : X → Y) (xs : List X) → ((x : X) → P x → Q (f x)) → AllByRecursion P xs → AllByRecursion Q (map f xs)
each_mapped P Q f [] h k = tt
each_mapped P Q f (x ∷ xs) h k = (h x k.0, each_mapped P Q f xs h k.1)

pub each_with : {K : Type 0} (P : K → Type 0) (lt : K → K → Bool) (x : K) (xs : List K) → P x → AllByRecursion P xs → AllByRecursion P (rising_with lt x xs)
each_with P lt x [] p h = (p, tt)
each_with P lt x (y ∷ ys) p h =
    cond_both (lt x y) (x ∷ y ∷ ys) _ (AllByRecursion P) (λ _. (p, h))
    (λ _. cond_both (lt y x) (y ∷ rising_with lt x ys) (y ∷ ys) (AllByRecursion P) (λ _. (h.0, each_with P lt x ys p h.1)) (λ _. h))

pub each_union : {K : Type 0} (P : K → Type 0) (lt : K → K → Bool) (xs ys : List K) → AllByRecursion P xs → AllByRecursion P ys → AllByRecursion P (rising_union lt xs ys)
each_union P lt xs [] h k = h
each_union P lt xs (y ∷ ys) h k = each_with P lt y (rising_union lt xs ys) k.0 (each_union P lt xs ys h k.1)

module _ (begun : List TxnId) where
  joined : (d e : ShardDeps) → IsBegunShard begun d → IsBegunShard begun e → IsBegunShard begun (record d { ids = ids_union d.ids e.ids })
  joined d e h k = record { least = h.least; most = h.most; ids = each_union (λ id. IsIn id begun) id_lt d.ids e.ids h.ids k.ids }

  with_begun : (e : ShardDeps) (deps : List ShardDeps) → IsBegunShard begun e → AreBegunDeps begun deps → AreBegunDeps begun (with_shard e deps)
  with_begun e [] h k = (h, tt)
  with_begun e (d ∷ deps) h k =
      cond_both (shard_lt e d) (e ∷ d ∷ deps) _ (AreBegunDeps begun) (λ _. (h, k))
      (λ _.
      cond_both (shard_lt d e) (d ∷ with_shard e deps) (record d { ids = ids_union d.ids e.ids } ∷ deps) (AreBegunDeps begun)
      (λ _. (k.0, with_begun e deps h k.1)) (λ _. (joined d e k.0 h, k.1)))

  pub union_begun : (deps also : List ShardDeps) → AreBegunDeps begun deps → AreBegunDeps begun also → AreBegunDeps begun (deps_union deps also)
  union_begun deps [] h k = h
  union_begun deps (e ∷ also) h k = with_begun e (deps_union deps also) k.0 (union_begun deps also h k.1)

  pub of_begun : (shard : ℕ) (ids : List TxnId) → 1 ≤ shard → shard ≤ 15 → AllByRecursion (λ id. IsIn id begun) ids → AreBegunDeps begun (deps_of shard ids)
  of_begun shard [] least most h = tt
  of_begun shard (id ∷ ids) least most h = (record { least = least; most = most; ids = h }, tt)

  pub answers_begun : (answers : List Answer) → AllByRecursion (λ (a : Answer). AreBegunDeps begun a.deps) answers → AreBegunDeps begun (union_of answers)
  answers_begun [] h = tt
  answers_begun (a ∷ answers) h = union_begun (union_of answers) a.deps (answers_begun answers h.1) h.0

pub later_low : (most : ℕ) (a b : Stamp) → IsLow most a → IsLow most b → IsLow most (later_stamp a b)
later_low most a b h k = cond_both (stamp_lt a b) b a (IsLow most) (λ _. k) (λ _. h)

pub greatest_low : (most : ℕ) (answers : List Answer) → AllByRecursion (λ (a : Answer). IsLow most a.t) answers → IsLow most (greatest answers)
greatest_low most [] h = zero_low most
greatest_low most (a ∷ answers) h = later_low most (greatest answers) a.t (greatest_low most answers h.1) h.0

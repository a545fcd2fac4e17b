-- Dependencies that have all of some others are the union of both.
use Rattle.std.proofs.Common.{◌≡◌, ℕ, ◌==◌, ◌||◌, Bool, true, false, List, [], ◌∷◌, IsTrue, refl, sym, ap, subst, ◌∙◌}
use Rattle.std.specs.List.{AllByRecursion}
use Rattle.std.proofs.lemmas.Bool.{cond-true, cond-false}
use Rattle.acc_stamp.specs.declared.stamps.TxnId.{TxnId}
use Rattle.acc_stamp.specs.Rising.{id_among}
use Rattle.acc_stamp.proofs.Order.{number_order}
use Rattle.acc_deps.specs.declared.shards.ShardDeps.{ShardDeps}
use Rattle.acc_deps.specs.Deps.{AreDeps, of_shard, deps_has, deps_union}
use Rattle.acc_deps.proofs.ByShard.{AreDeps-union, deps_has-union, same_from_has}

-- all of the first are among the second
abbrev pub IsWithin : List ShardDeps → List ShardDeps → Type 0
IsWithin ds es = (s : ℕ) (x : TxnId) → IsTrue (deps_has ds s x) → IsTrue (deps_has es s x)

-- those of one shard are
abbrev pub IsShardWithin : List ShardDeps → ShardDeps → Type 0
IsShardWithin es d = (x : TxnId) → IsTrue (id_among x d.ids) → IsTrue (id_among x (of_shard es d.shard))

pub within : (ds es : List ShardDeps) → AllByRecursion (IsShardWithin es) ds → IsWithin ds es
within [] es h s x m = absurd cc
within (d ∷ ds) es h s x m = by_test (within ds es h.1 s x) (d.shard == s) refl
  where
    by_test : (IsTrue (deps_has ds s x) → IsTrue (deps_has es s x)) → (b : Bool) → (d.shard == s) ≡ b → IsTrue (deps_has es s x)
    by_test rest true t =
        let here : IsTrue (id_among x d.ids) = sym (ap (id_among x) (cond-true (d.shard == s) d.ids (of_shard ds s) t)) ∙ m in
        subst (λ (z : ℕ). IsTrue (id_among x (of_shard es z))) ((number_order.decides d.shard s).0 t) (h.0 x here)
    by_test rest false t =
        rest (sym (ap (id_among x) (cond-false (d.shard == s) d.ids (of_shard ds s) t)) ∙ m)

or_first : (a b : Bool) → (b ≡ true → a ≡ true) → (a || b) ≡ a
or_first true b h = refl
or_first false true h = sym (h refl)
or_first false false h = refl

or_second : (a b : Bool) → (a ≡ true → b ≡ true) → (a || b) ≡ b
or_second true b h = sym (h refl)
or_second false b h = refl

pub union_with_part : (ds es : List ShardDeps) → AreDeps ds → AreDeps es → IsWithin es ds → deps_union ds es ≡ ds
union_with_part ds es h k part =
    same_from_has (deps_union ds es) ds (AreDeps-union ds es h k) h (λ s x. deps_has-union ds es s x h k ∙ or_first (deps_has ds s x) (deps_has es s x) (part s x))

pub union_with_whole : (ds es : List ShardDeps) → AreDeps ds → AreDeps es → IsWithin ds es → deps_union ds es ≡ es
union_with_whole ds es h k part =
    same_from_has (deps_union ds es) es (AreDeps-union ds es h k) k (λ s x. deps_has-union ds es s x h k ∙ or_second (deps_has ds s x) (deps_has es s x) (part s x))

-- Dependencies: for each shard that has some, the shard and its transactions, both rising.
--     AreDeps deps      the form in which dependencies stand
--     of_shard deps shard      the transactions of a shard
--     deps_has deps shard id      whether one is among them
--     with_shard d deps      dependencies with those of one shard put in
--     deps_with shard id deps      with one transaction put in
--     deps_union deps more      with all of some others put in
--     all_ids deps      the transactions of all shards
use Rattle.std.specs.Prelude.{ℕ, ◌<◌, ◌==◌, length, Bool, nat_lt, if◌then◌else◌, List, [], ◌∷◌}
use Rattle.std.specs.List.{AllByRecursion}
use Rattle.acc_stamp.specs.declared.stamps.TxnId.{TxnId}
use Rattle.acc_stamp.specs.Rising.{IsRisingBy, IsRising, id_among, ids_union}
use Rattle.acc_deps.specs.declared.shards.ShardDeps.{ShardDeps}

abbrev pub shard_lt : ShardDeps → ShardDeps → Bool
shard_lt d e = nat_lt d.shard e.shard

-- Each shard stands once, in order, with at least one transaction.
pub record AreDeps (deps : List ShardDeps) : Type 0 where
  pub shards : IsRisingBy shard_lt deps
  pub ids : AllByRecursion (λ d. IsRising d.ids) deps
  pub some : AllByRecursion (λ d. 0 < length d.ids) deps

abbrev pub of_shard : List ShardDeps → ℕ → List TxnId
of_shard [] shard = []
of_shard (d ∷ deps) shard = if d.shard == shard then d.ids else of_shard deps shard

abbrev pub deps_has : List ShardDeps → ℕ → TxnId → Bool
deps_has deps shard id = id_among id (of_shard deps shard)

abbrev pub with_shard : ShardDeps → List ShardDeps → List ShardDeps
with_shard e [] = e ∷ []
with_shard e (d ∷ deps) =
    if shard_lt e d then e ∷ d ∷ deps
    else (if shard_lt d e then d ∷ with_shard e deps else record d { ids = ids_union d.ids e.ids } ∷ deps)

abbrev pub deps_with : ℕ → TxnId → List ShardDeps → List ShardDeps
deps_with shard id deps = with_shard (record { shard = shard; ids = id ∷ [] }) deps

abbrev pub deps_union : List ShardDeps → List ShardDeps → List ShardDeps
deps_union deps [] = deps
deps_union deps (e ∷ more) = with_shard e (deps_union deps more)

abbrev pub all_ids : List ShardDeps → List TxnId
all_ids [] = []
all_ids (d ∷ deps) = ids_union d.ids (all_ids deps)

-- those of one shard alone
abbrev pub deps_of : ℕ → List TxnId → List ShardDeps
deps_of shard [] = []
deps_of shard (id ∷ ids) = record { shard = shard; ids = id ∷ ids } ∷ []

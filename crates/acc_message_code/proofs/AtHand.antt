-- Dependencies that were found in bytes fit.
use Rattle.std.proofs.Common.{ℕ, ◌<◌, ◌≤◌, List, [], ◌∷◌, length}
use Rattle.std.specs.List.{AllByRecursion}
use Rattle.acc_stamp.specs.Rising.{IsRising}
use Rattle.acc_deps.specs.declared.shards.ShardDeps.{ShardDeps}
use Rattle.acc_deps.specs.Deps.{AreDeps}
use Rattle.acc_message_code.specs.Short.{IsShortShard}
use Rattle.acc_message_code.specs.Fitting.{FitStamps, FitsShard, FitDeps}

each_fits : (deps : List ShardDeps) → AllByRecursion (λ d. IsRising d.ids) deps → AllByRecursion (λ d. 0 < length d.ids) deps → AllByRecursion IsShortShard deps → AllByRecursion (λ d. FitStamps d.ids) deps → AllByRecursion FitsShard deps
each_fits [] rise some short stamps = tt
each_fits (d ∷ deps) rise some short stamps = (
  record { least = short.0.least; most = short.0.most; some = some.0; ids = record { count = short.0.ids; stamps = stamps.0; rise = rise.0 } },
  each_fits deps rise.1 some.1 short.1 stamps.1,
)

pub deps_fit : (deps : List ShardDeps) → AreDeps deps → length deps ≤ 15 → AllByRecursion IsShortShard deps → AllByRecursion (λ d. FitStamps d.ids) deps → FitDeps deps
deps_fit deps are count short stamps = record { count = count; shards = each_fits deps are.ids are.some short stamps; rise = are.shards }

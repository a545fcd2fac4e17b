use Rattle.std.proofs.Common.{◌≡◌, List, sym, ◌∙◌, subst}
use Rattle.std.proofs.lemmas.Result.{IfOk-weaker}
use Rattle.acc_deps.specs.declared.shards.ShardDeps.{ShardDeps}
use Rattle.acc_deps.specs.Deps.{AreDeps, deps_union}
use Rattle.acc_deps.proofs.ByShard.{AreDeps-union}
use Rattle.acc_deps.proofs.Within.{IsWithin, union_with_part, union_with_whole}
use Rattle.acc_deps.proofs.deps.Deps.joined.Goals as goal

pub returns-then-has_each : goal.returns-then-has_each
returns-then-has_each c =
    let ours : List ShardDeps = c.args.self.now in
    let theirs : List ShardDeps = c.args.other.now in
    let part : IsWithin theirs ours = subst (λ ds. IsWithin ds ours) c.by_shard-theirs.ensures.shards (c.has_each.ensures c.if-has_each.true) in
    IfOk-weaker _ (λ joined. joined ≡ ours) (λ joined. joined ≡ deps_union ours theirs)
    (λ joined e. e ∙ sym (union_with_part ours theirs c.by_shard-ours.ensures.stands c.by_shard-theirs.ensures.stands part)) c.copy.ensures

pub returns-then-has_each-2 : goal.returns-then-has_each-2
returns-then-has_each-2 c =
    let ours : List ShardDeps = c.args.self.now in
    let theirs : List ShardDeps = c.args.other.now in
    let part : IsWithin ours theirs = subst (λ ds. IsWithin ds theirs) c.by_shard-ours.ensures.shards (c.has_each-2.ensures c.if-has_each-2.true) in
    IfOk-weaker _ (λ joined. joined ≡ theirs) (λ joined. joined ≡ deps_union ours theirs)
    (λ joined e. e ∙ sym (union_with_whole ours theirs c.by_shard-ours.ensures.stands c.by_shard-theirs.ensures.stands part)) c.copy-then-has_each-2.ensures

pub of-requires : goal.of-requires
of-requires c =
    let ours = subst AreDeps (sym c.by_shard-ours.ensures.shards) c.by_shard-ours.ensures.stands in
    let theirs = subst AreDeps (sym c.by_shard-theirs.ensures.shards) c.by_shard-theirs.ensures.stands in
    subst AreDeps (sym c.in_ok-merged.ensures) (AreDeps-union _ _ ours theirs)

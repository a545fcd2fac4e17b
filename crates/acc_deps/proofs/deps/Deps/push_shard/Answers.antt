use Rattle.std.proofs.Common.{◌<◌, ◌∷◌, [], ◌++◌, length, sym, subst, arith}
use Rattle.std.specs.List.{AllByRecursion}
use Rattle.std.proofs.lemmas.Bool.Decides.{nat_tests}
use Rattle.acc_deps.specs.Content.{held}
use Rattle.acc_deps.proofs.ByShard.{AreDeps-push, AreDeps-after}
use Rattle.acc_deps.proofs.deps.Deps.push_shard.Goals as goal

pub invariant_of-self : goal.invariant_of-self
invariant_of-self c =
    let before = held c.self.inside.shards in
    let behind = subst (AllByRecursion (λ d. d.shard < c.args.shard)) (sym c.self.view_is) c.requires.behind in
    let some : 0 < length c.args.ids = let e = c.if-is_empty.ensures in grind (arith, nat_tests) in
    AreDeps-after c.push_shared.result before (held c.push_shared.new.content) (before ++ record { shard = c.args.shard; ids = c.args.ids } ∷ []) c.push_shared.ensures.ok c.push_shared.ensures.err
    (AreDeps-push before c.args.shard c.args.ids c.self.invariant behind c.requires.rises some) c.self.invariant

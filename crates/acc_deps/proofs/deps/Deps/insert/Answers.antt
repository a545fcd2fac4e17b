use Rattle.acc_deps.specs.Deps.{deps_with}
use Rattle.acc_deps.specs.Content.{held}
use Rattle.acc_deps.proofs.ByShard.{AreDeps-with_id, AreDeps-after}
use Rattle.acc_deps.proofs.deps.Deps.insert.Goals as goal

pub invariant_of-self : goal.invariant_of-self
invariant_of-self c =
    let before = held c.self.inside.shards in
    AreDeps-after c.insert_shared.result before (held c.insert_shared.new.content) (deps_with c.args.shard c.args.id before) c.insert_shared.ensures.ok c.insert_shared.ensures.err
    (AreDeps-with_id c.args.shard c.args.id before c.self.invariant) c.self.invariant

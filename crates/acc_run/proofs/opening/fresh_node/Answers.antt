use Rattle.std.proofs.Common.{ℕ, ◌*◌, ◌≤◌, Fits, w32, sym, ◌∙◌, ap, arith}
use Rattle.acc_durable_node.specs.declared.name.NodeName.{NodeName}
use Rattle.acc_actors.specs.Slots.{node_name}
use Rattle.acc_run.proofs.Numbers.{node_range}
use Rattle.acc_run.proofs.Beginning.{node_fresh, fresh_only}
use Rattle.acc_run.proofs.opening.fresh_node.Goals as goal

low_fits : (n : ℕ) → n ≤ 15 → Fits w32 (n * 64)
low_fits n low = omega (arith, low)

pub overflow_mul-number : goal.overflow_mul-number
overflow_mul-number g c = low_fits c.args.number (node_range c.args.plan.now.topology c.args.number c.requires.is_plan.layout c.requires.known).1

pub fresh-requires-clause-named : goal.fresh-requires-clause-named
fresh-requires-clause-named g c = c.name_of-name.ensures.range

pub returns-clause-number : goal.returns-clause-number
returns-clause-number g c = ap (λ (name : NodeName). name.number) (c.fresh.ensures.named ∙ c.name_of-name.ensures.name)

pub returns-clause-fresh : goal.returns-clause-fresh
returns-clause-fresh g c =
    let n = c.fresh.ensures in
    let named = n.named ∙ c.name_of-name.ensures.name in
    node_fresh g.M.D.Disk c.args.plan.now c.fresh.result c.in_ok-disk.disk n.stands (named ∙ ap (node_name c.args.plan.now) (sym (ap (λ (name : NodeName). name.number) named)))
    n.journal.0 n.journal.1 (fresh_only g.M.D.Disk c.in_ok-disk.disk c.in_ok-disk.ensures.fresh)

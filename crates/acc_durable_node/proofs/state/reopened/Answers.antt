-- The crash left an image of the disk, and it reads as what the past may have left.
use Rattle.std.proofs.Common.{ℕ, List, ◌-◌, ◌^◌, ◌<◌, ltb, Some, sym, subst, arith, rules}
use Rattle.acc_ports.specs.Disk.{CrashLeaves}
use Rattle.acc_durable_node.specs.declared.state.NodeState.TheVariants.{Open}
use Rattle.acc_journal.specs.Layout.{Reads}
use Rattle.acc_payloads.specs.Stops.{TellsByChoice}
use Rattle.acc_durable_node.specs.Actor.{IsFound}
use Rattle.acc_durable_node.proofs.NodeRestarts.{found_up, tells_if}
use Rattle.acc_durable_node.proofs.state.reopened.Goals as goal

pub returns-in-Ok-clause-ok : goal.returns-in-Ok-clause-ok
returns-in-Ok-clause-ok g c =
    let small : c.args.kept < 2 ^ 64 - 1 = omega arith in
    let left : g.D.Disk.is_image c.args.disk (g.D.Disk.state c.crash.new.self).content = search rules in
    λ layout past lefts count.
    subst (λ (n : ℕ). IsFound g.D.Disk layout c.args.named.name past (Some (ltb c.args.kept n)) (Open c.in-Ok.node)) (sym c.kept.ensures)
    (found_up g.D.Disk layout c.args.named.name past (g.D.Disk.state c.crash.new.self).content c.in-Ok.node c.args.kept c.in-Ok.ensures.reads c.in-Ok.ensures.named (c.in-Ok.ensures.restarts layout)
    count small (lefts (g.D.Disk.state c.crash.new.self).content left)
    (λ image i. subst (λ (bytes : List ℕ). Reads bytes c.in-Ok.node.journal.payloads) (sym (c.in-Ok.ensures.disk.only image i)) c.in-Ok.ensures.reads))

pub returns-in-Ok-clause-strict : goal.returns-in-Ok-clause-strict
returns-in-Ok-clause-strict g c =
    let small : c.args.kept < 2 ^ 64 - 1 = omega arith in
    let left : g.D.Disk.is_image c.args.disk (g.D.Disk.state c.crash.new.self).content = search rules in
    λ is_strict layout past keeps reads count.
    let by : CrashLeaves c.args.choice (g.D.Disk.state c.args.disk) (g.D.Disk.state c.crash.new.self).content = search rules in
    subst (λ (n : ℕ). TellsByChoice keeps past.stopped (Some (ltb c.args.kept n))) (sym c.kept.ensures)
    (tells_if g.D.Disk layout c.args.named.name past (g.D.Disk.state c.crash.new.self).content c.in-Ok.node c.args.kept c.in-Ok.ensures.reads c.in-Ok.ensures.named (c.in-Ok.ensures.restarts layout)
    count small keeps (reads (g.D.Disk.state c.crash.new.self).content left by))

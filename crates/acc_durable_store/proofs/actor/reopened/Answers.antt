-- The crash left an image of the disk, and it reads as what the past may have left.
use Rattle.std.proofs.Common.{ℕ, List, ◌-◌, ◌^◌, ◌<◌, ltb, Some, sym, subst, arith, rules}
use Rattle.acc_ports.specs.Disk.{CrashLeaves}
use Rattle.acc_durable_store.specs.declared.actor.StoreState.TheVariants.{Open}
use Rattle.acc_journal.specs.Layout.{Reads}
use Rattle.acc_payloads.specs.Stops.{TellsByChoice}
use Rattle.acc_durable_store.specs.Actor.{IsFound}
use Rattle.acc_durable_store.proofs.StoreRestarts.{found_up, tells_if}
use Rattle.acc_durable_store.proofs.actor.reopened.Goals as goal

pub returns-in-Ok-clause-ok : goal.returns-in-Ok-clause-ok
returns-in-Ok-clause-ok g c =
    let small : c.args.kept < 2 ^ 64 - 1 = omega arith in
    let left : g.D.Disk.is_image c.args.disk (g.D.Disk.state c.crash.new.self).content = search rules in
    λ past lefts count.
    subst (λ (n : ℕ). IsFound g.D.Disk c.args.topology.now (record { actor = c.args.actor; version = c.args.version }) past (Some (ltb c.args.kept n)) (Open c.in-Ok.store)) (sym c.kept.ensures)
    (found_up g.D.Disk c.args.topology.now (record { actor = c.args.actor; version = c.args.version }) past (g.D.Disk.state c.crash.new.self).content c.in-Ok.store c.args.kept c.in-Ok.ensures.reads (λ i. record { actor = c.in-Ok.ensures.given.0 i; version = c.in-Ok.ensures.given.1 i }) c.in-Ok.ensures.ok
    count small (lefts (g.D.Disk.state c.crash.new.self).content left)
    (λ image i. subst (λ (bytes : List ℕ). Reads bytes c.in-Ok.store.journal.payloads) (sym (c.in-Ok.ensures.disk.only image i)) c.in-Ok.ensures.reads))

pub returns-in-Ok-clause-strict : goal.returns-in-Ok-clause-strict
returns-in-Ok-clause-strict g c =
    let small : c.args.kept < 2 ^ 64 - 1 = omega arith in
    let left : g.D.Disk.is_image c.args.disk (g.D.Disk.state c.crash.new.self).content = search rules in
    λ is_strict past keeps reads count.
    let by : CrashLeaves c.args.choice (g.D.Disk.state c.args.disk) (g.D.Disk.state c.crash.new.self).content = search rules in
    subst (λ (n : ℕ). TellsByChoice keeps past.stopped (Some (ltb c.args.kept n))) (sym c.kept.ensures)
    (tells_if g.D.Disk c.args.topology.now (record { actor = c.args.actor; version = c.args.version }) past (g.D.Disk.state c.crash.new.self).content c.in-Ok.store c.args.kept c.in-Ok.ensures.reads (λ i. record { actor = c.in-Ok.ensures.given.0 i; version = c.in-Ok.ensures.given.1 i }) c.in-Ok.ensures.ok
    count small keeps (reads (g.D.Disk.state c.crash.new.self).content left by))

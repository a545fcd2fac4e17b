-- The node of a journal.
use Rattle.std.proofs.Common.{subst}
use Rattle.acc_stamp.specs.declared.actors.Actor.{Actor}
use Rattle.acc_stamp.specs.Actor.{actor_of}
use Rattle.acc_safety.proofs.DrawFacts.{is_node-node}
use Rattle.acc_left_laws.specs.Left.{journal_at}
use Rattle.acc_resume.specs.Opened.{memory, HoldsJournal}
use Rattle.acc_resume.proofs.Opened.{node_known, opened_node}
use Rattle.acc_resume.proofs.nodes.node_of.Goals as goal

pub returns-in-Ok : goal.returns-in-Ok
returns-in-Ok c =
    let plan = c.args.plan.now in
    let images = c.args.images.now in
    let number = c.args.number in
    let e = c.in-Ok.ensures in
    opened_node memory plan images c.requires.left number c.name_of-name.result c.in_ok-disk.disk c.in-Ok.node
    (subst (λ (a : Actor). HoldsJournal memory (journal_at images a) c.in_ok-disk.disk) c.actor.ensures.number c.in_ok-disk.ensures) c.name_of-name.ensures.name
    c.name_of-name.ensures.range e.named e.reads e.restarts e.disk
    (λ s keeps has room. (c.reopened_actors_stand.ensures plan s keeps images c.requires.is_plan has room).nodes (actor_of number 0) (node_known plan.topology number c.requires.known) (is_node-node number))

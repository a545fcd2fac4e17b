-- A node over a new disk stands for nothing.
use Rattle.std.proofs.Common.{[], IsTrue, refl, sym, ◌∙◌, ap, subst}
use Rattle.acc_payloads.specs.Items.{without_marks}
use Rattle.acc_durable_node.specs.Names.{IsNodeName}
use Rattle.acc_actors.proofs.Opens.{node_opens}
use Rattle.acc_actors.proofs.Unarmed.{node_unarmed}
use Rattle.acc_actors.proofs.slot.Slot.fresh_node.Goals as goal

pub fresh-node-requires-clause-named : goal.fresh-node-requires-clause-named
fresh-node-requires-clause-named g c = c.name_of-name.ensures.range

pub opened-requires-clause-named : goal.opened-requires-clause-named
opened-requires-clause-named g c = subst IsNodeName (sym c.fresh-node.ensures.named) c.name_of-name.ensures.range

pub opened-requires-clause-sound : goal.opened-requires-clause-sound
opened-requires-clause-sound g c = (c.fresh-node.ensures.stands c.args.plan.now.topology).sound

pub returns-clause-stands : goal.returns-clause-stands
returns-clause-stands g c =
    let plan = c.args.plan.now in
    let node = c.fresh-node.ensures in
    node_opens g.D.Disk plan c.args.number c.fresh-node.result c.opened.result (node.named ∙ c.name_of-name.ensures.name)
    (λ acts h. c.opened.ensures.stands plan.topology acts h) c.opened.ensures.up [] (λ b. refl)
    (record { stands = node.stands plan.topology; held = ap without_marks node.journal.1 })

pub returns-clause-strict : goal.returns-clause-strict
returns-clause-strict g c = λ unarmed.
    let d = g.D.Disk in
    let plan = c.args.plan.now in
    let same = c.fresh-node.ensures.journal.0 in
    let is_strict : IsTrue (d.state c.fresh-node.result.journal.disk).strict = subst (λ (x : g.row.D.Denot). IsTrue (d.state x).strict) (sym same) unarmed.0 in
    node_unarmed d plan c.args.number c.fresh-node.result.name (d.state c.fresh-node.result.journal.disk).armed c.opened.result (c.fresh-node.ensures.named ∙ c.name_of-name.ensures.name)
    (ap (λ (x : g.row.D.Denot). (d.state x).armed) same ∙ unarmed.1)
    (λ passed past. c.opened.ensures.strict is_strict plan.topology passed past) []

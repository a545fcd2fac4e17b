-- A store over a new disk stands for nothing.
use Rattle.std.proofs.Common.{[], IsTrue, refl, sym, ◌∙◌, ap, subst}
use Rattle.acc_payloads.specs.Items.{without_marks}
use Rattle.acc_schedule.specs.Content.{Content}
use Rattle.acc_actors.proofs.Opens.{store_opens}
use Rattle.acc_actors.proofs.Unarmed.{store_unarmed}
use Rattle.acc_actors.proofs.slot.Slot.fresh_store.Goals as goal

pub opened-requires-clause-sound : goal.opened-requires-clause-sound
opened-requires-clause-sound g c = (c.fresh-store.ensures.stands c.args.plan.now.topology).sound

pub opened-requires-clause-named : goal.opened-requires-clause-named
opened-requires-clause-named g c = λ i. record { actor = c.fresh-store.ensures.given.0 i; version = c.fresh-store.ensures.given.1 i }

pub returns-clause-stands : goal.returns-clause-stands
returns-clause-stands g c =
    let plan = c.args.plan.now in
    let store = c.fresh-store.ensures in
    let version = ap (λ (p : Content). p.version) c.plan.view_is in
    store_opens g.D.Disk plan c.fresh-store.result c.args.actor (record { actor = c.args.actor; version = c.plan.inside.version }) c.opened.result store.given.0 c.requires.kind
    (λ i. record { actor = c.args.actor; version = version i })
    (λ messages h. c.opened.ensures.stands plan.topology messages h) c.opened.ensures.up [] (λ b. refl)
    (record { stands = store.stands plan.topology; held = ap without_marks store.journal.1 })

pub returns-clause-strict : goal.returns-clause-strict
returns-clause-strict g c = λ unarmed.
    let d = g.D.Disk in
    let plan = c.args.plan.now in
    let same = c.fresh-store.ensures.journal.0 in
    let version = ap (λ (p : Content). p.version) c.plan.view_is in
    let is_strict : IsTrue (d.state c.fresh-store.result.journal.disk).strict = subst (λ (x : g.row.D.Denot). IsTrue (d.state x).strict) (sym same) unarmed.0 in
    store_unarmed d plan c.args.actor (record { actor = c.args.actor; version = c.plan.inside.version }) (d.state c.fresh-store.result.journal.disk).armed c.opened.result
    (λ i. record { actor = c.args.actor; version = version i }) (ap (λ (x : g.row.D.Denot). (d.state x).armed) same ∙ unarmed.1)
    (λ passed past. c.opened.ensures.strict is_strict plan.topology passed past) []

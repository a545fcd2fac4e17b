use Rattle.std.proofs.Common.{sym, ap, ◌∙◌}
use Rattle.std.proofs.lemmas.Result.{IfOk-weaker}
use Rattle.acc_message.specs.declared.entry.Entry.{Entry}
use Rattle.acc_message.specs.Shown.{with_sent}
use Rattle.acc_world.specs.Held.{cluster_of, HasTaken}
use Rattle.acc_world.proofs.Rebuilt.{may_again, stands_on, asked_again, did_again, ok_with, same_as}
use Rattle.acc_world.proofs.rebuilding.redo.Goals as goal

pub act-requires : goal.act-requires
act-requires c =
    let out = c.requires.0 in
    let entry : Entry = record { actor = c.in-Step.stepped; lost = c.in-Step.lost; event = c.in-Step.event; emitted = record { notes = c.in-Step.notes.now; out = out } } in
    may_again c.args.setup.now c.args.history.now c.requires.1 c.requires.2 entry (with_sent c.args.item out) (ap (λ s. with_sent s out) c.in-Step.is) c.args.actor (same_as c.in-Step.stepped c.args.actor c.if-ne.ensures) c.args.held.now c.requires.3

pub returns : goal.returns
returns c out items earlier r =
    let entry : Entry = record { actor = c.in-Step.stepped; lost = c.in-Step.lost; event = c.in-Step.event; emitted = record { notes = c.in-Step.notes.now; out = out } } in
    let item = with_sent c.args.item out in
    let is = ap (λ s. with_sent s out) c.in-Step.is in
    let own = same_as c.in-Step.stepped c.args.actor c.if-ne.ensures in
    let act = (stands_on c.args.setup.now c.args.history.now items earlier entry item is c.args.actor own c.args.held.now r).act in
    let did =
    ok_with c.act.result (λ emitted. HasTaken (cluster_of c.args.setup.now) earlier c.args.actor c.in-Step.event act emitted c.act.new.self)
    (sym c.is_err.ensures.value ∙ c.if-is_err.false)
    (IfOk-weaker c.act.result _ _
    (λ emitted h. h items earlier act (asked_again c.args.setup.now c.args.history.now items earlier entry item is c.args.actor own c.args.held.now r))
    c.act.ensures.ok) in
    did_again c.args.setup.now c.args.history.now items earlier entry item is c.args.actor own c.args.held.now r did.0 c.act.new.self did.1

use Rattle.std.proofs.Common.{◌≡◌, Option, None, Some, sym, ap, subst, ◌∙◌}
use Rattle.std.proofs.lemmas.Result.{IfOk-weaker}
use Rattle.std.specs.BTreeMap.{get}
use Rattle.acc_stamp.specs.declared.stamps.TxnId.{TxnId}
use Rattle.acc_stamp.specs.Stamp.{id_cmp}
use Rattle.acc_message_code.specs.Weight.{weight_of_all}
use Rattle.acc_coord.specs.Weighing.{sent_on}
use Rattle.acc_message.specs.Attempts.{Attempt}
use Rattle.acc_message.specs.Fields.{id_of}
use Rattle.acc_node.specs.Stands.{RunsAs}
use Rattle.acc_node.specs.Weighing.{AttemptSendsShort}
use Rattle.acc_node.proofs.Sending.{none_sends, attempt_sends_short, attempt_weighs}
use Rattle.acc_node.proofs.node.Node.weigh_attempt.Goals as goal

pub weigh-requires : goal.weigh-requires
weigh-requires c =
    let layout = c.args.topology.now in
    let n = c.args.self.now in
    let running = c.get-in-Some.result.now in
    let found : get id_cmp n.attempts (id_of c.args.m.now) ≡ Some running = subst (λ (z : TxnId). get id_cmp n.attempts z ≡ Some running) c.id-id.ensures (sym c.in-Some.ensures.value ∙ ap Some (sym c.get-in-Some.ensures)) in
    subst (λ (z : TxnId). AttemptSendsShort layout z running c.args.m.now) (sym c.id-id.ensures) (attempt_sends_short layout n c.args.m.now running c.requires.short c.requires.other found)

pub returns-in-Some : goal.returns-in-Some
returns-in-Some c =
    let layout = c.args.topology.now in
    let n = c.args.self.now in
    let running = c.get-in-Some.result.now in
    let found : get id_cmp n.attempts (id_of c.args.m.now) ≡ Some running = subst (λ (z : TxnId). get id_cmp n.attempts z ≡ Some running) c.id-id.ensures (sym c.in-Some.ensures.value ∙ ap Some (sym c.get-in-Some.ensures)) in
    IfOk-weaker c.weigh.result _ _
    (λ weight h. attempt_weighs layout n c.args.m.now running weight c.requires.other found
    (subst (λ (z : TxnId). (a : Attempt) → RunsAs layout z running a → weight ≡ weight_of_all (sent_on layout z a c.args.m.now)) c.id-id.ensures h))
    c.weigh.ensures

pub returns-in-None : goal.returns-in-None
returns-in-None c = λ number start acts s.
    let n = c.args.self.now in
    let none : get id_cmp n.attempts (id_of c.args.m.now) ≡ None = subst (λ (z : TxnId). get id_cmp n.attempts z ≡ None) c.id-id.ensures (sym c.in-None.ensures.value) in
    sym (ap weight_of_all (none_sends c.args.topology.now number start acts n c.args.m.now s c.requires.other none))

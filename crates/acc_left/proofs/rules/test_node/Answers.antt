use Rattle.std.proofs.Common.{ℕ, List, Some, None, inl, ap, subst}
use Rattle.acc_left.specs.declared.refusal.JournalFault.TheVariants.{Payload}
use Rattle.acc_journal.specs.Journal.{IsRefused}
use Rattle.acc_journal.specs.Layout.{Reads}
use Rattle.acc_left.specs.Told.{bytes_in}
use Rattle.acc_left.specs.Rules.{IsNodeFault, IsUnreadable}
use Rattle.acc_left.proofs.RuleFacts.{bad_draw, node_entered, node_found, refuses_for, refuses_more}
use Rattle.acc_left.proofs.rules.test_node.Goals as goal

pub returns-in-Err : goal.returns-in-Err
returns-in-Err c =
    refuses_more (IsUnreadable c.args.image.now.bytes) (IsNodeFault c.args.plan.now c.args.image.now) c.args.image.now c.unreadable.result
    (λ detail at there. inl there) (c.unreadable.ensures c.args.image.now.bytes (subst (λ (b : List ℕ). IsRefused b c.in-Err.error) c.as_slice.ensures c.in-Err.ensures.refused))

pub returns-in-Some : goal.returns-in-Some
returns-in-Some c =
    refuses_for (IsNodeFault c.args.plan.now c.args.image.now) c.args.image.now (Payload c.in-Some.gate) c.refusal.result
    (bad_draw c.args.plan.now c.args.image.now (bytes_in c.in-Ok.payloads.items) c.in-Some.gate (subst (λ (b : List ℕ). Reads b (bytes_in c.in-Ok.payloads.items)) c.as_slice.ensures c.in-Ok.ensures.ok)
    (node_found c.args.plan.now c.args.image.now (bytes_in c.in-Ok.payloads.items) (bytes_in c.deref.result.now) c.node.result c.args.drawn.now.draws c.enter_node.new.drawn.draws _ (Some c.in-Some.gate)
    (ap bytes_in c.deref.ensures.value) c.node.ensures c.in-Some.is c.in_ok-gate.ensures)) c.refusal.ensures

pub returns : goal.returns
returns c =
    node_entered c.args.plan.now c.args.image.now (bytes_in c.in-Ok.payloads.items) c.args.drawn.now.draws c.enter_node.new.drawn.draws (subst (λ (b : List ℕ). Reads b (bytes_in c.in-Ok.payloads.items)) c.as_slice.ensures c.in-Ok.ensures.ok)
    (node_found c.args.plan.now c.args.image.now (bytes_in c.in-Ok.payloads.items) (bytes_in c.deref.result.now) c.node.result c.args.drawn.now.draws c.enter_node.new.drawn.draws _ None
    (ap bytes_in c.deref.ensures.value) c.node.ensures c.in-None.is c.in_ok-gate.ensures)

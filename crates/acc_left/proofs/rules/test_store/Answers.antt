use Rattle.std.proofs.Common.{ℕ, List, Some, None, inl, ap, subst}
use Rattle.acc_left.specs.declared.refusal.JournalFault.TheVariants.{Payload}
use Rattle.acc_journal.specs.Journal.{IsRefused}
use Rattle.acc_journal.specs.Layout.{Reads}
use Rattle.acc_left.specs.Told.{bytes_in}
use Rattle.acc_left.specs.Rules.{IsStoreFault, IsUnreadable}
use Rattle.acc_left.proofs.RuleFacts.{bad_message, refuses_for, refuses_more, store_found, store_kept}
use Rattle.acc_left.proofs.rules.test_store.Goals as goal

pub returns-in-Err : goal.returns-in-Err
returns-in-Err c = λ images tells.
    refuses_more (IsUnreadable c.args.image.now.bytes) (IsStoreFault c.args.plan.now images c.args.image.now) c.args.image.now c.unreadable.result
    (λ detail at there. inl there) (c.unreadable.ensures c.args.image.now.bytes (subst (λ (b : List ℕ). IsRefused b c.in-Err.error) c.as_slice.ensures c.in-Err.ensures.refused))

pub returns-in-Some : goal.returns-in-Some
returns-in-Some c = λ images tells.
    refuses_for (IsStoreFault c.args.plan.now images c.args.image.now) c.args.image.now (Payload c.in-Some.gate) c.refusal.result
    (bad_message c.args.plan.now images c.args.image.now (bytes_in c.in-Ok.payloads.items) c.in-Some.gate (subst (λ (b : List ℕ). Reads b (bytes_in c.in-Ok.payloads.items)) c.as_slice.ensures c.in-Ok.ensures.ok)
    (store_found c.args.plan.now images c.args.image.now.actor (bytes_in c.in-Ok.payloads.items) (bytes_in c.deref.result.now) _ (Some c.in-Some.gate) (ap bytes_in c.deref.ensures.value) c.in-Some.is
    (c.in_ok-gate.ensures images tells))) c.refusal.ensures

pub returns : goal.returns
returns c = λ images tells.
    store_kept c.args.plan.now images c.args.image.now (bytes_in c.in-Ok.payloads.items) (subst (λ (b : List ℕ). Reads b (bytes_in c.in-Ok.payloads.items)) c.as_slice.ensures c.in-Ok.ensures.ok)
    (store_found c.args.plan.now images c.args.image.now.actor (bytes_in c.in-Ok.payloads.items) (bytes_in c.deref.result.now) _ None (ap bytes_in c.deref.ensures.value) c.in-None.is
    (c.in_ok-gate.ensures images tells))

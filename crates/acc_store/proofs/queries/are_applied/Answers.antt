use Rattle.std.proofs.Common.{◌≡◌, Bool, true, sym, ap, ◌∙◌, subst}
use Rattle.std.specs.List.{list_all}
use Rattle.std.proofs.lemmas.List.{take_all}
use Rattle.acc_stamp.specs.declared.stamps.TxnId.{TxnId}
use Rattle.acc_record.specs.Shelf.{record_at}
use Rattle.acc_execute.proofs.Tests.{all_more, not_all_here}
use Rattle.acc_store.specs.Queries.{applied_in}
use Rattle.acc_store.proofs.queries.are_applied.Goals as goal

pub loop-id-preserved : goal.loop-id-preserved
loop-id-preserved c =
    let here : TxnId → Bool = λ y. applied_in (record_at c.args.shelf.now.records y) in
    all_more here c.args.ids.now c.loop-id.id-index _ c.loop-id-test.true c.loop-id.invariant
    (sym (c.is_applied.ensures ∙ ap applied_in c.find.ensures) ∙ c.if-not-is_applied.false)

pub returns-then-not-is_applied : goal.returns-then-not-is_applied
returns-then-not-is_applied c =
    let here : TxnId → Bool = λ y. applied_in (record_at c.args.shelf.now.records y) in
    sym
    (not_all_here here c.args.ids.now c.loop-id.id-index _ c.loop-id-test.true
    (sym (c.is_applied.ensures ∙ ap applied_in c.find.ensures) ∙ c.if-not-is_applied.true))

pub returns : goal.returns
returns c =
    let here : TxnId → Bool = λ y. applied_in (record_at c.args.shelf.now.records y) in
    sym (subst (λ list. list_all here list ≡ true) (take_all c.loop-id.id-index c.args.ids.now c.loop-id-test.false) c.loop-id.invariant)

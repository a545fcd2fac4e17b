use Rattle.std.proofs.Common.{◌≡◌, Bool, true, sym, ap, ◌∙◌, subst}
use Rattle.std.specs.List.{list_all}
use Rattle.std.proofs.lemmas.List.{take_all}
use Rattle.acc_stamp.specs.declared.stamps.TxnId.{TxnId}
use Rattle.acc_record.specs.Shelf.{record_at}
use Rattle.acc_record.specs.Waits.{is_past_record}
use Rattle.acc_execute.proofs.Tests.{all_more, not_all_here}
use Rattle.acc_execute.proofs.readiness.are_past.Goals as goal

pub loop-id-preserved : goal.loop-id-preserved
loop-id-preserved c =
    let past : TxnId → Bool = λ y. is_past_record c.args.t (record_at c.args.shelf.now.records y) in
    all_more past c.args.ids.now c.loop-id.id-index _ c.loop-id-test.true c.loop-id.invariant
    (sym (c.is_past.ensures ∙ ap (is_past_record c.args.t) c.find.ensures) ∙ c.if-not-is_past.false)

pub returns-then-not-is_past : goal.returns-then-not-is_past
returns-then-not-is_past c =
    let past : TxnId → Bool = λ y. is_past_record c.args.t (record_at c.args.shelf.now.records y) in
    sym
    (not_all_here past c.args.ids.now c.loop-id.id-index _ c.loop-id-test.true
    (sym (c.is_past.ensures ∙ ap (is_past_record c.args.t) c.find.ensures) ∙ c.if-not-is_past.true))

pub returns : goal.returns
returns c =
    let past : TxnId → Bool = λ y. is_past_record c.args.t (record_at c.args.shelf.now.records y) in
    sym (subst (λ list. list_all past list ≡ true) (take_all c.loop-id.id-index c.args.ids.now c.loop-id-test.false) c.loop-id.invariant)

use Rattle.std.proofs.Common.{◌&&◌, sym, ◌∙◌, ap}
use Rattle.std.specs.List.{list_all}
use Rattle.std.proofs.lemmas.List.{take_all}
use Rattle.std.proofs.lemmas.List.Folds.{list_all_at, list_all_more}
use Rattle.acc_heal.specs.Seen.{has_taker}
use Rattle.acc_heal.proofs.lacking.all_took.Goals as goal

pub returns-then-not-took_apply : goal.returns-then-not-took_apply
returns-then-not-took_apply c =
    sym
    (list_all_at (has_taker c.args.seen.now.taken.keys c.args.id) c.args.stores.now c.loop-store.store-index _ c.loop-store-test.true
    (sym c.took_apply.ensures ∙ c.if-not-took_apply.true))

pub loop-store-preserved : goal.loop-store-preserved
loop-store-preserved c =
    list_all_more (has_taker c.args.seen.now.taken.keys c.args.id) c.args.stores.now c.loop-store.store-index _ c.loop-store-test.true
    ∙ (λ k. c.loop-store.invariant k && (sym c.took_apply.ensures ∙ c.if-not-took_apply.false) k)

pub returns : goal.returns
returns c =
    let taken = has_taker c.args.seen.now.taken.keys c.args.id in
    sym (ap (list_all taken) (sym (take_all c.loop-store.store-index c.args.stores.now c.loop-store-test.false)) ∙ c.loop-store.invariant)

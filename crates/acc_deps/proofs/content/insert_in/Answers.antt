use Rattle.std.proofs.Common.{◌≡◌, ℕ, List, [], ◌∷◌, ◌++◌, insert, nat_lt, set, ap, ◌∙◌, subst}
use Rattle.std.proofs.lemmas.Result.{IfOk-weaker}
use Rattle.acc_stamp.specs.declared.stamps.TxnId.{TxnId}
use Rattle.acc_deps.specs.declared.shards.ShardDeps.{ShardDeps}
use Rattle.acc_stamp.specs.Rising.{IsPlaceOf, IsGapFor, ids_with}
use Rattle.acc_deps.specs.Deps.{deps_with}
use Rattle.acc_deps.proofs.ByShard.{deps_with-place, with_shard-gap}
use Rattle.acc_deps.proofs.content.insert_in.Goals as goal

pub returns-in-Ok-clause-ok : goal.returns-in-Ok-clause-ok
returns-in-Ok-clause-ok c =
    let items = c.args.shards.now.items in
    let x = c.index_mut.result.now in
    let after = set items c.in-Ok.place (record { shard = x.shard; ids = c.insert_id.new.ids }) in
    let place = subst (λ ds. IsPlaceOf (λ d. d.shard) ds c.args.shard c.in-Ok.place) c.deref.ensures.value c.in-Ok.ensures in
    IfOk-weaker _ (λ _. c.insert_id.new.ids ≡ ids_with c.args.id x.ids) (λ _. after ≡ deps_with c.args.shard c.args.id items)
    (λ _ e. deps_with-place items c.args.shard c.in-Ok.place c.args.id x _ c.requires.shards place c.index_mut.ensures.value e)
    c.insert_id.ensures.ok

put_in : (ds after : List ShardDeps) (s i : ℕ) (id : TxnId) (none ids : List TxnId) → IsGapFor nat_lt (λ d. d.shard) ds s i → none ≡ [] → ids ≡ none ++ id ∷ [] → after ≡ insert ds i (record { shard = s; ids = ids }) → after ≡ deps_with s id ds
put_in ds after s i id none ids g n e f =
    f ∙ ap (λ zs. insert ds i (record { shard = s; ids = zs })) (e ∙ ap (λ zs. zs ++ id ∷ []) n) ∙ with_shard-gap (record { shard = s; ids = id ∷ [] }) ds i g

pub returns-in_ok-insert-in-Err-clause-ok : goal.returns-in_ok-insert-in-Err-clause-ok
returns-in_ok-insert-in-Err-clause-ok c =
    let items = c.args.shards.now.items in
    let gap = subst (λ ds. IsGapFor nat_lt (λ d. d.shard) ds c.args.shard c.in-Err.place) c.deref.ensures.value c.in-Err.ensures in
    put_in items _ c.args.shard c.in-Err.place c.args.id _ _ gap c.new-ids.ensures c.in_ok-push-in-Err.ensures.ok c.in_ok-insert-in-Err.ensures.items

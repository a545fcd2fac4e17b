-- The stores so far stand in their slots, and one more.
use Rattle.std.proofs.Common.{List, ◌++◌, sym, ◌∙◌, ap, subst}
use Rattle.std.specs.List.{AllByRecursion}
use Rattle.std.specs.Vec.Iter.{into_iter_items}
use Rattle.acc_durable_store.specs.declared.store.DurableStore.{DurableStore}
use Rattle.acc_cluster.specs.Opened.{IsStoreOf, IsStoreNumber, AreFilled, AreFilledStrictly}
use Rattle.acc_cluster.proofs.Filled.{all_seam}
use Rattle.acc_cluster.proofs.Turns.{one_more, all_out}
use Rattle.acc_cluster.proofs.opening.with_stores.Goals as goal

pub put_store-requires-clause-store : goal.put_store-requires-clause-store
put_store-requires-clause-store g c =
    let seam = ap (λ (l : List (DurableStore g.row.D.Denot)). c.loop-store.yielded ++ l) (sym c.in-Some.ensures.steps.0) ∙ c.loop-store.invariant.rest in
    let P = IsStoreOf g.D.Disk c.args.plan.now in
    all_seam P c.loop-store.yielded c.in-Some.store (into_iter_items c.next.new.self) (subst (λ (ts : List (DurableStore g.row.D.Denot)). AllByRecursion P ts) (sym seam) c.requires.stores)

pub put_store-requires-clause-number : goal.put_store-requires-clause-number
put_store-requires-clause-number g c =
    let seam = ap (λ (l : List (DurableStore g.row.D.Denot)). c.loop-store.yielded ++ l) (sym c.in-Some.ensures.steps.0) ∙ c.loop-store.invariant.rest in
    let P = IsStoreNumber {D = g.row.D.Denot} c.args.plan.now in
    all_seam P c.loop-store.yielded c.in-Some.store (into_iter_items c.next.new.self) (subst (λ (ts : List (DurableStore g.row.D.Denot)). AllByRecursion P ts) (sym seam) c.requires.numbers)

pub loop-store-preserved : goal.loop-store-preserved
loop-store-preserved g c =
    let before = c.loop-store.invariant in
    let stores = c.loop-store.yielded in
    let store = c.in-Some.store in record {
      can_next = tt;
      is_finite = tt;
      rest = one_more stores store (into_iter_items c.loop-store.store-iterator) (into_iter_items c.next.new.self) c.args.stores.items before.rest c.in-Some.ensures.steps.0;
      filled = λ nodes h. c.in_ok-put_store.ensures.filled nodes stores (before.filled nodes h);
      strictly = λ nodes h. c.in_ok-put_store.ensures.strictly nodes stores (before.strictly nodes h);
    }

pub returns-clause-filled : goal.returns-clause-filled
returns-clause-filled g c = λ nodes h.
    let left = c.loop-store.store-iterator in
    let all = all_out c.loop-store.yielded (into_iter_items left) c.args.stores.items left.rest.len c.loop-store.invariant.rest left.rest.ok.0 c.in-None.ensures.steps.0 in
    subst (λ (stores : List (DurableStore g.row.D.Denot)). AreFilled g.D.Disk c.args.plan.now nodes stores c.loop-store.full.items) all (c.loop-store.invariant.filled nodes h)

pub returns-clause-strictly : goal.returns-clause-strictly
returns-clause-strictly g c = λ nodes h.
    let d = g.D.Disk in
    let left = c.loop-store.store-iterator in
    let all = all_out c.loop-store.yielded (into_iter_items left) c.args.stores.items left.rest.len c.loop-store.invariant.rest left.rest.ok.0 c.in-None.ensures.steps.0 in
    subst (λ (stores : List (DurableStore g.row.D.Denot)). AreFilledStrictly d c.args.plan.now nodes stores c.loop-store.full.items) all (c.loop-store.invariant.strictly nodes h)

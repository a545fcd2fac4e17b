use Rattle.std.proofs.Common.{◌≡◌, ◌++◌, ◌∷◌, ◌==◌, true, List, [], length, cond, refl, sym, ap, ◌∙◌, subst, arith, eqb-true, is_some}
use Rattle.std.proofs.lemmas.Bool.{true≢false}
use Rattle.acc_stamp.specs.declared.stamps.TxnId.{TxnId}
use Rattle.acc_opening.specs.Plan.{Lookup}
use Rattle.acc_record.specs.declared.shelf.Watch.{Watch}
use Rattle.acc_record.specs.Shelf.{watchers}
use Rattle.acc_opening.specs.Lookup.{lookup}
use Rattle.acc_opening.specs.Touched.{watches_now, is_same}
use Rattle.acc_opening.specs.State.{IsUnderWay}
use Rattle.acc_opening.proofs.Start.{arrived, untouched}
use Rattle.acc_opening.proofs.plan.Planning.arrive.Goals as goal

no_items : (list : List Watch) → (length list == 0) ≡ true → list ≡ []
no_items [] h = refl
no_items (w ∷ list) h = absurd (omega (arith, eqb-true (length (w ∷ list)) 0 h))

pub unreachable-requires : goal.unreachable-requires
unreachable-requires c = true≢false (sym c.requires.known.stable ∙ ap is_some c.in_default.is)

pub wake_all-requires : goal.wake_all-requires
wake_all-requires c =
    let known = c.args.known.now in
    let id : TxnId = known.own.now.id in
    let waits = known.waits.now in
    let own : Watch = record { id = id; place = length c.of_shard-place.result.now } in
    let end = ap length c.of_shard-place.ensures.ids in
    let at : Lookup = lookup known.records.now known.own.now in
    let after = watches_now c.take_watches.new.touched waits in
    let takes = λ (y : TxnId). c.in_ok-woken.ensures.left y ∙ ap (λ list. cond (is_same id y) [] list) (untouched c.args.self.now.touched waits y c.requires.starts.touched) in
    let none : c.in_ok-woken.woken.items ≡ [] = no_items c.in_ok-woken.woken.items (subst (λ (list : List Watch). (length list == 0) ≡ true) c.as_slice.ensures.value (sym c.is_empty.ensures ∙ c.if-is_empty.true)) in
    let are : own ∷ [] ≡ watchers waits id ++ own ∷ [] = ap (λ list. list ++ own ∷ []) (sym none ∙ c.in_ok-woken.ensures.taken ∙ untouched c.args.self.now.touched waits id c.requires.starts.touched) in
    let s = arrived known.shard known.records.now known.own.now waits c.requires.known c.requires.fresh after takes c.in-Some.settled (length c.of_shard-place.result.now) c.in-Some.is end (own ∷ []) are in
    let t = subst (λ list. IsUnderWay known.shard at after (own ∷ []) list []) (sym c.requires.starts.done) s in
    record { before = subst (λ list. IsUnderWay known.shard at after (own ∷ []) c.args.self.now.done list) (sym c.requires.starts.queue) t }

pub wake_all-requires-2 : goal.wake_all-requires-2
wake_all-requires-2 c =
    let known = c.args.known.now in
    let id : TxnId = known.own.now.id in
    let waits = known.waits.now in
    let own : Watch = record { id = id; place = length c.of_shard-place.result.now } in
    let end = ap length c.of_shard-place.ensures.ids in
    let at : Lookup = lookup known.records.now known.own.now in
    let after = watches_now c.take_watches.new.touched waits in
    let takes = λ (y : TxnId). c.in_ok-woken.ensures.left y ∙ ap (λ list. cond (is_same id y) [] list) (untouched c.args.self.now.touched waits y c.requires.starts.touched) in
    let are : c.push.new.self.items ≡ watchers waits id ++ own ∷ [] = c.in_ok-push.ensures.items ∙ ap (λ list. list ++ own ∷ []) (c.in_ok-woken.ensures.taken ∙ untouched c.args.self.now.touched waits id c.requires.starts.touched) in
    let s = arrived known.shard known.records.now known.own.now waits c.requires.known c.requires.fresh after takes c.in-Some.settled (length c.of_shard-place.result.now) c.in-Some.is end c.push.new.self.items are in
    let t = subst (λ list. IsUnderWay known.shard at after list [] []) (sym c.deref.ensures.value) s in
    let u = subst (λ list. IsUnderWay known.shard at after c.deref.result.now list []) (sym c.requires.starts.done) t in
    record { before = subst (λ list. IsUnderWay known.shard at after c.deref.result.now c.args.self.now.done list) (sym c.requires.starts.queue) u }

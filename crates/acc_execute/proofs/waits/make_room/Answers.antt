use Rattle.std.proofs.Common.{◌≡◌, List, ◌∷◌, ◌∙◌, refl, sym, subst}
use Rattle.std.specs.Map.Iter.{deref_pair}
use Rattle.std.proofs.lemmas.Map.Iter.{rest_more}
use Rattle.acc_stamp.specs.declared.stamps.TxnId.{TxnId}
use Rattle.acc_opening.specs.declared.touched.Touched.{Touched}
use Rattle.acc_execute.proofs.Lists.{FitBut, fit_first, fit_more, fit_all}
use Rattle.acc_execute.proofs.waits.make_room.Goals as goal

pub loop-id-init : goal.loop-id-init
loop-id-init c = (
  λ y. refl,
  subst (λ list. FitBut c.args.touched.now list c.args.waits.now) (sym c.into_iter-id-iterator.ensures.into_iter_gives.0) (fit_first c.args.touched.now c.args.waits.now),
)

pub loop-id-preserved : goal.loop-id-preserved
loop-id-preserved c =
    let touched = c.args.touched.now in
    let id = c.in-Some.id.now in
    let change = c.in-Some.change.now in
    let rest : List (TxnId × Touched) = c.next.new.self in
    let item : c.loop-id.id-iterator ≡ (id, change) ∷ rest = rest_more deref_pair c.loop-id.id-iterator rest c.next.result (c.in-Some.id, c.in-Some.change) c.in-Some.is c.next.ensures.steps in (
      λ y. c.make_room_for.ensures.same y ∙ c.loop-id.invariant.0 y,
      fit_more touched c.loop-id.waits c.make_room_for.new.waits id change rest c.in_ok-make_room_for.ensures.room c.make_room_for.ensures.kept
          (subst (λ list. FitBut touched list c.loop-id.waits) item c.loop-id.invariant.1),
    )

pub returns-clause-room : goal.returns-clause-room
returns-clause-room c =
    fit_all c.args.touched.now c.loop-id.waits (subst (λ list. FitBut c.args.touched.now list c.loop-id.waits) c.in-None.ensures.steps.0 c.loop-id.invariant.1)

use Rattle.std.proofs.Common.{◌≡◌, ◌-◌, ⊎_elim, Some, sym, ◌∙◌, ap, subst, arith}
use Rattle.std.proofs.lemmas.Bool.{cases_lt}
use Rattle.std.proofs.lemmas.Option.{get_or_from_slice_get}
use Rattle.std.specs.List.{slice_get}
use Rattle.acc_stamp.specs.declared.stamps.TxnId.{TxnId}
use Rattle.acc_opening.specs.Lookup.{lookup}
use Rattle.acc_opening.specs.Turns.{changes_in}
use Rattle.acc_opening.specs.Plan.{is_past_behind}
use Rattle.acc_opening.proofs.scan.last_held.Goals as goal

pub loop-left-preserved : goal.loop-left-preserved
loop-left-preserved c =
    let past = λ (z : TxnId). is_past_behind (lookup c.args.records.now c.args.own.now) (changes_in c.args.turns.now) c.args.t z in
    let ids = c.args.ids.now in
    let left = c.loop-left.left in
    let here = λ (z : TxnId) (e : slice_get ids (left - 1) ≡ Some z). ap past (sym (get_or_from_slice_get ids (left - 1) z _ e)) ∙ sym c.is_past.ensures ∙ c.if-not-is_past.false in (
      omega arith,
      omega arith,
      λ i z p h e.
          ⊎_elim (λ k. here z (subst (λ j. slice_get ids j ≡ Some z) (omega (arith, p, k)) e))
          (λ k. c.loop-left.invariant.2 i z k h e)
          (cases_lt i left),
    )

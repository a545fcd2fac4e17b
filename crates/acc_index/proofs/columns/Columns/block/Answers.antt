use Rattle.std.proofs.Common.{◌≡◌, ◌+◌, ◌<◌, ◌≤◌, ◌-◌, true, false, length, get_or, refl, sym, ap, subst, ◌∙◌, arith, ⊎_elim}
use Rattle.std.proofs.lemmas.List.{length-set}
use Rattle.std.proofs.lemmas.Simd.{get_or-replicate}
use Rattle.std.proofs.lemmas.Bool.{cases_lt}
use Rattle.acc_index.proofs.BlockFacts.{Told, told_other, told_own}
use Rattle.acc_index.proofs.columns.Columns.block.Goals as goal
use Rattle.acc_index.proofs.columns.Columns.block.Goals.{then-is_other, else-is_other}

pub loop-user-init : goal.loop-user-init
loop-user-init c =
    let first = c.requires.in_range 0 0 c.requires.some in
    record {
      taken = refl;
      long = refl;
      narrow = omega arith;
      in_range = omega arith;
      low = λ j l. absurd (omega arith);
      high = λ j l. absurd (omega arith);
      marks = λ i l. get_or-replicate 64 i false false l;
    }

pub loop-user-preserved : goal.loop-user-preserved
loop-user-preserved c =
    let places = c.args.places.now in
    let start = get_or places 0 0 in
    let taken = c.loop-user.taken in
    let p = get_or places c.loop-user.user-index 0 in
    let before = c.loop-user.invariant in
    let inside = c.requires.in_range c.loop-user.user-index 0 c.loop-user-test.true in
    let is : p ≡ get_or places taken 0 = ap (λ k. get_or places k 0) (sym before.taken) in
    record {
      taken = omega arith;
      long = elim c.if-is_other.branch [
        | then-is_other w ↦ ap length w.mask-is ∙ length-set c.loop-user.mask (p - start) true ∙ before.long
        | else-is_other w ↦ ap length w.mask-is ∙ before.long
      ];
      narrow = omega (arith, c.max-width.ensures);
      in_range = omega (arith, c.max-width.ensures);
      low = λ j l. ⊎_elim (λ lt. before.low j lt) (λ ge. let same : j ≡ c.loop-user.user-index = omega arith in subst (λ k. start ≤ get_or places k 0) (sym same) c.if-place-start.false) (cases_lt j taken);
      high = λ j l.
          ⊎_elim
          (λ lt. omega (arith, before.high j lt, c.max-width.ensures))
          (λ ge. let same : j ≡ c.loop-user.user-index = omega arith in subst (λ k. get_or places k 0 < start + c.max-width.result) (sym same) (omega (arith, c.max-width.ensures)))
          (cases_lt j taken);
      marks = elim c.if-is_other.branch [
        | then-is_other w ↦
            subst (λ m. Told c.args.self.now places c.args.id start taken p m m (taken + 1)) (sym w.mask-is)
            (told_other c.args.self.now places c.args.id start taken p c.loop-user.mask (omega arith) is c.if-place-start.false (omega arith) (sym c.is_other.ensures ∙ w.if-is_other.true) before.marks)
        | else-is_other w ↦
            subst (λ m. Told c.args.self.now places c.args.id start taken p m m (taken + 1)) (sym w.mask-is)
            (told_own c.args.self.now places c.args.id start taken p c.loop-user.mask (omega arith) is (sym c.is_other.ensures ∙ w.if-is_other.false) before.marks)
      ];
    }

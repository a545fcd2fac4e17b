-- Reading n fields one after the other, as a loop does.
use Rattle.std.proofs.Common.{◌≡◌, ℕ, suc, ◌+◌, ◌-◌, ◌<◌, ◌≤◌, List, [], ◌∷◌, ◌++◌, Ok, Err, sym, ◌∙◌, arith, refl}
use Rattle.acc_wire.specs.Reading.{Unread, Read}
use Rattle.acc_code.specs.declared.error.CodeError.{CodeError}
use Rattle.acc_code.specs.declared.error.CodeError.TheVariants.{Wire, OutOfMemory}
use Rattle.acc_code.specs.Reading.{Fails, each_at}

module _ {A : Type 0} (at : List A → Unread → Read A) (count i : ℕ) (front : List A) (u : Unread) (total : Read (List A)) (so_far : each_at at (count - i) front u ≡ total) where
  pub each_goes_on : (x : A) (v : Unread) → i < count → at front u ≡ Ok (x, v) → each_at at (count - (i + 1)) (front ++ x ∷ []) v ≡ total
  unfolding each_at
  each_goes_on x v lt h =
      let k : count - i ≡ suc (count - (i + 1)) = omega arith in
      let one : each_at at (count - i) front u ≡ each_at at (count - (i + 1)) (front ++ x ∷ []) v = rw (k, h) refl in
      sym one ∙ so_far

  pub each_fails : (e : CodeError) → i < count → Fails e (at front u) → Fails e total
  unfolding each_at
  each_fails OutOfMemory lt h = tt
  each_fails (Wire e) lt h =
      let k : count - i ≡ suc (count - (i + 1)) = omega arith in
      let one : each_at at (count - i) front u ≡ Err e = rw (k, h) refl in
      sym so_far ∙ one

  pub each_ends : count ≤ i → total ≡ Ok (front, u)
  unfolding each_at
  each_ends le =
      let k : count - i ≡ 0 = omega arith in
      let one : each_at at (count - i) front u ≡ Ok (front, u) = rw k refl in
      sym so_far ∙ one

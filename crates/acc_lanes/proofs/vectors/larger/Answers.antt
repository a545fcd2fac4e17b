use Rattle.std.proofs.Common.{◌≡◌, ℕ, cond, ltb, max, get_or, arith}
use Rattle.std.proofs.lemmas.Bool.Decides.{nat_tests}
use Rattle.acc_lanes.proofs.Lanes.{HasLanes-like, HasLanes-select}
use Rattle.acc_lanes.proofs.vectors.larger.Goals as goal

greater : (a b : ℕ) → cond (ltb a b) b a ≡ max a b
greater a b = grind (arith, nat_tests)

pub returns : goal.returns
returns c =
    let a = c.args.a in
    let b = c.args.b in
    HasLanes-like _ _ _ (HasLanes-select ltb a b b a c.fits-a.0 c.fits-b.0 c.fits-b.0 c.fits-a.0) (λ k l. greater (get_or a k 0) (get_or b k 0))

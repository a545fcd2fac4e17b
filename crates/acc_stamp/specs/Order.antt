-- Strict total orders, as tests.
use Rattle.std.specs.Prelude.{◌≡◌, Bool, true, false}
use Rattle.std.specs.Bool.{Decides}

-- lt is a strict total order, and eq the test whether two values are one
pub record IsStrictTotalOrder {K : Type 0} (lt eq : K → K → Bool) : Type 0 where
  pub irrefl : (x : K) → lt x x ≡ false
  pub trans : (x y z : K) → lt x y ≡ true → lt y z ≡ true → lt x z ≡ true
  pub connected : (x y : K) → lt x y ≡ false → lt y x ≡ false → x ≡ y
  pub decides : (x y : K) → Decides (eq x y) (x ≡ y)

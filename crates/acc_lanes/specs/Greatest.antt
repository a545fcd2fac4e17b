-- The greatest element of a list.
use Rattle.std.specs.Prelude.{Bool, IsTrue, All, Contains, List}

-- x is an element, and no element is greater
pub record IsGreatest {X : Type 0} (le : X → X → Bool) (xs : List X) (x : X) : Type 0 where
  pub among : Contains xs x
  pub above : All (λ y. IsTrue (le y x)) xs

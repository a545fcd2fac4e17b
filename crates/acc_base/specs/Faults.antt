-- The first of several faults. Each is an option, which is None where there is no fault.
use Rattle.std.specs.Prelude.{ℕ, ◌+◌, Bool, true, false, List, [], ◌∷◌, Option, Some, None}

-- the first of two options that has a value
abbrev pub or_else : {T : Type 0} → Option T → Option T → Option T
or_else None other = other
or_else (Some x) other = Some x

-- the first of two faults
infixl 10 ◌then◌
abbrev pub ◌then◌ : {E : Type 0} → Option E → Option E → Option E
(Some fault) then other = Some fault
None then other = other

-- a rule, and the fault where it does not hold
abbrev pub must : {E : Type 0} → Bool → E → Option E
must true fault = None
must false fault = Some fault

-- a rule for each item of a list, whose first item has this place
abbrev pub each : {A E : Type 0} → (ℕ → A → Option E) → ℕ → List A → Option E
each rule place [] = None
each rule place (x ∷ xs) = rule place x then each rule (place + 1) xs

-- What is wrong with a document: the first rule that it breaks.
use Rattle.std.specs.Prelude.{◌≡◌, ℕ, Bool, true, false, IsTrue, List, [], ◌∷◌, ◌++◌, Option, Some, None, Result, Ok, Err}
use Rattle.acc_schedule.specs.declared.error.PlanKind.{PlanKind}
use Rattle.acc_schedule.specs.declared.error.PlanKind.TheVariants.{Json, Shape, Limit, Topology, Text, Name, Step, Unbuilt, Journal, Report}
use Rattle.acc_schedule.specs.declared.error.PlanError.{PlanError}
use Rattle.acc_schedule.specs.declared.error.PlanError.TheVariants.{Bad, OutOfMemory}
use Rattle.acc_schedule.specs.Paths.{Path, path_text, escaped}

abbrev pub Fault : Type 0
Fault = Option PlanError

-- something of this kind is wrong at this path
abbrev pub bad : PlanKind → Path → PlanError
bad kind path = Bad kind (path_text path) 0 0

abbrev pub fault : PlanKind → Path → Fault
fault kind path = Some (bad kind path)

-- the object at the path has a field that is unknown
abbrev pub unknown_field : Path → List ℕ → Fault
unknown_field path name = fault Shape (path ++ escaped name ∷ [])

-- the error is this fault, unless memory ran out
abbrev pub IsFault : Fault → PlanError → Type 0
IsFault f OutOfMemory = Unit {0}
IsFault f (Bad kind path detail at) = f ≡ Some (Bad kind path detail at)

-- what a reader answers: a value with P where there is no fault, and else the fault
abbrev pub Gives : {X : Type 0} → Fault → (X → Type 0) → Result X PlanError → Type 0
Gives f P (Ok x) = (f ≡ None) × P x
Gives f P (Err error) = IsFault f error

-- a document is not read by what it can be used for
abbrev pub is_of_rules : PlanKind → Bool
is_of_rules Json = true
is_of_rules Shape = true
is_of_rules Limit = true
is_of_rules Topology = true
is_of_rules Text = true
is_of_rules Name = true
is_of_rules Step = true
is_of_rules Unbuilt = false
is_of_rules Journal = false
is_of_rules Report = false

abbrev pub IsOfRule : PlanError → Type 0
IsOfRule OutOfMemory = Unit {0}
IsOfRule (Bad kind path detail at) = IsTrue (is_of_rules kind)

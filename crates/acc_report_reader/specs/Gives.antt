-- What a reader gives: the value that is read, or a refusal where none is. Want of memory says nothing.
use Rattle.std.specs.Prelude.{◌≡◌, Bool, true, false, Option, Some, None, Result, Ok, Err}
use Rattle.acc_report_reader.specs.declared.refusal.Refusal.{Refusal}
use Rattle.acc_report_reader.specs.declared.refusal.Refusal.TheVariants.{Form, Memory}

infixl 10 ◌>>=◌
abbrev pub ◌>>=◌ : {A B : Type 0} → Option A → (A → Option B) → Option B
None >>= f = None
(Some x) >>= f = f x

abbrev pub Refuses : {Y : Type 0} → Refusal → Option Y → Type 0
Refuses Form read = read ≡ None
Refuses Memory read = Unit {0}

abbrev pub Gives : {X Y : Type 0} → (X → Y) → Result X Refusal → Option Y → Type 0
Gives shown (Ok x) read = read ≡ Some (shown x)
Gives shown (Err refusal) read = Refuses refusal read

-- the value where the test holds
abbrev pub guarded : {X : Type 0} → Bool → X → Option X
guarded true x = Some x
guarded false x = None

-- goes on with what is there, and else with something else
abbrev pub with_found : {X Y : Type 0} → Option X → (X → Y) → Y → Y
with_found None found other = other
with_found (Some x) found other = found x

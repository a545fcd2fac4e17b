-- What a call that reads on answers, against what reading gives. It may run out of memory at any text.
use Rattle.std.specs.Prelude.{◌≡◌, ℕ, ◌-◌, ⊤, Bool, List, Option, Some, None, Result, Ok, Err}
use Rattle.acc_lang.specs.declared.error.LangKind.{LangKind}
use Rattle.acc_lang.specs.declared.fault.Fault.{Fault}
use Rattle.acc_lang.specs.declared.fault.ReadError.{ReadError}
use Rattle.acc_lang.specs.declared.fault.ReadError.TheVariants.{At, OutOfMemory}
use Rattle.acc_lang.specs.declared.error.LangError.{LangError}
use Rattle.acc_lang.specs.declared.error.LangError.TheVariants.{At as FaultAt, OutOfMemory as NoMemory}
use Rattle.acc_lang.specs.Reading.{Reads, reading_fault}

abbrev pub Fails : {A : Type 0} → ReadError → Result A Fault → Type 0
Fails (At fault) read = read ≡ Err fault
Fails OutOfMemory read = Unit {0}

-- the value that was read, as the view shows it, and what follows
abbrev pub Gives : {X Y : Type 0} → (X → Y) → Result X ReadError → List ℕ → Reads Y → Type 0
Gives view (Ok x) rest read = read ≡ Ok (view x, rest)
Gives view (Err error) rest read = Fails error read

-- the value alone
abbrev pub Answers : {X : Type 0} → Result X ReadError → Result X Fault → Type 0
Answers (Ok x) read = read ≡ Ok x
Answers (Err error) read = Fails error read

-- nothing but what follows
abbrev pub Passes : {X : Type 0} → Result X ReadError → List ℕ → Result (List ℕ) Fault → Type 0
Passes (Ok x) rest read = read ≡ Ok rest
Passes (Err error) rest read = Fails error read

-- the token is at fault, and this is where
abbrev pub IsFaultOf : ReadError → Option LangKind → ℕ → Type 0
IsFaultOf (At fault) found left = (found ≡ Some fault.kind) × (fault.left ≡ left)
IsFaultOf OutOfMemory found left = ⊥

-- whether a token is at fault
abbrev pub Judges : {X : Type 0} → Result X ReadError → Option LangKind → ℕ → Type 0
Judges (Ok x) found left = found ≡ None
Judges (Err error) found left = IsFaultOf error found left

-- the error for the caller: of a text of this length, at its byte
abbrev pub IsPlaced : ℕ → ReadError → LangError → Type 0
IsPlaced length (At fault) error = error ≡ FaultAt (length - fault.left) fault.kind
IsPlaced length OutOfMemory error = error ≡ NoMemory

-- this is the first fault of the text. Memory may run out at any text
abbrev pub IsFaultIn : Bool → List ℕ → LangError → Type 0
IsFaultIn texts text (FaultAt at kind) = reading_fault texts text ≡ Some (kind, at)
IsFaultIn texts text NoMemory = ⊤

-- Reading a format of several fields, from left to right, up to the first fault. A field is a value and what is left
-- after it; what its format forbids is out of range, at the field's first byte.
use Rattle.std.specs.Prelude.{◌≡◌, ℕ, zero, suc, Bool, ◌&&◌, List, [], ◌∷◌, ◌++◌, Result, Ok, Err, nat_le, if◌then◌else◌}
use Rattle.acc_wire.specs.declared.error.WireKind.TheVariants.{Range}
use Rattle.acc_wire.specs.Reading.{Unread, Read, ◌>>=◌, fault_at, u8_at}
use Rattle.acc_code.specs.declared.error.CodeError.{CodeError}
use Rattle.acc_code.specs.declared.error.CodeError.TheVariants.{Wire, OutOfMemory}

-- reading fails so, unless memory ran out
abbrev pub Fails : {A : Type 0} → CodeError → Read A → Type 0
Fails (Wire e) read = read ≡ Err e
Fails OutOfMemory read = Unit {0}

-- what a call on a reader answered, seen by view, is what reading gives, unless memory ran out; it leads the reader to `after`
abbrev pub ReadsBy : {X A : Type 0} → (X → A) → Result X CodeError → Unread → Read A → Type 0
ReadsBy view (Ok x) after read = read ≡ Ok (view x, after)
ReadsBy view (Err e) after read = Fails e read

abbrev pub Reads : {A : Type 0} → Result A CodeError → Unread → Read A → Type 0
Reads result after read = ReadsBy (λ x. x) result after read

-- a field whose value passes a test
abbrev pub passing : {A : Type 0} → (A → Bool) → (Unread → Read A) → Unread → Read A
passing test at u = do
  x ← at u
  if test x.0 then Ok x else Err (fault_at Range u)

-- one byte, from least to most
unfoldable pub between_at : ℕ → ℕ → Unread → Read ℕ
between_at least most u = passing (λ n. nat_le least n && nat_le n most) u8_at u

-- n fields one after the other, each read by what was read before it
unfoldable pub each_at : {A : Type 0} → (List A → Unread → Read A) → ℕ → List A → Unread → Read (List A)
each_at at zero front u = Ok (front, u)
each_at at (suc n) front u = do
  x ← at front u
  each_at at n (front ++ x.0 ∷ []) x.1

-- a count in one byte, from least to most, and as many fields
unfoldable pub listed_at : {A : Type 0} → ℕ → ℕ → (List A → Unread → Read A) → Unread → Read (List A)
listed_at least most at u = do
  n ← between_at least most u
  each_at at n.0 [] n.1

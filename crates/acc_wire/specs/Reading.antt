-- Reading a field: a function of the bytes that are left, which answers the field and what is left behind it, or the
-- fault. A reader of the code answers the same, and formats of several fields chain these functions.
use Rattle.std.specs.Prelude.{◌≡◌, ℕ, ℤ, zero, suc, ◌+◌, ◌<◌, List, [], ◌∷◌, ◌++◌, length, take, drop, slice_index, Result, Ok, Err, nat_lt, ◌==◌, if◌then◌else◌}
use Rattle.std.specs.Int.{w16, w32, w64, cast_signed, from_be_bytes}
use Rattle.acc_wire.specs.declared.error.WireError.{WireError}
use Rattle.acc_wire.specs.declared.error.WireKind.{WireKind}
use Rattle.acc_wire.specs.declared.error.WireKind.TheVariants.{Short, Trailing}

-- the bytes that are left to be read, and the place of the first of them
pub record Unread : Type 0 where
  pub bytes : List ℕ
  pub place : ℕ

-- between the two stands exactly this spelling
pub record Passes (before after : Unread) (spelling : List ℕ) : Type 0 where
  pub bytes : before.bytes ≡ spelling ++ after.bytes
  pub place : after.place ≡ before.place + length spelling

abbrev pub AreBytes : List ℕ → Type 0
AreBytes bytes = (i : ℕ) → slice_index bytes i < 256

-- what is left behind the first n bytes
abbrev pub skip : ℕ → Unread → Unread
skip n u = record { bytes = drop n u.bytes; place = u.place + n }

-- a fault of the field that begins here
abbrev pub fault_at : WireKind → Unread → WireError
fault_at kind u = record { kind = kind; place = u.place }

-- a field's value and what is left behind it, or the first fault
abbrev pub Read : Type 0 → Type 0
Read A = Result (A × Unread) WireError

-- the next step reads on with what the one before answered
infixl 10 ◌>>=◌
abbrev pub ◌>>=◌ : {A B : Type 0} → Result A WireError → (A → Result B WireError) → Result B WireError
(Ok x) >>= f = f x
(Err e) >>= f = Err e

-- what a call on a reader answered, seen by view, is what reading gives; it leads the reader from `before` to `after`, and
-- a fault leaves it where it was
abbrev pub TakesBy : {X A : Type 0} → (X → A) → Result X WireError → Unread → Unread → Read A → Type 0
TakesBy view (Ok x) before after read = read ≡ Ok (view x, after)
TakesBy view (Err e) before after read = (read ≡ Err e) × (after ≡ before)

abbrev pub Takes : {A : Type 0} → Result A WireError → Unread → Unread → Read A → Type 0
Takes result before after read = TakesBy (λ x. x) result before after read

-- the value that f makes of the next n bytes
abbrev pub field_at : {A : Type 0} → ℕ → (List ℕ → A) → Unread → Read A
field_at n f u = if nat_lt (length u.bytes) n then Err (fault_at Short u) else Ok (f (take n u.bytes), skip n u)

abbrev pub first_at : ℕ → List ℕ → Read ℕ
first_at place [] = Err (record { kind = Short; place = place })
first_at place (b ∷ bytes) = Ok (b, record { bytes = bytes; place = place + 1 })

abbrev pub u8_at : Unread → Read ℕ
u8_at u = first_at u.place u.bytes

unfoldable pub u16_at : Unread → Read ℕ
u16_at u = field_at 2 (from_be_bytes w16) u

unfoldable pub u32_at : Unread → Read ℕ
u32_at u = field_at 4 (from_be_bytes w32) u

unfoldable pub u64_at : Unread → Read ℕ
u64_at u = field_at 8 (from_be_bytes w64) u

unfoldable pub i64_at : Unread → Read ℤ
i64_at u = do
  n ← u64_at u
  Ok (cast_signed w64 n.0, n.1)

-- a text is one field: where its bytes are cut, the fault is at its length
unfoldable pub text_at : Unread → Read (List ℕ)
text_at u = do
  n ← u8_at u
  if nat_lt (length n.1.bytes) n.0 then Err (fault_at Short u) else Ok (take n.0 n.1.bytes, skip n.0 n.1)

-- nothing is left
abbrev pub end_at : Unread → Result (Unit {0}) WireError
end_at u = if length u.bytes == 0 then Ok tt else Err (fault_at Trailing u)

-- a field that stands n times
unfoldable pub times_at : {A : Type 0} → (Unread → Read A) → ℕ → Unread → Read (List A)
times_at at zero u = Ok ([], u)
times_at at (suc n) u = do
  first ← at u
  others ← times_at at n first.1
  Ok (first.0 ∷ others.0, others.1)

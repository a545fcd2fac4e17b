-- Reading a draw.
use Rattle.std.specs.Prelude.{◌≡◌, ℕ, List, Result, Ok, Err, ◌==◌, if◌then◌else◌}
use Rattle.acc_wire.specs.declared.error.WireError.{WireError}
use Rattle.acc_wire.specs.Reading.{Unread, Read, ◌>>=◌, u32_at, u64_at, end_at}
use Rattle.acc_code.specs.Reading.{between_at}
use Rattle.acc_payloads.specs.declared.draw.Purpose.{Purpose}
use Rattle.acc_payloads.specs.declared.draw.Purpose.TheVariants.{Begin, Recover}
use Rattle.acc_payloads.specs.declared.draw.Draw.{Draw}

abbrev pub purpose_of : ℕ → Purpose
purpose_of number = if number == 1 then Begin else Recover

unfoldable pub draw_at : Unread → Read Draw
draw_at u = do
  number ← between_at 1 2 u
  txn ← u32_at number.1
  h ← u64_at txn.1
  Ok (record { purpose = purpose_of number.0; txn = txn.0; h = h.0 }, h.1)

-- all of the bytes
unfoldable pub draw_of : List ℕ → Result Draw WireError
draw_of bytes = do
  d ← draw_at (record { bytes = bytes; place = 0 })
  _ ← end_at d.1
  Ok d.0

-- what a call on a reader answered is what reading gives, and leads the reader to `after`
abbrev pub Leads : {A : Type 0} → Result A WireError → Unread → Read A → Type 0
Leads (Ok x) after read = read ≡ Ok (x, after)
Leads (Err e) after read = read ≡ Err e

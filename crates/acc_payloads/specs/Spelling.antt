-- The payloads of journals.
use Rattle.std.specs.Prelude.{ℕ, ◌^◌, ◌<◌, List, [], ◌∷◌, ◌++◌}
use Rattle.acc_wire.specs.Spelling.{u8_bytes, u32_bytes, u64_bytes}
use Rattle.acc_payloads.specs.declared.draw.Purpose.{Purpose}
use Rattle.acc_payloads.specs.declared.draw.Purpose.TheVariants.{Begin, Recover}
use Rattle.acc_payloads.specs.declared.draw.Draw.{Draw}

-- the mark of version 2
abbrev pub mark_bytes : List ℕ
mark_bytes = 255 ∷ 2 ∷ []

abbrev pub purpose_number : Purpose → ℕ
purpose_number Begin = 1
purpose_number Recover = 2

-- a draw is its purpose, the number of the transaction, and the h that was drawn
unfoldable pub draw_bytes : Draw → List ℕ
draw_bytes d = u8_bytes (purpose_number d.purpose) ++ u32_bytes d.txn ++ u64_bytes d.h

pub record FitsDraw (d : Draw) : Type 0 where
  pub txn : d.txn < 2 ^ 32
  pub h : d.h < 2 ^ 64

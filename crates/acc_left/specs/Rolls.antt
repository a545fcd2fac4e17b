-- The ids that journals begin.
use Rattle.std.specs.Prelude.{ℕ, ◌↔◌, List, map, Contains}
use Rattle.acc_stamp.specs.declared.stamps.TxnId.{TxnId}
use Rattle.acc_stamp.specs.Rising.{IsRising}
use Rattle.acc_schedule.specs.Content.{Content}
use Rattle.acc_left.specs.declared.image.Image.{Image}
use Rattle.acc_left.specs.Rules.{Begins}

-- each id that the journals begin with the number of its transaction, and no others; the ids rise
pub record IsRoll (plan : Content) (images : List Image) (roll : List (TxnId × ℕ)) : Type 0 where
  pub rises : IsRising (map (λ entry. entry.0) roll)
  pub each : (id : TxnId) (txn : ℕ) → Contains roll (id, txn) ↔ Begins plan images id txn

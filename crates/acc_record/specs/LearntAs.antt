-- What a step changes that learns of its transaction and gives it this record.
use Rattle.std.specs.Prelude.{◌≡◌, ℕ, max, Bool, cond, List, ◌++◌, Option, Some}
use Rattle.acc_stamp.specs.declared.stamps.Stamp.{Stamp}
use Rattle.acc_stamp.specs.declared.stamps.TxnId.{TxnId}
use Rattle.acc_stamp.specs.Stamp.{id_eq}
use Rattle.acc_value.specs.declared.key.Key.{Key}
use Rattle.acc_record.specs.declared.record.Record.{Record}
use Rattle.acc_record.specs.declared.shelf.Shelf.{Shelf}
use Rattle.acc_record.specs.Shelf.{record_at}
use Rattle.acc_record.specs.Learning.{stamp_to_note, notes_with}

pub record IsLearntAs (old new : Shelf) (x : TxnId) (share : List (Key × Bool)) (stamp : Option Stamp) (top : ℕ) (r : Record) : Type 0 where
  pub actor : new.actor ≡ old.actor
  pub records : (y : TxnId) → record_at new.records y ≡ cond (id_eq x y) (Some r) (record_at old.records y)
  pub index : new.index ≡ old.index ++ notes_with x share (stamp_to_note (record_at old.records x) x stamp)
  pub cells : new.cells ≡ old.cells
  pub waits : new.waits ≡ old.waits
  pub greatest : new.greatest ≡ max old.greatest top

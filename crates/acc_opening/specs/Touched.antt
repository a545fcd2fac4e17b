-- Who waits for whom, with what a step changes.
use Rattle.std.specs.Prelude.{Bool, cond, List, [], ◌++◌, Option, None, Some}
use Rattle.std.specs.BTreeMap as tree
use Rattle.acc_stamp.specs.declared.stamps.TxnId.{TxnId}
use Rattle.std.specs.Ordering.{is_eq}
use Rattle.acc_stamp.specs.Stamp.{id_cmp}
use Rattle.acc_record.specs.declared.shelf.Watch.{Watch}
use Rattle.acc_record.specs.Shelf.{Waits, watchers}
use Rattle.acc_opening.specs.declared.touched.Touched.{Touched}

abbrev pub is_same : TxnId → TxnId → Bool
is_same x y = is_eq (id_cmp x y)

abbrev pub TouchedWaits : Type 0
TouchedWaits = tree.BTreeMap TxnId Touched

abbrev pub watches_with : Option Touched → List Watch → List Watch
watches_with None before = before
watches_with (Some touched) before = cond touched.drained [] before ++ touched.added.items

-- what waits for a transaction now
abbrev pub watches_now : TouchedWaits → Waits → TxnId → List Watch
watches_now touched waits y = watches_with (tree.get id_cmp touched y) (watchers waits y)

-- What is left to be changed makes the lists that all changes make.
use Rattle.std.proofs.Common.{◌≡◌}
use Rattle.std.specs.BTreeMap as tree
use Rattle.acc_stamp.specs.declared.stamps.TxnId.{TxnId}
use Rattle.acc_opening.specs.Touched.{watches_now}
use Rattle.acc_execute.specs.Executed.{AllFit}
use Rattle.acc_execute.proofs.waits.change_lists.Given as goal

abbrev pub invariant-loop-id : goal.invariant-loop-id
invariant-loop-id l =
    record {
      same : (y : TxnId) → watches_now l.left l.waits y ≡ watches_now l.initial.left l.initial.waits y;
      fits : AllFit l.left l.waits;
    }

abbrev pub decreases-loop-id : goal.decreases-loop-id
decreases-loop-id l = tree.btree_map_len l.left

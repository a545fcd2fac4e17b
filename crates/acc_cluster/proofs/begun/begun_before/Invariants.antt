use Rattle.std.proofs.Common.{◌≡◌, ℕ, Option, Some, length}
use Rattle.std.specs.List.{slice_get}
use Rattle.acc_stamp.specs.declared.stamps.TxnId.{TxnId}
use Rattle.acc_cluster.specs.Opened.{TellsOf}
use Rattle.acc_cluster.proofs.begun.begun_before.Given as goal

abbrev pub invariant-loop-txn : goal.invariant-loop-txn
invariant-loop-txn g l = record {
  many : length l.ids.items ≡ l.txn;
  told : (k : ℕ) (id : Option TxnId) → slice_get l.ids.items k ≡ Some id → TellsOf l.plan l.nodes k id;
}

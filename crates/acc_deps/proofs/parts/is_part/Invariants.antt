-- Those found so far are in the whole.
use Rattle.std.proofs.Common.{◌≤◌, length, take, IsTrue}
use Rattle.acc_stamp.specs.declared.stamps.TxnId.{TxnId}
use Rattle.acc_stamp.specs.Rising.{id_among}
use Rattle.acc_deps.proofs.parts.is_part.Given as goal

abbrev pub invariant-loop-id : goal.invariant-loop-id
invariant-loop-id l = record {
  within : l.found ≤ length l.part;
  found : (x : TxnId) → IsTrue (id_among x (take l.found l.part)) → IsTrue (id_among x l.whole);
}

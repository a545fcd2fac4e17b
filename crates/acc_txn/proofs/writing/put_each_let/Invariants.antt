-- The LETs so far are spelled.
use Rattle.std.proofs.Common.{◌≡◌, ◌++◌, take}
use Rattle.std.specs.List.{flat_map}
use Rattle.acc_txn.specs.BodySpelling.{let_bytes}
use Rattle.acc_txn.proofs.writing.put_each_let.Given as goal

abbrev pub invariant-loop-binding : goal.invariant-loop-binding
invariant-loop-binding l = l.out ≡ l.fn.out ++ flat_map let_bytes (take l.binding-index l.lets)

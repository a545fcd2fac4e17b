-- Those so far are spelled.
use Rattle.std.proofs.Common.{◌≡◌, ◌++◌, take}
use Rattle.std.specs.List.{flat_map}
use Rattle.acc_wire.specs.Spelling.{u8_bytes}
use Rattle.acc_txn.proofs.writing.put_each_name.Given as goal

abbrev pub invariant-loop-name : goal.invariant-loop-name
invariant-loop-name l = l.out ≡ l.fn.out ++ flat_map u8_bytes (take l.name-index l.names)

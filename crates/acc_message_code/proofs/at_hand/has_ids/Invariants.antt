-- Those so far were found, and fit.
use Rattle.std.proofs.Common.{◌≡◌, ◌++◌, take}
use Rattle.std.specs.List.{flat_map}
use Rattle.acc_message_code.specs.Spelling.{id_bytes}
use Rattle.acc_message_code.specs.Fitting.{FitStamps}
use Rattle.acc_message_code.proofs.at_hand.has_ids.Given as goal

abbrev pub invariant-loop-id : goal.invariant-loop-id
invariant-loop-id l = record {
  spelled : l.fn.reader.bytes ≡ flat_map id_bytes (take l.id-index l.ids) ++ l.reader.bytes;
  stamps : FitStamps (take l.id-index l.ids);
}

-- Those so far are spelled, and fit.
use Rattle.std.proofs.Common.{◌≡◌, ◌+◌, ◌*◌, ◌++◌, take, vec_len, vec_capacity}
use Rattle.std.specs.List.{flat_map}
use Rattle.acc_message_code.specs.Spelling.{id_bytes}
use Rattle.acc_message_code.specs.Fitting.{FitStamps}
use Rattle.acc_message_code.proofs.ids.push_ids.Given as goal

abbrev pub invariant-loop-id : goal.invariant-loop-id
invariant-loop-id l = record {
  spelled : l.out.items ≡ l.fn.out.items ++ flat_map id_bytes (take l.id-index l.ids);
  len : vec_len l.out ≡ vec_len l.fn.out + 12 * l.id-index;
  capacity : vec_capacity l.out ≡ vec_capacity l.fn.out;
  stamps : FitStamps (take l.id-index l.ids);
}

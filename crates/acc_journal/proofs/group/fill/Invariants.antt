-- So far the first records stand in the buffer, and there is room for the others.
use Rattle.std.proofs.Common.{◌≡◌, ◌≤◌, ◌+◌, ◌*◌, ◌-◌, length, take, drop, vec_len, vec_capacity}
use Rattle.std.specs.Prelude.{sum_by}
use Rattle.acc_journal.specs.Layout.{records}
use Rattle.acc_journal.proofs.group.fill.Given as goal

abbrev pub invariant-loop-payload : goal.invariant-loop-payload
invariant-loop-payload l = record {
  filled : l.buffer.items ≡ records (take l.payload-index l.payloads);
  room : vec_len l.buffer + 1 + sum_by length (drop l.payload-index l.payloads) + 5 * (length l.payloads - l.payload-index) ≤ vec_capacity l.buffer;
  kept : vec_capacity l.initial.buffer ≤ vec_capacity l.buffer;
}

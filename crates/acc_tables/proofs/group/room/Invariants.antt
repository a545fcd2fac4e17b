-- So far the first payloads are counted, and each of them is short.
use Rattle.std.proofs.Common.{◌≡◌, ◌+◌, ◌*◌, ◌≤◌, length, take}
use Rattle.std.specs.Prelude.{sum_by}
use Rattle.acc_journal.specs.Layout.{AreShort}
use Rattle.acc_tables.proofs.group.room.Given as goal

abbrev pub invariant-loop-payload : goal.invariant-loop-payload
invariant-loop-payload l = record {
  range : l.payload-index ≤ length l.payloads;
  short : AreShort (take l.payload-index l.payloads);
  counted : sum_by length (take l.payload-index l.payloads) + 5 * l.payload-index ≡ l.room;
}

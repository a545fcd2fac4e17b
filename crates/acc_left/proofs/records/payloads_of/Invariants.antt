-- So far the records of the payloads were read, and a gate is next.
use Rattle.std.proofs.Common.{◌≡◌, ◌<◌, ◌+◌, ◌++◌, ◌∷◌, length}
use Rattle.acc_journal.specs.Layout.{records, AreShort}
use Rattle.acc_left.specs.Told.{bytes_in}
use Rattle.acc_left.proofs.records.payloads_of.Given as goal

abbrev pub invariant-loop-rest : goal.invariant-loop-rest
invariant-loop-rest l = record {
  some : 0 < length l.rest;
  short : AreShort (bytes_in l.payloads.items);
  spelled : l.bytes ≡ 1 ∷ (records (bytes_in l.payloads.items) ++ l.rest);
  gate : l.gate ≡ 1 + length (records (bytes_in l.payloads.items));
}

abbrev pub decreases-loop-rest : goal.decreases-loop-rest
decreases-loop-rest l = length l.rest

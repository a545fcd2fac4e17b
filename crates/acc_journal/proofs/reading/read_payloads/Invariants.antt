-- So far the records of the payloads were read, and a gate is next.
use Rattle.std.proofs.Common.{◌≡◌, ◌<◌, ◌+◌, ◌++◌, ◌∷◌, length}
use Rattle.acc_journal.specs.Layout.{records, AreShort}
use Rattle.acc_journal.proofs.reading.read_payloads.Given as goal

abbrev pub invariant-loop-rest : goal.invariant-loop-rest
invariant-loop-rest l = record {
  some : 0 < length l.rest;
  short : AreShort l.payloads;
  spelled : l.bytes ≡ 1 ∷ (records l.payloads ++ l.rest);
  gate : l.gate ≡ 1 + length (records l.payloads);
}

abbrev pub decreases-loop-rest : goal.decreases-loop-rest
decreases-loop-rest l = length l.rest

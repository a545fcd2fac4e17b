-- So far the first records were passed.
use Rattle.std.proofs.Common.{◌≡◌, length, take}
use Rattle.acc_journal.specs.Layout.{records}
use Rattle.acc_journal.specs.Records.{payloads_in}
use Rattle.acc_journal.proofs.records.place_behind.Given as goal

abbrev pub invariant-loop : goal.invariant-loop
invariant-loop l = l.place ≡ length (records (take l.counter (payloads_in l.bytes)))

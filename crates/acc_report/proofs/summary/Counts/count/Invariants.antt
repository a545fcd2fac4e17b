-- The notes of the items so far are counted.
use Rattle.std.proofs.Common.{take, reverse}
use Rattle.acc_message.specs.Items.{notes_of}
use Rattle.acc_report.specs.Counts.{AreCounts}
use Rattle.acc_report.proofs.summary.Counts.count.Given as goal

abbrev pub invariant-loop-place : goal.invariant-loop-place
invariant-loop-place l = AreCounts l.all (notes_of (reverse (take l.place l.items)))

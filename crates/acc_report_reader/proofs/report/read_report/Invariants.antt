-- The lines so far are read, and the rest is left.
use Rattle.std.proofs.Common.{length}
use Rattle.acc_report_reader.proofs.WholeReport.{IsRead}
use Rattle.acc_report_reader.proofs.report.read_report.Given as goal

abbrev pub invariant-loop-first : goal.invariant-loop-first
invariant-loop-first l = IsRead l.bytes l.lines l.rest

abbrev pub decreases-loop-first : goal.decreases-loop-first
decreases-loop-first l = length l.rest

-- The lines of the items so far are printed.
use Rattle.std.proofs.Common.{◌≡◌, take, reverse}
use Rattle.acc_report.specs.Numbers.{name_in}
use Rattle.acc_report.specs.Report.{name_at, lines_from}
use Rattle.acc_report_line.specs.Texts.{lines_text}
use Rattle.acc_report.proofs.report.text_in_lines.Given as goal

abbrev pub invariant-loop-place : goal.invariant-loop-place
invariant-loop-place l =
    l.text.items ≡ lines_text (lines_from (name_in l.directory) (name_at l.directory.names.now) (reverse (take l.place l.items)))

-- The lines of the notes so far are printed.
use Rattle.std.proofs.Common.{◌≡◌, ◌++◌, take, map}
use Rattle.acc_report.specs.Numbers.{name_in}
use Rattle.acc_report.specs.Report.{note_line}
use Rattle.acc_report_line.specs.Texts.{lines_text}
use Rattle.acc_report.proofs.notes.push_notes.Given as goal

abbrev pub invariant-loop-note : goal.invariant-loop-note
invariant-loop-note l = l.text.items ≡ l.initial.text.items ++ lines_text (map (note_line (name_in l.directory)) (take l.note-index l.notes))

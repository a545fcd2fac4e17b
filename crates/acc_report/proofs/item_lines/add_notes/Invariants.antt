-- The lines of the notes so far are there.
use Rattle.std.proofs.Common.{◌≡◌, ◌++◌, take, map}
use Rattle.acc_report.specs.Numbers.{name_in}
use Rattle.acc_report.specs.Report.{note_line}
use Rattle.acc_report.proofs.item_lines.add_notes.Given as goal

abbrev pub invariant-loop-note : goal.invariant-loop-note
invariant-loop-note l = l.lines ≡ l.initial.lines ++ map (note_line (name_in l.directory)) (take l.note-index l.notes)

-- The notes so far are counted.
use Rattle.std.proofs.Common.{◌≡◌, ◌+◌, take}
use Rattle.std.specs.List.{count_by}
use Rattle.acc_report.specs.declared.summary.Tally.{Tally}
use Rattle.acc_report.specs.Counts.{is_counted, counted}
use Rattle.acc_report.proofs.summary.Counts.add_notes.Given as goal

abbrev pub invariant-loop-note : goal.invariant-loop-note
invariant-loop-note l = (what : Tally) → counted l.self what ≡ counted l.initial.self what + count_by (is_counted what) (take l.note-index l.notes)

use Rattle.acc_report.proofs.CountedNotes.{counted_more}
use Rattle.acc_report.proofs.summary.Counts.add_notes.Goals as goal

pub loop-note-preserved : goal.loop-note-preserved
loop-note-preserved c what =
    counted_more c.args.self.now c.loop-note.self c.add.new.self c.args.notes.now c.loop-note.note-index c.note-item.result what
    c.loop-note-test.true c.note-item.is (c.loop-note.invariant what) c.in_ok-add.ensures

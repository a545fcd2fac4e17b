use Rattle.std.proofs.Common.{sym, ◌∙◌, ap}
use Rattle.acc_payloads.specs.Items.{drawn_in}
use Rattle.acc_left.proofs.LeaveFacts.{note_at}
use Rattle.acc_left.proofs.leaving.drawn_by.Goals as goal

pub returns-in-Begin : goal.returns-in-Begin
returns-in-Begin c =
    sym (c.loop-note.invariant ∙ note_at c.args.notes.now c.loop-note.note-index c.note-item.result c.in-Begin.id.0 c.loop-note-test.true c.note-item.is (ap drawn_in c.in-Begin.is))

pub returns-in-Recover : goal.returns-in-Recover
returns-in-Recover c =
    sym (c.loop-note.invariant ∙ note_at c.args.notes.now c.loop-note.note-index c.note-item.result c.in-Recover.ballot.0 c.loop-note-test.true c.note-item.is (ap drawn_in c.in-Recover.is))

use Rattle.std.proofs.Common.{sym, ◌∙◌}
use Rattle.acc_tape.proofs.Signs.{drawn_at}
use Rattle.acc_tape.proofs.item.drawn.Goals as goal

pub returns-in-Begin : goal.returns-in-Begin
returns-in-Begin c = sym (c.loop-note.invariant ∙ drawn_at c.args.notes.now c.loop-note.note-index c.note-item.result c.in-Begin.id c.loop-note-test.true c.note-item.is c.in-Begin.is)

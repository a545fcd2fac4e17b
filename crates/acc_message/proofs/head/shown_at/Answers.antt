-- The item at a place has the notes that stand in the range of its head.
use Rattle.acc_message.proofs.Joined.{shown_read}
use Rattle.acc_message.proofs.head.shown_at.Goals as goal

pub returns : goal.returns
returns c = λ messages.
    shown_read c.args.heads.now _ c.args.place c.requires.place c.args.notes.now c.noted_at.result.now messages c.shown.result c.noted_at.ensures c.shown.ensures

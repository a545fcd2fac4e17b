use Rattle.std.proofs.Common.{◌≡◌, drop}
use Rattle.acc_message.specs.Items.{id_drawn}
use Rattle.acc_tape.proofs.item.drawn.Given as goal

abbrev pub invariant-loop-note : goal.invariant-loop-note
invariant-loop-note l = id_drawn l.notes ≡ id_drawn (drop l.note-index l.notes)

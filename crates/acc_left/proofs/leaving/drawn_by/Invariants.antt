-- No note before this one tells a stamp.
use Rattle.std.proofs.Common.{◌≡◌, drop}
use Rattle.acc_payloads.specs.Items.{drawn_by}
use Rattle.acc_left.proofs.leaving.drawn_by.Given as goal

abbrev pub invariant-loop-note : goal.invariant-loop-note
invariant-loop-note l = drawn_by l.notes ≡ drawn_by (drop l.note-index l.notes)

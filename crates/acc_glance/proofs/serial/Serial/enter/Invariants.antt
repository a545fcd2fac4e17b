-- The notes so far are gone over.
use Rattle.std.proofs.Common.{◌∷◌, ◌++◌, List, take}
use Rattle.acc_message.specs.declared.message.Message.{Message}
use Rattle.acc_message.specs.declared.item.Item.{Item}
use Rattle.acc_message.specs.Items.{notes_of}
use Rattle.acc_message.specs.Shown.{with_sent}
use Rattle.acc_schedule_runs.specs.Schedules.{cluster_of}
use Rattle.acc_glance.specs.Serial.{Tells, TellsNotes}
use Rattle.acc_glance.proofs.serial.Serial.enter.Given as goal

abbrev pub invariant-loop-note : goal.invariant-loop-note
invariant-loop-note l =
    (out : List Message) (earlier : List Item) → Tells l.fn.self (cluster_of l.plan) earlier
    → TellsNotes l.self (cluster_of l.plan) (with_sent l.fn.item out ∷ earlier) (notes_of earlier ++ take l.note-index l.note-items)

-- An entry that stands in an item.
use Rattle.std.specs.Prelude.{Bool, true, false}
use Rattle.acc_message.specs.declared.entry.Entry.{Entry}
use Rattle.acc_message.specs.declared.entry.Event.TheVariants.{Restart}
use Rattle.acc_message.specs.declared.item.Item.{Item}
use Rattle.acc_message.specs.declared.item.Item.TheVariants.{Step, Skipped, Down}
use Rattle.acc_message.specs.Coordinator.{silence}

abbrev pub is_step : Item → Bool
is_step (Step e) = true
is_step (Skipped step cause) = false
is_step (Down actor) = false

-- the entry of a step; no other item has one
abbrev pub entry_in : Item → Entry
entry_in (Step e) = e
entry_in (Skipped step cause) = record { actor = record { 0 = 0 }; event = Restart 0; emitted = silence; lost = false }
entry_in (Down actor) = record { actor = actor; event = Restart 0; emitted = silence; lost = false }

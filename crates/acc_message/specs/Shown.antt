-- What an item shows, and the item with its messages.
use Rattle.std.specs.Prelude.{List}
use Rattle.acc_message.specs.declared.message.Message.{Message}
use Rattle.acc_message.specs.declared.item.Item.{Item}
use Rattle.acc_message.specs.declared.item.Item.TheVariants.{Step, Skipped, Down}
use Rattle.acc_message.specs.declared.shown.Shown.{Shown}
use Rattle.acc_message.specs.declared.shown.Shown.TheVariants.{Step as StepShown, Skipped as SkippedShown, Down as DownShown}

-- the item that shows this and sent these messages. What isn't a step sends none
abbrev pub with_sent : Shown → List Message → Item
with_sent (StepShown actor lost event notes) out = Step (record { actor = actor; lost = lost; event = event; emitted = record { notes = notes.now; out = out } })
with_sent (SkippedShown step cause) out = Skipped step cause
with_sent (DownShown actor) out = Down actor

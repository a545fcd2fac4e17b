-- One item more.
use Rattle.std.specs.Prelude.{◌<◌, Bool, length}
use Rattle.acc_stamp.specs.declared.actors.Actor.{Actor}
use Rattle.acc_message.specs.declared.entry.Event.{Event}
use Rattle.acc_message.specs.declared.entry.Emitted.{Emitted}
use Rattle.acc_message.specs.declared.item.Item.{Item}
use Rattle.acc_message.specs.declared.item.Item.TheVariants.{Step}
use Rattle.acc_schedule_runs.specs.Situations.{Situation}
use Rattle.acc_schedule_runs.specs.Limits.{IsWithin, most_items}
use Rattle.acc_history.specs.declared.history.History.{History}
use Rattle.acc_history.specs.Stands as history

-- one item more is within the limit of items
abbrev pub HasPlace : Situation → Type 0
HasPlace s = length s.own < most_items

-- an entry of the actor
abbrev pub step_item : Actor → Event → Emitted → Bool → Item
step_item actor event emitted lost = Step (record { actor = actor; event = event; emitted = emitted; lost = lost })

-- ---- the past

-- the items are within the limits
pub record IsPastOf (h : History) (s : Situation) : Type 0 where
  pub stands : history.StandsFor h s
  pub weighed : history.IsWeighed h s
  pub within : IsWithin s.own

-- the history has more items than before, within the limits
pub record HasGrown (h : History) (s : Situation) : Type 0 where
  pub next : Situation
  pub past : IsPastOf h next
  pub longer : length s.own < length next.own

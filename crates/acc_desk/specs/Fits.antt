-- Which lists the tape of a plan may hold.
use Rattle.std.specs.Prelude.{List, reverse}
use Rattle.acc_message.specs.declared.item.Item.{Item}
use Rattle.acc_schedule.specs.Content.{Content}
use Rattle.acc_free_laws.specs.FreeRun.{IsFreeRun}

-- the items, the oldest first, are a free run of the plan
abbrev pub fits_plan : Content → List Item → Type 0
fits_plan plan items = IsFreeRun plan (reverse items)

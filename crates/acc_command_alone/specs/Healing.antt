-- What `heal` is over.
use Rattle.std.specs.Prelude.{◌≡◌, ℕ, Bool, IsTrue, List, ◌++◌}
use Rattle.acc_ports.specs.declared.disk.Disk.{Ghosts}
use Rattle.acc_message.specs.declared.error.Which.{Which}
use Rattle.acc_message.specs.declared.item.Item.{Item}
use Rattle.acc_schedule.specs.Content.{Content}
use Rattle.acc_schedule_runs.specs.Laws.{NobodyIsDown}
use Rattle.acc_schedule_runs.specs.Moves.{Answers}
use Rattle.acc_schedule_runs.specs.Schedules.{cluster_of}
use Rattle.acc_heal_laws.specs.Healed.{IsHealed}
use Rattle.acc_heal_laws.specs.HealingFronts.{LimitEndsWithHealing, StrictLimitEndsWithHealing}
use Rattle.acc_heal.specs.Healed.{HasRunHealing, HealsStrictlyTo}
use Rattle.acc_command_alone.specs.Command.{Over}

-- The items are those of the plan's run and its healing, whatever the disks answered. These came back, each keeping its actor where the
-- healing ends. Where none of the items after the plan's own is a down, all that was begun is healed; over strict disks the plan alone fixes the items, and
-- all is healed.
pub record HealsOver {D : Type 0} (port : Ghosts D) (strict : Bool) (before after : List (ℕ × D)) (plan : Content) (items : List Item) : Type 0 where
  pub ran : HasRunHealing port plan items before after
  pub healed : (later : List Item) → items ≡ later ++ ran.heals.between.own → NobodyIsDown later → IsHealed (cluster_of plan) items
  pub strictly : IsTrue strict → HealsStrictlyTo plan items × IsHealed (cluster_of plan) items

-- the limit ends the plan's run or its healing after these items, with some answers of the disks, and over strict ones it alone does
pub record EndsHealing (strict : Bool) (plan : Content) (items : List Item) (which : Which) (number : ℕ) : Type 0 where
  pub answers : Answers
  pub ends : LimitEndsWithHealing plan answers items which number
  pub strictly : IsTrue strict → StrictLimitEndsWithHealing plan items which number

-- the schedule and its healing, step by step, over these disks
abbrev pub OverHealing : {D : Type 0} → Ghosts D → Bool → List (ℕ × D) → List (ℕ × D) → Over
OverHealing port strict before after = record { Items = HealsOver port strict before after; Limits = EndsHealing strict }

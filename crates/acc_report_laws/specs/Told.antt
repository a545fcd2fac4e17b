-- When a run can be told, whatever made it.
use Rattle.std.specs.Prelude.{List}
use Rattle.std.specs.List.{AllByRecursion}
use Rattle.acc_code.specs.Short.{IsNumberedBody}
use Rattle.acc_message.specs.declared.item.Item.{Item}
use Rattle.acc_message.specs.Run.{IsRun}
use Rattle.acc_schedule.specs.Content.{Content}
use Rattle.acc_schedule.specs.Plan.{IsPlan}
use Rattle.acc_schedule_runs.specs.Limits.{IsWithin}
use Rattle.acc_schedule_runs.specs.Schedules.{cluster_of}
use Rattle.acc_report_laws.specs.Fits.{PartsFit}

-- A run of the plan's cluster within the limits, from nothing on, whose bodies have numbers of 64 bits, and in which each actor that goes
-- down or is restarted, each step that is passed over and the cause of that have their forms.
pub record CanBeTold (plan : Content) (items : List Item) : Type 0 where
  pub is_plan : IsPlan plan
  pub bodies : AllByRecursion IsNumberedBody plan.bodies
  pub run : IsRun (cluster_of plan) items
  pub within : IsWithin items
  pub parts : AllByRecursion (PartsFit plan.names) items

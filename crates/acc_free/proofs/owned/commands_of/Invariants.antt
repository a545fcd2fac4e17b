-- The commands among the steps so far.
use Rattle.std.proofs.Common.{◌≡◌, filter, take}
use Rattle.acc_schedule_runs.specs.Schedules.{cluster_of}
use Rattle.acc_free_laws.specs.Commands.{is_command_of}
use Rattle.acc_free.proofs.owned.commands_of.Given as goal

abbrev pub invariant-loop-step : goal.invariant-loop-step
invariant-loop-step l = record {
  so_far : l.commands ≡ filter (is_command_of (cluster_of l.plan) l.actor) (take l.step-index l.step-items);
  items : l.step-items ≡ l.plan.steps;
}

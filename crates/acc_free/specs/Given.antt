-- The disks that a free run gives back.
use Rattle.std.specs.Prelude.{◌≡◌, ℕ, List}
use Rattle.acc_ports.specs.declared.disk.Disk.{Ghosts}
use Rattle.acc_message.specs.declared.item.Item.{Item}
use Rattle.acc_schedule.specs.Content.{Content}
use Rattle.acc_schedule_runs.specs.Situations.{Situation}
use Rattle.acc_cluster.specs.Limits.{IsMoveAhead}
use Rattle.acc_run.specs.Given.{GivesBack}
use Rattle.acc_free_laws.specs.Serving.{IsServing}

-- Each keeps its actor in a situation that free steps came to, which has these items.
pub record GivesBackFreely {D : Type 0} (port : Ghosts D) (plan : Content) (items : List Item) (before after : List (ℕ × D)) : Type 0 where
  pub last : Situation
  pub serving : IsServing plan last
  pub items_are : items ≡ last.own
  pub back : GivesBack port plan last before after

-- After a limit each keeps its actor in a situation that free steps came to, which has these items or is a move ahead of them, that the
-- limit keeps out.
pub record GivesBackAtLimit {D : Type 0} (port : Ghosts D) (plan : Content) (items : List Item) (before after : List (ℕ × D)) : Type 0 where
  pub reached : Situation
  pub serving : IsServing plan reached
  pub ahead : IsMoveAhead items reached.own
  pub back : GivesBack port plan reached before after

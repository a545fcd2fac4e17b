-- What `free` is over, and schedules in which no actor comes back.
use Rattle.std.specs.Prelude.{ℕ, Bool, not, IsTrue, List, []}
use Rattle.std.specs.List.{list_all}
use Rattle.acc_ports.specs.declared.disk.Disk.{Ghosts}
use Rattle.acc_message.specs.declared.item.Item.{Item}
use Rattle.acc_schedule.specs.Content.{Content}
use Rattle.acc_schedule.specs.declared.plan.Step.{Step}
use Rattle.acc_schedule_runs.specs.Laws.{NobodyIsDown}
use Rattle.acc_schedule_runs.specs.Limits.{EndsAt}
use Rattle.acc_free_laws.specs.Commands.{is_restart}
use Rattle.acc_free_laws.specs.Served.{IsServed}
use Rattle.acc_free.specs.Given.{GivesBackFreely, GivesBackAtLimit}
use Rattle.acc_free_ending.specs.Moves.{IsFreeFront}
use Rattle.acc_command_alone.specs.Command.{Over}
use Rattle.acc_command_alone.specs.CarriesOut.{alone_over, Overs}

-- The items are served: actors took their turns side by side. Their disks came back, each keeping its actor in what it did, and over strict
-- ones nobody went down.
pub record ServesOver {D : Type 0} (port : Ghosts D) (strict : Bool) (before after : List (ℕ × D)) (plan : Content) (items : List Item) : Type 0 where
  pub served : IsServed plan items
  pub back : GivesBackFreely port plan items before after
  pub stayed : IsTrue strict → NobodyIsDown items

-- All actors side by side, over these disks. A limit ends a free run after the items, and the disks came back, each keeping its actor there
-- or a move ahead.
abbrev pub OverThreads : {D : Type 0} → Ghosts D → Bool → List (ℕ × D) → List (ℕ × D) → Over
OverThreads port strict before after =
    record {
      Items = ServesOver port strict before after;
      Limits = λ plan items which number. EndsAt (IsFreeFront strict plan []) items which number × GivesBackAtLimit port plan items before after;
    }

-- what each command is over that runs a document, over these disks
abbrev pub overs : {D : Type 0} → Ghosts D → Bool → List (ℕ × D) → List (ℕ × D) → Overs
overs port strict before after = record (alone_over port strict before after) { free = OverThreads port strict before after }

-- no step is a restart
abbrev pub HasNoRestart : List Step → Type 0
HasNoRestart steps = IsTrue (list_all (λ step. not (is_restart step)) steps)

-- The tables are those of the items so far; since the start no cell has changed, and up to it the looks are settled.
use Rattle.std.proofs.Common.{◌≡◌, ◌≤◌, map, take, reverse}
use Rattle.std.specs.List.{AllByRecursion}
use Rattle.acc_value.specs.Cells.{cells_of}
use Rattle.acc_schedule_runs.specs.Schedules.{cluster_of}
use Rattle.acc_glance.specs.declared.sights.Finding.{Finding}
use Rattle.acc_glance.specs.Serial.{Tells}
use Rattle.acc_glance.specs.Sights.{IsSettled, ShowsFrom}
use Rattle.acc_glance.proofs.sights.find_moments.Given as goal

abbrev pub invariant-loop-place : goal.invariant-loop-place
invariant-loop-place l =
    record {
      looks : map (λ (f : Finding). f.look) l.findings.items ≡ map (λ (f : Finding). f.look) l.fn.findings.items;
      stages : map (λ (f : Finding). f.stage) l.findings.items ≡ map (λ (f : Finding). f.stage) l.fn.findings.items;
      tells : Tells l.serial (cluster_of l.plan) (reverse (take l.place l.items.items));
      order : l.start ≤ l.place;
      shows : ShowsFrom (cluster_of l.plan) (reverse l.items.items) l.start l.place (cells_of l.serial.cells);
      settled : AllByRecursion (IsSettled (cluster_of l.plan) (reverse l.items.items) 0) l.fn.findings.items
          → AllByRecursion (IsSettled (cluster_of l.plan) (reverse l.items.items) l.start) l.findings.items;
    }

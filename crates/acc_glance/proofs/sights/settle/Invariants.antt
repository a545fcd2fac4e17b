-- The looks so far are settled up to the last of the moments.
use Rattle.std.proofs.Common.{◌≡◌, ◌≤◌, ◌+◌, List, length, map}
use Rattle.std.specs.List.{AllByRecursion}
use Rattle.acc_value.specs.Cells.{cells_of}
use Rattle.acc_message.specs.declared.item.Item.{Item}
use Rattle.acc_message.specs.Run.{Cluster}
use Rattle.acc_glance.specs.declared.sights.Finding.{Finding}
use Rattle.acc_glance.specs.Sights.{IsSettled, ShowsFrom}
use Rattle.acc_glance.proofs.Splits.{Split}
use Rattle.acc_glance.proofs.sights.settle.Given as goal

abbrev pub invariant-loop-place : goal.invariant-loop-place
invariant-loop-place l =
    record {
      long : length l.findings.items ≡ l.place-end;
      looks : map (λ (f : Finding). f.look) l.findings.items ≡ map (λ (f : Finding). f.look) l.fn.findings.items;
      stages : map (λ (f : Finding). f.stage) l.findings.items ≡ map (λ (f : Finding). f.stage) l.fn.findings.items;
      settled : (cluster : Cluster) (items : List Item) → l.first ≤ l.last → ShowsFrom cluster items l.first l.last (cells_of l.serial.cells)
          → AllByRecursion (IsSettled cluster items l.first) l.fn.findings.items
          → Split l.place (IsSettled cluster items (l.last + 1)) (IsSettled cluster items l.first) l.findings.items;
    }

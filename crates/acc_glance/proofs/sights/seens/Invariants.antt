-- What the looks so far have seen.
use Rattle.std.proofs.Common.{ℕ, List, take}
use Rattle.std.specs.List.{AllByRecursion}
use Rattle.acc_message.specs.declared.item.Item.{Item}
use Rattle.acc_message.specs.Run.{Cluster}
use Rattle.acc_glance.specs.Sights.{AreEnded, IsSettled}
use Rattle.acc_glance.proofs.sights.seens.Given as goal

abbrev pub invariant-loop-finding : goal.invariant-loop-finding
invariant-loop-finding l =
    (cluster : Cluster) (items : List Item) (next : ℕ) → AllByRecursion (IsSettled cluster items next) l.findings → AreEnded cluster items (take l.finding-index l.findings) l.seens

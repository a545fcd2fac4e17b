-- The numbers before this one are listed.
use Rattle.std.proofs.Common.{◌≡◌, map, take}
use Rattle.serde_json.specs.View.{view}
use Rattle.acc_schedule.specs.Shards.{id_of}
use Rattle.acc_schedule.proofs.shards.ids_in.Given as goal

abbrev pub invariant-loop-item : goal.invariant-loop-item
invariant-loop-item l = l.ids ≡ map id_of (map view (take l.item-index l.items))

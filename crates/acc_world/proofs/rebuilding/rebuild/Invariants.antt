use Rattle.std.proofs.Common.{List}
use Rattle.acc_message.specs.declared.item.Item.{Item}
use Rattle.acc_message.specs.Run.{deeds_of}
use Rattle.acc_world.specs.Held.{cluster_of, HeldStands, IsPast}
use Rattle.acc_world.proofs.Rebuilt.{oldest}
use Rattle.acc_world.proofs.rebuilding.rebuild.Given as goal

abbrev pub invariant-loop-index : goal.invariant-loop-index
invariant-loop-index l =
    (items : List Item) → IsPast (cluster_of l.setup) l.history items
    → HeldStands (cluster_of l.setup) l.actor (deeds_of (cluster_of l.setup) l.actor (oldest l.index items)) l.held

-- What a world stands for: the items of a cluster, the newest first.
--     StandsFor w cluster items
use Rattle.std.specs.Prelude.{◌≡◌, ℕ, List}
use Rattle.std.specs.Ordering.{nat_cmp}
use Rattle.std.specs.BTreeMap.{BTreeMap, get}
use Rattle.acc_stamp.specs.declared.actors.Actor.{Actor}
use Rattle.acc_message.specs.declared.item.Item.{Item}
use Rattle.acc_message.specs.Run.{Cluster, deeds_of}
use Rattle.acc_safety.specs.Valid.{IsValidCluster}
use Rattle.acc_run_laws.specs.AskLaws.{IsRunWithoutDowns}
use Rattle.acc_history.specs.Stands.{StandsFor as IsHistoryOf}
use Rattle.acc_world.specs.declared.held.Held.{Held}
use Rattle.acc_world.specs.declared.world.World.{World}
use Rattle.acc_world.specs.Held.{cluster_of, past_of, HeldIs}

-- each actor that is kept stands for what it did
abbrev pub AreHeld : Cluster → List Item → BTreeMap ℕ Held → Type 0
AreHeld cluster items actors = (a : Actor) → HeldIs cluster a (deeds_of cluster a items) (get nat_cmp actors a.0)

-- the items are a run of its own cluster
pub record Stands (w : World) (items : List Item) : Type 0 where
  pub valid : IsValidCluster (cluster_of w.setup)
  pub run : IsRunWithoutDowns (cluster_of w.setup) items
  pub past : IsHistoryOf w.history (past_of items)
  pub actors : AreHeld (cluster_of w.setup) items w.actors

pub record StandsFor (w : World) (cluster : Cluster) (items : List Item) : Type 0 where
  pub cluster_is : cluster_of w.setup ≡ cluster
  pub stands : Stands w items

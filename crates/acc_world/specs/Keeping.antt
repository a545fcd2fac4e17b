-- What an actor that is kept is asked for where it stands, and what that leaves.
use Rattle.std.specs.Prelude.{◌≡◌, ℕ, false, List, ◌∷◌}
use Rattle.std.specs.BTreeMap.{BTreeMap}
use Rattle.acc_stamp.specs.declared.actors.Actor.{Actor}
use Rattle.acc_message.specs.declared.entry.Emitted.{Emitted}
use Rattle.acc_message.specs.declared.entry.Entry.{Entry}
use Rattle.acc_message.specs.declared.entry.Event.{Event}
use Rattle.acc_message.specs.declared.entry.Event.TheVariants.{Restart}
use Rattle.acc_message.specs.declared.item.Item.{Item}
use Rattle.acc_message.specs.declared.item.Item.TheVariants.{Step}
use Rattle.acc_message.specs.Coordinator.{silence}
use Rattle.acc_message.specs.NodeRules.{Act}
use Rattle.acc_message.specs.Run.{Cluster, emits}
use Rattle.acc_pasts.specs.Entries.{MayTake}
use Rattle.acc_history.specs.declared.history.History.{History}
use Rattle.acc_world.specs.declared.held.Held.{Held}
use Rattle.acc_world.specs.declared.setup.Setup.{Setup}
use Rattle.acc_world.specs.Held.{cluster_of, IsPast, IsActorOf, MayTry}
use Rattle.acc_world.specs.Stands.{AreHeld}

-- the actor may be tried with the event in this past, in which all that are kept stand
pub record IsReady (setup : Setup) (history : History) (actors : BTreeMap ℕ Held) (a : Actor) (event : Event) (items : List Item) (act : Act) : Type 0 where
  pub past : IsPast (cluster_of setup) history items
  pub known : IsActorOf (cluster_of setup) a
  pub may : MayTry (cluster_of setup) items a event act
  pub held : AreHeld (cluster_of setup) items actors

pub record MayAct (setup : Setup) (history : History) (actors : BTreeMap ℕ Held) (a : Actor) (event : Event) : Type 0 where
  pub items : List Item
  pub act : Act
  pub ready : IsReady setup history actors a event items act

-- it may take the event, gives what the rules say, and all that are kept stand after its entry
pub record HasActed (cluster : Cluster) (items : List Item) (a : Actor) (event : Event) (act : Act) (emitted : Emitted) (actors : BTreeMap ℕ Held) : Type 0 where
  pub may : MayTake cluster items a event act
  pub emits_it : emitted ≡ emits cluster items a act
  pub held : AreHeld cluster (Step (record { actor = a; event = event; emitted = emitted; lost = false }) ∷ items) actors

-- the entry of an actor that comes back from its journal
abbrev pub came_back : Actor → Entry
came_back a = record { actor = a; event = Restart 0; emitted = silence; lost = false }

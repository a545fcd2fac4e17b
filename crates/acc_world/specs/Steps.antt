-- What a step of a world does.
use Rattle.std.specs.Prelude.{◌≡◌, ◌<◌, true, false, List, ◌∷◌, length, None, Some}
use Rattle.acc_stamp.specs.declared.actors.Actor.{Actor}
use Rattle.acc_message.specs.declared.message.Message.{Message}
use Rattle.acc_message.specs.declared.entry.Entry.{Entry}
use Rattle.acc_message.specs.declared.entry.Event.{Event}
use Rattle.acc_message.specs.declared.item.Item.{Item}
use Rattle.acc_message.specs.declared.item.Skip.{Skip}
use Rattle.acc_message.specs.declared.item.Item.TheVariants.{Step}
use Rattle.acc_message.specs.Fields.{id_of, to_of}
use Rattle.acc_message.specs.Items.{message_at}
use Rattle.acc_message.specs.Attempts.{Attempt}
use Rattle.acc_message.specs.NodeRules.{Act}
use Rattle.acc_message.specs.Run.{Cluster, emits, kept_of, is_node, attempt_at}
use Rattle.acc_coord.specs.Stands.{MakesFastQuorum, DecidesFast}
use Rattle.acc_run_laws.specs.declared.ask.Ask.{Ask}
use Rattle.acc_run_laws.specs.declared.ask.Ask.TheVariants.{Begin, Recover, Slow as SlowAsk, Deliver, Restart}
use Rattle.acc_run_laws.specs.Asks.{stepper, event_for, skip_of, item_for}
use Rattle.acc_run_laws.specs.AskLaws.{IsAskOf}
use Rattle.acc_schedule_runs.specs.Limits.{most_items}
use Rattle.acc_pasts.specs.Entries.{entering, MayTake}
use Rattle.acc_world.specs.declared.error.WorldError.{WorldError}
use Rattle.acc_world.specs.declared.error.WorldError.TheVariants.{Skip as SkipError, OutOfMemory}
use Rattle.acc_world.specs.declared.world.World.{World}
use Rattle.acc_world.specs.Held.{cluster_of, IsActorOf, MayTry}
use Rattle.acc_world.specs.Stands.{Stands, StandsFor}

-- so few that one more is within a run's limit
abbrev pub HasPlace : List Item → Type 0
HasPlace items = length items < most_items

-- ---- one event

pub record IsTried (w : World) (a : Actor) (event : Event) (items : List Item) (act : Act) : Type 0 where
  pub stands : Stands w items
  pub place : HasPlace items
  pub known : IsActorOf (cluster_of w.setup) a
  pub kept : kept_of event ≡ 0
  pub may : MayTry (cluster_of w.setup) items a event act

pub record MayBeTried (w : World) (a : Actor) (event : Event) : Type 0 where
  pub items : List Item
  pub act : Act
  pub tried : IsTried w a event items act

-- the entry is that of the rules, and the world stands for it
pub record HasEntered (old new : World) (items : List Item) (a : Actor) (event : Event) (act : Act) (e : Entry) : Type 0 where
  pub may : MayTake (cluster_of old.setup) items a event act
  pub entry_is : e ≡ record { actor = a; event = event; emitted = emits (cluster_of old.setup) items a act; lost = false }
  pub stands : Stands new (Step e ∷ items)

-- ---- a fast quorum

-- Where a node takes an answer to an attempt at ballot zero in its first phase, which makes the votes for the transaction's own
-- timestamp a fast quorum in every shard, its entry decides that timestamp.
abbrev pub DecidesAtOnce : Cluster → List Item → Ask → Entry → Type 0
DecidesAtOnce cluster items (Begin txn) e = Unit {0}
DecidesAtOnce cluster items (Recover txn node) e = Unit {0}
DecidesAtOnce cluster items (SlowAsk txn) e = Unit {0}
DecidesAtOnce cluster items (Deliver number) e =
    (m : Message) (x : Attempt) → message_at items number ≡ Some m → is_node (to_of m) ≡ true
    → attempt_at cluster items (to_of m) (id_of m) ≡ Some x
    → MakesFastQuorum cluster.layout (id_of m) x m → DecidesFast (id_of m) x m e.emitted
DecidesAtOnce cluster items (Restart actor) e = Unit {0}

-- ---- a step

pub record Steps (old new : World) (cluster : Cluster) (items : List Item) (ask : Ask) (e : Entry) : Type 0 where
  pub entry_is : item_for cluster items 0 ask ≡ Step e
  pub stands : StandsFor new cluster (Step e ∷ items)
  pub fast : DecidesAtOnce cluster items ask e

-- ---- one ask of the world's own cluster

pub record IsAsked (w : World) (items : List Item) (ask : Ask) : Type 0 where
  pub stands : Stands w items
  pub place : HasPlace items
  pub known : IsAskOf (cluster_of w.setup) ask

pub record MayBeAsked (w : World) (ask : Ask) : Type 0 where
  pub items : List Item
  pub asked : IsAsked w items ask

-- the entry is the one that the cluster enters
pub record Answers (old new : World) (items : List Item) (ask : Ask) (e : Entry) : Type 0 where
  pub skip_none : skip_of (cluster_of old.setup) items ask ≡ None
  pub entry_is : entering (cluster_of old.setup) items (stepper (cluster_of old.setup) items ask) (event_for ask) false ≡ Step e
  pub stands : Stands new (Step e ∷ items)

abbrev pub IsAnswered : World → World → Ask → Entry → Type 0
IsAnswered old new ask e = (items : List Item) → IsAsked old items ask → Answers old new items ask e

-- the step is passed over for this cause
abbrev pub Skips : World → Ask → Skip → Type 0
Skips w ask cause = (items : List Item) → IsAsked w items ask → skip_of (cluster_of w.setup) items ask ≡ Some cause

abbrev pub IsSkip : (Skip → Type 0) → WorldError → Type 0
IsSkip Holds (SkipError cause) = Holds cause
IsSkip Holds OutOfMemory = Unit {0}

-- What the laws of asks speak of: which asks a cluster can be asked, runs without a down, and lost entries with their restart.
use Rattle.std.specs.Prelude.{◌≡◌, ℕ, Bool, true, false, IsTrue, List, [], ◌∷◌, Some}
use Rattle.std.specs.List.{slice_get, list_all, AllByRecursion}
use Rattle.acc_stamp.specs.declared.actors.Actor.{Actor}
use Rattle.acc_topology.specs.Sets.{is_among}
use Rattle.acc_txn.specs.declared.parts.BodyParts.{BodyParts}
use Rattle.acc_message.specs.declared.entry.Entry.{Entry}
use Rattle.acc_message.specs.declared.entry.Event.TheVariants.{Restart as RestartEvent}
use Rattle.acc_message.specs.declared.item.Item.{Item}
use Rattle.acc_message.specs.declared.item.Item.TheVariants.{Step, Skipped, Down}
use Rattle.acc_message.specs.Run.{Cluster, StandsOn, kept_of, IsRun, is_down}
use Rattle.acc_run_laws.specs.declared.ask.Ask.{Ask}
use Rattle.acc_run_laws.specs.declared.ask.Ask.TheVariants.{Begin, Recover, Slow, Deliver, Restart}
use Rattle.acc_run_laws.specs.Asks.{stepper, entry_at, item_for}

-- the cluster has a home and a body for the transaction with this number
pub record HasTxn (cluster : Cluster) (txn : ℕ) : Type 0 where
  pub home : ℕ
  pub home_is : slice_get cluster.homes txn ≡ Some home
  pub body : BodyParts
  pub body_is : slice_get cluster.bodies txn ≡ Some body

-- a begin names a transaction of the cluster, and a recover a node of it
abbrev pub IsAskOf : Cluster → Ask → Type 0
IsAskOf cluster (Begin txn) = HasTxn cluster txn
IsAskOf cluster (Recover txn node) = IsTrue (is_among cluster.layout.nodes node)
IsAskOf cluster (Slow txn) = Unit {0}
IsAskOf cluster (Deliver number) = Unit {0}
IsAskOf cluster (Restart actor) = Unit {0}

abbrev pub AreAsksOf : Cluster → List Ask → Type 0
AreAsksOf cluster asks = AllByRecursion (IsAskOf cluster) asks

-- the actor that would step isn't down, or the ask is for its restart
abbrev pub IsUp : Cluster → List Item → Ask → Type 0
IsUp cluster items (Begin txn) = is_down (stepper cluster items (Begin txn)) items ≡ false
IsUp cluster items (Recover txn node) = is_down (stepper cluster items (Recover txn node)) items ≡ false
IsUp cluster items (Slow txn) = is_down (stepper cluster items (Slow txn)) items ≡ false
IsUp cluster items (Deliver number) = is_down (stepper cluster items (Deliver number)) items ≡ false
IsUp cluster items (Restart actor) = Unit {0}

abbrev pub is_no_down : Item → Bool
is_no_down (Step e) = true
is_no_down (Skipped step cause) = true
is_no_down (Down actor) = false

pub record IsRunWithoutDowns (cluster : Cluster) (items : List Item) : Type 0 where
  pub run : IsRun cluster items
  pub no_downs : IsTrue (list_all is_no_down items)

-- for some ask the cluster enters the entry, as the step of this number
pub record IsAsked (cluster : Cluster) (earlier : List Item) (step : ℕ) (e : Entry) : Type 0 where
  pub ask : Ask
  pub entered_is : item_for cluster earlier step ask ≡ Step e

-- ---- lost entries and their restart

-- an entry of the actor stands on these items, and is lost
pub record IsLostOf (cluster : Cluster) (a : Actor) (earlier : List Item) (e : Entry) : Type 0 where
  pub stands : StandsOn cluster earlier e
  pub actor_is : e.actor ≡ a
  pub lost : e.lost ≡ true
  pub kept_none : kept_of e.event ≡ 0

-- these entries, the newest first, after the items
abbrev pub with_entries : List Entry → List Item → List Item
with_entries [] items = items
with_entries (e ∷ entries) items = Step e ∷ with_entries entries items

-- they are entries of the actor, one after another, and each is lost
abbrev pub AreLostOf : Cluster → Actor → List Item → List Entry → Type 0
AreLostOf cluster a items [] = Unit {0}
AreLostOf cluster a items (e ∷ entries) = IsLostOf cluster a (with_entries entries items) e × AreLostOf cluster a items entries

-- the restart that kept so many
abbrev pub restart_at : Cluster → List Item → Actor → ℕ → Item
restart_at cluster items a kept = Step (entry_at cluster items a (RestartEvent kept))

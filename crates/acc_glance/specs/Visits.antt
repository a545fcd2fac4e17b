-- Visits of stores in a cluster, and looks in their moments.
use Rattle.std.specs.Prelude.{◌≡◌, ℕ, ◌==◌, ◌≤◌, Bool, true, false, List, length, Some}
use Rattle.acc_value.specs.declared.key.Key.{Key}
use Rattle.acc_stamp.specs.Actor.{shard_of}
use Rattle.acc_topology.specs.Keys.{shard_of_key}
use Rattle.acc_topology.specs.Layout.{HasShard}
use Rattle.acc_topology.specs.Sets.{IsSetOf, members}
use Rattle.acc_message.specs.Run.{Cluster, is_node}
use Rattle.acc_store.specs.declared.store.Store.{Store}
use Rattle.acc_actors.specs.Stores.{IsStoreOf}
use Rattle.acc_schedule.specs.Content.{Content}
use Rattle.acc_schedule_runs.specs.Schedules.{cluster_of}
use Rattle.acc_schedule_runs.specs.Situations.{Situation}
use Rattle.acc_glance.specs.declared.looks.Look.{Look}
use Rattle.acc_glance.specs.declared.stages.Course.{Course}
use Rattle.acc_glance.specs.declared.stages.Stage.{Stage}
use Rattle.acc_glance.specs.declared.stages.Stage.TheVariants.{Waiting, Visiting, Read, Open}
use Rattle.acc_glance.specs.declared.stores.Replicas.{Replicas}
use Rattle.acc_glance.specs.declared.visits.Visitor.{Visitor}
use Rattle.acc_glance.specs.Stages.{begun_at, first_left, has_asked, is_left, next_to_read, shard_for, stage_of, store_at}

-- these are the shard of the key and its replicas
pub record AreReplicasOf (plan : Content) (key : Key) (replicas : Replicas) : Type 0 where
  pub shard : replicas.shard ≡ shard_of_key plan.topology key
  pub exists : HasShard plan.topology replicas.shard
  pub low : replicas.shard ≤ 15
  pub listed : members replicas.nodes ≡ (shard_for (cluster_of plan) key).replicas
  pub set : IsSetOf replicas.nodes (shard_for (cluster_of plan) key).replicas

-- this is the store of the key's shard at the node
pub record IsStoreAt (plan : Content) (s : Situation) (key : Key) (node : ℕ) (store : Store) : Type 0 where
  pub shard : shard_of (store_at (cluster_of plan) key node) ≡ shard_of_key plan.topology key
  pub kind : is_node (store_at (cluster_of plan) key node) ≡ false
  pub is : IsStoreOf plan s (store_at (cluster_of plan) key node) store

-- this is the node of the first replica that is left, and its store
pub record IsFirst (plan : Content) (s : Situation) (key : Key) (after : ℕ) (visited : List ℕ) (node : ℕ) (store : Store) : Type 0 where
  pub left : first_left (cluster_of plan) s key after visited ≡ Some node
  pub stands : IsStoreAt plan s key node store

-- this node is left, and this is its store
pub record IsLeftAt (plan : Content) (s : Situation) (key : Key) (after : ℕ) (visited : List ℕ) (node : ℕ) (store : Store) : Type 0 where
  pub left : is_left (cluster_of plan) s key after visited node ≡ true
  pub stands : IsStoreAt plan s key node store

-- the look stands where these moments, the newest first, have led it
abbrev pub IsLed : Content → List Situation → Visitor → Type 0
IsLed plan moments visitor = visitor.stage ≡ stage_of (cluster_of plan) visitor.look (length plan.steps) moments

-- the look has the replicas of its key with it
abbrev pub HasReplicas : Content → Visitor → Type 0
HasReplicas plan visitor = AreReplicasOf plan visitor.look.key visitor.replicas

-- the store that is due in the second phase
pub record IsNextToRead (plan : Content) (s : Situation) (key : Key) (course : Course) (node : ℕ) (store : Store) : Type 0 where
  pub due : next_to_read (cluster_of plan) s key course ≡ Some node
  pub stands : IsStoreAt plan s key node store

-- the look has a visit to make in the moment with this number, or may have
abbrev pub is_due : ℕ → Look → Stage → Bool
is_due number look Waiting = number == look.at
is_due number look (Visiting course) = true
is_due number look (Read from to cell) = false
is_due number look (Open from) = false

-- these are the visits so far of a look that makes one: none where it begins
abbrev pub IsVisitOf : Situation → Stage → Course → Type 0
IsVisitOf s Waiting course = course ≡ begun_at (length s.own)
IsVisitOf s (Visiting before) course = course ≡ before
IsVisitOf s (Read from to cell) course = Unit {0}
IsVisitOf s (Open from) course = Unit {0}

-- a look that has visited a store in its second phase has asked a majority before
abbrev pub ReadsAfterAsking : Cluster → Key → Stage → Type 0
ReadsAfterAsking cluster key Waiting = Unit {0}
ReadsAfterAsking cluster key (Visiting course) = 1 ≤ course.last → has_asked cluster key course ≡ true
ReadsAfterAsking cluster key (Read from to cell) = Unit {0}
ReadsAfterAsking cluster key (Open from) = Unit {0}

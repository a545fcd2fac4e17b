-- What a step of one actor makes of the cluster: it is passed over, taken, or stopped by a fault of the disk.
use Rattle.std.specs.Prelude.{◌≡◌, ◌⊎◌, ℕ, Bool, true, false, ◌&&◌, List, length, Option, None, Some}
use Rattle.acc_stamp.specs.declared.actors.Actor.{Actor}
use Rattle.acc_ports.specs.declared.disk.Disk.{Ghosts}
use Rattle.acc_journal.specs.Journal.{keeps_group}
use Rattle.acc_message.specs.declared.entry.Event.{Event}
use Rattle.acc_message.specs.declared.item.Skip.{Skip}
use Rattle.acc_message.specs.declared.item.Item.{Item}
use Rattle.acc_message.specs.declared.item.Item.TheVariants.{Skipped, Down}
use Rattle.acc_message.specs.declared.error.Which.{Which}
use Rattle.acc_message.specs.declared.error.Which.TheVariants.{Items}
use Rattle.acc_message.specs.Run.{Cluster as RunCluster}
use Rattle.acc_schedule.specs.Content.{Content}
use Rattle.acc_schedule_runs.specs.Situations.{Situation}
use Rattle.acc_schedule_runs.specs.Moves.{Answers, with_item, is_journalled, tried_if, kept_if, reopened, Drains}
use Rattle.acc_schedule_runs.specs.Schedules.{cluster_of}
use Rattle.acc_schedule_runs.specs.Laws.{AgreeBelow}
use Rattle.acc_payloads.specs.Appends.{fails_append}
use Rattle.acc_schedule_runs.specs.Disks.{Disks, after_step, after_restart}
use Rattle.acc_schedule_runs.specs.StrictMoves.{StrictSituation, StrictDrains}
use Rattle.acc_schedule_runs.specs.Limits.{EndsAt}
use Rattle.acc_schedule_runs.specs.Fronts.{Begins, DrainsTo}
use Rattle.acc_schedule_runs.specs.StrictFronts.{StrictlyDrainsTo}
use Rattle.acc_cluster.specs.declared.cluster.Cluster.{Cluster}
use Rattle.acc_cluster.specs.Stands.{StandsFor, AreStrict}
use Rattle.acc_cluster.specs.Limits.{StopsAt, NoneFell}
use Rattle.acc_cluster.specs.Steps.{Hit, RoseByDowns}

-- ---- one actor's step

abbrev pub stepped_if : Option Skip → Bool → RunCluster → ℕ → Situation → Actor → Event → Situation
stepped_if (Some cause) fails cluster number s a event = with_item (Skipped number cause) s
stepped_if None fails cluster number s a event = tried_if fails cluster s a event

-- the actor's strict disk fails in the step
abbrev pub fails_strictly : Disks → Actor → Event → Bool
fails_strictly disks a event = is_journalled a event && fails_append (disks.armed a)

abbrev pub disks_after : Option Skip → Disks → Actor → Event → Disks
disks_after (Some cause) disks a event = disks
disks_after None disks a event = after_step (is_journalled a event) a disks

-- A step of the schedule for one actor, with its number: the cause for which it is passed over, if any, or the event by which the actor
-- takes it.
pub record Scheduled : Type 0 where
  pub skip : Option Skip
  pub number : ℕ
  pub actor : Actor
  pub event : Event

abbrev pub scheduled : Option Skip → ℕ → Actor → Event → Scheduled
scheduled skip number a event = record { skip = skip; number = number; actor = a; event = event }

-- what it makes of the situation, by whether the disk fails
abbrev pub after_scheduled : Scheduled → Bool → RunCluster → Situation → Situation
after_scheduled step fails cluster s = stepped_if step.skip fails cluster step.number s step.actor step.event

-- The cluster stands for what the step makes of the situation, by whether the disk failed. Over strict disks that is known.
pub record HasStepped {D : Type 0} (port : Ghosts D) (plan : Content) (step : Scheduled) (old new : Cluster D) (s : Situation) : Type 0 where
  pub fails : Bool
  pub may : fails ≡ true → is_journalled step.actor step.event ≡ true
  pub stands : StandsFor port plan new (after_scheduled step fails (cluster_of plan) s)
  pub rose : RoseByDowns port plan old new s (after_scheduled step fails (cluster_of plan) s)
  pub strictly :
      (disks : Disks) → AreStrict port plan old.slots.items s disks
      → (step.skip ≡ None → fails ≡ fails_strictly disks step.actor step.event)
      × AreStrict port plan new.slots.items (after_scheduled step fails (cluster_of plan) s) (disks_after step.skip disks step.actor step.event)

-- The cluster stands for the next situation, and nothing has changed on any disk.
pub record HasChanged {D : Type 0} (port : Ghosts D) (plan : Content) (old new : Cluster D) (s next : Situation) : Type 0 where
  pub stands : StandsFor port plan new next
  pub rose : RoseByDowns port plan old new s next
  pub strictly :
      (disks : Disks) → AreStrict port plan old.slots.items s disks
      → AreStrict port plan new.slots.items next disks

-- A limit ends the run before the step's item: whatever the disk would answer, and then it wasn't asked, or after a step that the disk
-- didn't stop. The limit of items is told before the disk is asked.
pub record HitsLimit {D : Type 0} (port : Ghosts D) (plan : Content) (step : Scheduled) (old new : Cluster D) (s : Situation) (limit : Hit) : Type 0 where
  pub reached : Situation
  pub ends :
      (((fails : Bool) → EndsAt (λ front. front ≡ (after_scheduled step fails (cluster_of plan) s).own) s.own limit.which limit.most) × (reached ≡ s))
      ⊎ (EndsAt (λ front. front ≡ (after_scheduled step false (cluster_of plan) s).own) s.own limit.which limit.most
      × ((disks : Disks) → AreStrict port plan old.slots.items s disks → step.skip ≡ None → fails_strictly disks step.actor step.event ≡ false)
      × (reached ≡ after_scheduled step false (cluster_of plan) s))
  pub first : limit.which ≡ Items → reached ≡ s
  pub stops : StopsAt port plan new s.own reached
  pub none_fell : NoneFell port plan old new

-- ---- restarts

-- by whether the disk failed, and whether it kept the steps that were stopped
abbrev pub restarted_by : Bool → Bool → RunCluster → Situation → Actor → Situation
restarted_by true keeps cluster s a = with_item (Down a) s
restarted_by false keeps cluster s a = reopened cluster s a (kept_if keeps a s)

-- what a strict disk keeps of the steps that were stopped
abbrev pub kept_strictly : Disks → ℕ → Actor → Situation → List Event
kept_strictly disks choice a s = kept_if (keeps_group (disks.passed a) choice) a s

pub record HasRestarted {D : Type 0} (port : Ghosts D) (plan : Content) (a : Actor) (choice : ℕ) (old new : Cluster D) (s : Situation) : Type 0 where
  pub fails : Bool
  pub keeps : Bool
  pub stands : StandsFor port plan new (restarted_by fails keeps (cluster_of plan) s a)
  pub rose : RoseByDowns port plan old new s (restarted_by fails keeps (cluster_of plan) s a)
  pub strictly :
      (disks : Disks) → AreStrict port plan old.slots.items s disks
      → (fails ≡ false) × (kept_if keeps a s ≡ kept_strictly disks choice a s)
      × AreStrict port plan new.slots.items (restarted_by fails keeps (cluster_of plan) s a) (after_restart a disks)

-- A limit ends the run inside a restart: before the disk crashes, or after its reopening, which led to the situation.
pub record HitsLimitInRestart {D : Type 0} (port : Ghosts D) (plan : Content) (a : Actor) (choice : ℕ) (old : Cluster D) (s : Situation) (limit : Hit) : Type 0 where
  pub items : List Item
  pub reached : Situation
  pub ends :
      (((fails keeps : Bool) → EndsAt (λ front. Begins front (restarted_by fails keeps (cluster_of plan) s a).own) items limit.which limit.most) × (reached ≡ s))
      ⊎ ((keeps : Bool) × EndsAt (λ front. Begins front (restarted_by false keeps (cluster_of plan) s a).own) items limit.which limit.most
      × ((disks : Disks) → AreStrict port plan old.slots.items s disks → kept_if keeps a s ≡ kept_strictly disks choice a s)
      × (reached ≡ restarted_by false keeps (cluster_of plan) s a))

-- ---- drains

pub record HasDrained {D : Type 0} (port : Ghosts D) (plan : Content) (old new : Cluster D) (s : Situation) : Type 0 where
  pub next : Situation
  pub stands : StandsFor port plan new next
  pub rose : RoseByDowns port plan old new s next
  pub answered : (answers : Answers) → (other : Answers) × AgreeBelow answers other (length s.own) × Drains (cluster_of plan) other next s
  pub strictly :
      (disks : Disks) → AreStrict port plan old.slots.items s disks
      → (later : Disks) × StrictDrains (cluster_of plan) (record { found = next; disks = later }) (record { found = s; disks = disks })
      × AreStrict port plan new.slots.items next later

-- A limit ends the run in a drain. The limit of items is told before the disk of the next delivery is asked.
pub record HitsLimitInDrain {D : Type 0} (port : Ghosts D) (plan : Content) (old : Cluster D) (s : Situation) (which : Which) (limit : ℕ) : Type 0 where
  pub items : List Item
  pub reached : Situation
  pub first : which ≡ Items → reached.own ≡ items
  pub answered :
      (answers : Answers)
      → (other : Answers) × AgreeBelow answers other (length s.own) × DrainsTo (cluster_of plan) other reached s
      × ((more : Answers) → AgreeBelow other more (length reached.own)
      → EndsAt (λ front. (later : Situation) × DrainsTo (cluster_of plan) more later s × Begins front later.own) items which limit)
  pub strictly :
      (disks : Disks) → AreStrict port plan old.slots.items s disks
      → EndsAt (λ front. (reached : StrictSituation) × StrictlyDrainsTo (cluster_of plan) reached (record { found = s; disks = disks }) × Begins front reached.found.own) items which limit

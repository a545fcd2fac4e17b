-- What a step of the schedule leads to: the next situation, or a limit that ends the run.
use Rattle.std.specs.Prelude.{◌≡◌, ◌⊎◌, ℕ, List, length, Contains}
use Rattle.acc_ports.specs.Faults.{Rose}
use Rattle.acc_stamp.specs.declared.actors.Actor.{Actor}
use Rattle.acc_ports.specs.declared.disk.Disk.{Ghosts}
use Rattle.acc_message.specs.declared.item.Item.{Item}
use Rattle.acc_message.specs.declared.error.Which.{Which}
use Rattle.acc_message.specs.declared.error.Which.TheVariants.{Items}
use Rattle.acc_message.specs.declared.error.RunError.{RunError}
use Rattle.acc_message.specs.declared.error.RunError.TheVariants.{Limit, OutOfMemory}
use Rattle.acc_payloads.specs.Items.{downs_in}
use Rattle.acc_schedule.specs.Actors.{actors}
use Rattle.acc_schedule.specs.Content.{Content}
use Rattle.acc_schedule.specs.declared.plan.Step.{Step}
use Rattle.acc_schedule.specs.declared.plan.Step.TheVariants.{Restart}
use Rattle.acc_schedule_runs.specs.Situations.{Situation}
use Rattle.acc_schedule_runs.specs.Moves.{Answers, IsNext}
use Rattle.acc_schedule_runs.specs.Schedules.{cluster_of}
use Rattle.acc_schedule_runs.specs.Laws.{AgreeBelow}
use Rattle.acc_schedule_runs.specs.StrictMoves.{StrictSituation, IsStrictNext}
use Rattle.acc_schedule_runs.specs.Limits.{EndsAt}
use Rattle.acc_schedule_runs.specs.Fronts.{ComesTo, Begins}
use Rattle.acc_schedule_runs.specs.StrictFronts.{StrictlyComesTo}
use Rattle.acc_cluster.specs.declared.cluster.Cluster.{Cluster}
use Rattle.acc_cluster.specs.Stands.{StandsFor, StandsStrictly, faults_at}
use Rattle.acc_cluster.specs.Limits.{StopsAt}

-- ---- two states, and a limit

-- something before a call and after it
pub record Change (T : Type 0) : Type 0 where
  pub old : T
  pub new : T

abbrev pub change : {T : Type 0} → T → T → Change T
change old new = record { old = old; new = new }

-- the limit that was hit, and how many items or bytes it allows
pub record Hit : Type 0 where
  pub which : Which
  pub most : ℕ

abbrev pub hit : Which → ℕ → Hit
hit which most = record { which = which; most = most }

-- ---- a step

-- an actor goes down only where its disk failed
abbrev pub RoseByDowns : {D : Type 0} → Ghosts D → Content → Cluster D → Cluster D → Situation → Situation → Type 0
RoseByDowns port plan old new s next =
    (a : Actor) → Contains (actors plan.topology) a → (downs_in a next.own ≡ downs_in a s.own) ⊎ Rose (faults_at port old a) (faults_at port new a)

-- Some answers of the disks, those given so far among them, take the situation to the next one by the step, and the cluster stands for it.
pub record StepsTo {D : Type 0} (port : Ghosts D) (plan : Content) (answers : Answers) (number : ℕ) (step : Step) (made : Change (Cluster D)) (s : Situation) : Type 0 where
  pub other : Answers
  pub next : Situation
  pub agree : AgreeBelow answers other (length s.own)
  pub next_is : IsNext (cluster_of plan) other number step s next
  pub stands : StandsFor port plan made.new next
  pub rose : RoseByDowns port plan made.old made.new s next

-- the same over strict disks, which answer by themselves
pub record StepsStrictly {D : Type 0} (port : Ghosts D) (plan : Content) (number : ℕ) (step : Step) (new : Cluster D) (s : StrictSituation) : Type 0 where
  pub next : StrictSituation
  pub next_is : IsStrictNext (cluster_of plan) number step s next
  pub stands : StandsStrictly port plan new next

-- a limit is hit, and what holds then
abbrev pub IfLimit : (Which → ℕ → Type 0) → RunError → Type 0
IfLimit Holds (Limit which number) = Holds which number
IfLimit Holds OutOfMemory = Unit {0}

-- the step restarts an actor
abbrev pub IsRestart : Step → Type 0
IsRestart (Restart actor choice) = Unit {0}
IsRestart step = ⊥

-- With some answers, those given so far among them, the actors have been led to a situation: the step has not begun, or comes to it. There
-- the limit ends the run inside the step, after these items, whatever disks answer from there on. The limit of items leaves the actors at
-- these items, since it is told before a disk is asked. Only a restart learns from its disk how many items it has to enter, and may stop
-- after some of them.
pub record EndsIn (plan : Content) (answers : Answers) (number : ℕ) (step : Step) (s : Situation) (which : Which) (limit : ℕ) : Type 0 where
  pub other : Answers
  pub items : List Item
  pub reached : Situation
  pub agree : AgreeBelow answers other (length s.own)
  pub led : (reached ≡ s) ⊎ ComesTo (cluster_of plan) other number step s reached
  pub first : which ≡ Items → IsRestart step ⊎ (reached.own ≡ items)
  pub ends :
      (more : Answers) → AgreeBelow other more (length reached.own)
      → EndsAt (λ front. (later : Situation) × ComesTo (cluster_of plan) more number step s later × Begins front later.own) items which limit

-- The cluster stops there, and an actor is down in what its disks have only where its disk failed.
pub record LimitLeaves {D : Type 0} (port : Ghosts D) (plan : Content) (old new : Cluster D) (s : Situation) (items : List Item) (reached : Situation) : Type 0 where
  pub stops : StopsAt port plan new items reached
  pub rose : RoseByDowns port plan old new s reached

pub record EndsStrictlyIn (plan : Content) (number : ℕ) (step : Step) (s : StrictSituation) (which : Which) (limit : ℕ) : Type 0 where
  pub items : List Item
  pub ends : EndsAt (λ front. (reached : StrictSituation) × StrictlyComesTo (cluster_of plan) number step s reached × Begins front reached.found.own) items which limit

-- What the turns of a cluster lead to that finishes.
use Rattle.std.specs.Prelude.{◌≡◌, ℕ, ◌<◌, ◌≤◌, Bool, true, false, List, ◌∷◌, length, Contains, None, IsTrue}
use Rattle.acc_stamp.specs.declared.actors.Actor.{Actor}
use Rattle.acc_ports.specs.declared.disk.Disk.{Ghosts}
use Rattle.acc_message.specs.declared.item.Item.{Item}
use Rattle.acc_message.specs.declared.error.Which.{Which}
use Rattle.acc_message.specs.Items.{same_actor}
use Rattle.acc_schedule.specs.Actors.{actors}
use Rattle.acc_schedule.specs.Content.{Content}
use Rattle.acc_schedule.specs.declared.plan.Step.{Step}
use Rattle.acc_schedule_runs.specs.Situations.{Situation, NothingWaits}
use Rattle.acc_schedule_runs.specs.Laws.{NobodyIsDown}
use Rattle.acc_schedule_runs.specs.Disks.{Disks}
use Rattle.acc_schedule_runs.specs.Limits.{EndsAt}
use Rattle.acc_schedule_runs.specs.Fronts.{Begins}
use Rattle.acc_cluster.specs.declared.cluster.Cluster.{Cluster}
use Rattle.acc_cluster.specs.Stands.{StandsFor, AreStrict}
use Rattle.acc_cluster.specs.Limits.{StopsAt}
use Rattle.acc_free_laws.specs.Commands.{IsPassed, IsReady, IsHeld}
use Rattle.acc_free_laws.specs.Serving.{IsServing, HasGone}
use Rattle.acc_free_ending.specs.declared.command.Turn.{Turn}
use Rattle.acc_free_ending.specs.declared.command.Turn.TheVariants.{Takes, Passes, Waits}
use Rattle.acc_free_ending.specs.declared.rest.Queue.{Queue}
use Rattle.acc_free_ending.specs.Queues.{HaveGone, AreHeld, count_left}

-- over strict disks with nothing armed on any, and nobody was ever down
pub record StaysUp {D : Type 0} (port : Ghosts D) (plan : Content) (cluster : Cluster D) (s : Situation) : Type 0 where
  pub disks : Disks
  pub strictly : AreStrict port plan cluster.slots.items s disks
  pub unarmed : (a : Actor) → disks.armed a ≡ None
  pub up : NobodyIsDown s.own

-- The cluster stands for the situation, whose items are a free run. In a strict run nobody was ever down.
pub record Serves {D : Type 0} (port : Ghosts D) (strict_run : Bool) (plan : Content) (cluster : Cluster D) (s : Situation) : Type 0 where
  pub stands : StandsFor port plan cluster s
  pub serving : IsServing plan s
  pub stayed : strict_run ≡ true → StaysUp port plan cluster s

-- what is to be done with a command that is the next one of its actor
abbrev pub IsTurn : Turn → Actor → List Item → Step → Type 0
IsTurn Takes a items command = IsReady a items command
IsTurn Passes a items command = IsPassed a items command
IsTurn Waits a items command = (left : List Step) → IsHeld items (command ∷ left)

-- ---- the commands of an actor

-- what was left of commands before and is left now, and whether any went by
pub record Progress (Left : Type 0) : Type 0 where
  pub before : Left
  pub now : Left
  pub went : Bool

abbrev pub progress : {Left : Type 0} → Left → Left → Bool → Progress Left
progress before now went = record { before = before; now = now; went = went }

-- commands went by, or the first one is held
pub record HasMoved {D : Type 0} (port : Ghosts D) (strict_run : Bool) (plan : Content) (a : Actor) (made : Progress (List Step)) (cluster : Cluster D) (s : Situation) : Type 0 where
  pub next : Situation
  pub serves : Serves port strict_run plan cluster next
  pub gone : HasGone plan next a made.now
  pub others : (b : Actor) (left : List Step) → same_actor a b ≡ false → HasGone plan s b left → HasGone plan next b left
  pub behind : Begins s.own next.own
  pub less : length made.now ≤ length made.before
  pub fewer : made.went ≡ true → length made.now < length made.before
  pub held : made.went ≡ false → (next ≡ s) × IsHeld s.own made.now

-- ---- rounds

pub record HasGoneRound {D : Type 0} (port : Ghosts D) (strict_run : Bool) (plan : Content) (made : Progress (List Queue)) (cluster : Cluster D) (s : Situation) : Type 0 where
  pub next : Situation
  pub serves : Serves port strict_run plan cluster next
  pub gone : HaveGone plan next made.now
  pub behind : Begins s.own next.own
  pub less : count_left made.now ≤ count_left made.before
  pub fewer : made.went ≡ true → count_left made.now < count_left made.before
  pub held : made.went ≡ false → (next ≡ s) × AreHeld s.own made.now

-- every message that waited was taken
pub record IsEmptied {D : Type 0} (port : Ghosts D) (strict_run : Bool) (plan : Content) (cluster : Cluster D) (s : Situation) : Type 0 where
  pub next : Situation
  pub serves : Serves port strict_run plan cluster next
  pub gone : (a : Actor) (left : List Step) → HasGone plan s a left → HasGone plan next a left
  pub behind : Begins s.own next.own
  pub nothing : NothingWaits next

-- nothing is left that could be taken
pub record HasEnded {D : Type 0} (port : Ghosts D) (strict_run : Bool) (plan : Content) (now : List Queue) (cluster : Cluster D) (s : Situation) : Type 0 where
  pub last : Situation
  pub serves : Serves port strict_run plan cluster last
  pub gone : HaveGone plan last now
  pub behind : Begins s.own last.own
  pub nothing : NothingWaits last
  pub held : AreHeld last.own now

-- ---- limits

-- of each actor some commands went by
abbrev pub EachWent : Content → Situation → Type 0
EachWent plan s = (a : Actor) → Contains (actors plan.topology) a → (left : List Step) × HasGone plan s a left

-- The items are a front of a free run, which begins with these ones and in which commands of each actor went by. In a strict run nobody
-- was ever down.
pub record IsFreeFront (strict_run : Bool) (plan : Content) (entered front : List Item) : Type 0 where
  pub reached : Situation
  pub serving : IsServing plan reached
  pub went : EachWent plan reached
  pub behind : Begins entered reached.own
  pub begins : Begins front reached.own
  pub stayed : IsTrue strict_run → NobodyIsDown reached.own

-- The limit ends a free run, which begins with the items that were entered, after all that the cluster has entered by now. Its actors with
-- their disks came there by free steps, or to what a move adds, whose items the limit keeps out.
pub record StopsFreely {D : Type 0} (port : Ghosts D) (strict_run : Bool) (plan : Content) (entered : List Item) (cluster : Cluster D) (which : Which) (number : ℕ) : Type 0 where
  pub items : List Item
  pub ends : EndsAt (IsFreeFront strict_run plan entered) items which number
  pub reached : Situation
  pub serving : IsServing plan reached
  pub stops : StopsAt port plan cluster items reached

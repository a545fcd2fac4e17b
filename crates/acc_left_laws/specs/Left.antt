-- Journals that a run left, and the run that goes on from them.
--     HasLeft plan s keeps images      the run that came to this situation left these journals, where `keeps` tells of each actor whether its
--                                      journal has the steps that a fault stopped
--     reopened_at plan s keeps      the past after which the actors are opened: the run, and of each actor in turn the steps that its journal
--                                   kept, as lost entries, and a restart
use Rattle.std.specs.Prelude.{◌≡◌, ℕ, ◌+◌, ◌^◌, ◌<◌, Bool, true, List, [], ◌∷◌, length, find, option_map, unwrap_or, Contains}
use Rattle.std.specs.List.{AllByRecursion}
use Rattle.hex.specs.Hex.{IsBytes}
use Rattle.acc_stamp.specs.declared.actors.Actor.{Actor}
use Rattle.acc_stamp.specs.Actor.{actor_eq}
use Rattle.acc_journal.specs.Layout.{Reads}
use Rattle.acc_txn.specs.Short.{IsNumberedBody}
use Rattle.acc_message.specs.declared.item.Item.{Item}
use Rattle.acc_message.specs.Run.{Cluster, is_down}
use Rattle.acc_payloads.specs.Items.{payloads_in, without_marks, AreMarked}
use Rattle.acc_schedule.specs.Actors.{actors}
use Rattle.acc_schedule.specs.Content.{Content}
use Rattle.acc_schedule_runs.specs.Moves.{kept_if, reopened, with_kept}
use Rattle.acc_schedule_runs.specs.Schedules.{cluster_of}
use Rattle.acc_schedule_runs.specs.Situations.{Situation, whole}
use Rattle.acc_pasts.specs.Stopped.{IsSound}
use Rattle.acc_left.specs.declared.image.Image.{Image}
use Rattle.acc_left.specs.Leaves.{actors_rising, DoRise}

-- ---- journals

-- the journal of an actor among these, which is empty where there is none
abbrev pub journal_at : List Image → Actor → List ℕ
journal_at images a = unwrap_or (option_map (λ (image : Image). image.bytes) (find (λ (image : Image). actor_eq image.actor a) images)) (1 ∷ 0 ∷ [])

-- each is that of an actor of the plan, and no actor has two; they rise
pub record AreOfActors (plan : Content) (images : List Image) : Type 0 where
  pub rise : DoRise images
  pub known : (image : Image) → Contains images image → Contains (actors plan.topology) image.actor

-- the bytes of each are bytes
abbrev pub AreOfBytes : List Image → Type 0
AreOfBytes images = (image : Image) → Contains images image → IsBytes image.bytes

abbrev pub HasNumberedBodies : Content → Type 0
HasNumberedBodies plan = AllByRecursion IsNumberedBody plan.bodies

-- the payloads of an actor in the run, and then those of its stopped steps if its journal kept them: all of them or
-- none
abbrev pub payloads_left : Content → Situation → Bool → Actor → List (List ℕ)
payloads_left plan s keeps a = payloads_in a (whole (with_kept (cluster_of plan) s a (kept_if keeps a s)))

-- the bytes read as these, marks aside, and break no rule on marks
pub record HasLeftBytes (plan : Content) (s : Situation) (keeps : Bool) (a : Actor) (bytes : List ℕ) : Type 0 where
  pub payloads : List (List ℕ)
  pub reads : Reads bytes payloads
  pub marks : AreMarked plan.version payloads
  pub holds : without_marks payloads ≡ payloads_left plan s keeps a

-- The whole past of the situation is a run of the plan's cluster, whatever made it, of which only actors of the plan
-- went down. Of each actor the stopped steps are one group, all of them journalled, and the actor is down. Each number
-- in a body of the plan has 64 bits, as those of every document have.
pub record HasLeft (plan : Content) (s : Situation) (keeps : Actor → Bool) (images : List Image) : Type 0 where
  pub numbered : HasNumberedBodies plan
  pub sound : IsSound (cluster_of plan) s
  pub down : (a : Actor) → is_down a (whole s) ≡ true → Contains (actors plan.topology) a
  pub are : AreOfActors plan images
  pub each : (a : Actor) → Contains (actors plan.topology) a → HasLeftBytes plan s (keeps a) a (journal_at images a)

-- ---- the run that goes on

-- these actors are opened in turn, each after a crash that left it what its journal has
abbrev pub reopened_all : Cluster → (Actor → Bool) → Situation → List Actor → Situation
reopened_all cluster keeps s [] = s
reopened_all cluster keeps s (a ∷ others) = reopened_all cluster keeps (reopened cluster s a (kept_if (keeps a) a s)) others

abbrev pub reopened_at : Content → Situation → (Actor → Bool) → Situation
reopened_at plan s keeps = reopened_all (cluster_of plan) keeps s (actors_rising plan.topology)

abbrev pub reopened_run : Content → Situation → (Actor → Bool) → List Item
reopened_run plan s keeps = whole (reopened_at plan s keeps)

-- there is room for a million further items where heights, weights and places count fewer than 2^31
abbrev pub HasRoomAfter : List Item → Type 0
HasRoomAfter items = length items + 1000000 < 2 ^ 31

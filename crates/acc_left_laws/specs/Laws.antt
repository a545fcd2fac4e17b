-- What the laws of journals that runs left say.
use Rattle.std.specs.Prelude.{◌≡◌, ℕ, Bool, true, false, List, [], ◌∷◌, None, Contains}
use Rattle.serde_json.specs.Data.{Data}
use Rattle.acc_stamp.specs.declared.actors.Actor.{Actor}
use Rattle.acc_stamp.specs.Actor.{node_of}
use Rattle.acc_journal.specs.Layout.{Reads}
use Rattle.acc_message.specs.declared.item.Item.{Item}
use Rattle.acc_message.specs.NodeRules.{Act, Restarts, node_replay}
use Rattle.acc_message.specs.Run.{clock_start, deeds_of, is_down, is_node, taken_of, IsRun}
use Rattle.acc_actor_laws.specs.TakenAlone.{messages_taken}
use Rattle.acc_safety.specs.RunLaws.{acts_done}
use Rattle.acc_run_laws.specs.Sends.{AreFew}
use Rattle.acc_payloads.specs.declared.node.NodePayload.{NodePayload}
use Rattle.acc_payloads.specs.declared.store.StorePayload.{StorePayload}
use Rattle.acc_payloads.specs.Acts.{AreDrawsOf}
use Rattle.acc_payloads.specs.Items.{payloads_in, without_marks}
use Rattle.acc_payloads.specs.Node.{draws_in, IsNodeJournal}
use Rattle.acc_payloads.specs.Store.{taken_in, IsStoreJournal}
use Rattle.acc_schedule.specs.Actors.{actors}
use Rattle.acc_schedule.specs.Content.{Content}
use Rattle.acc_schedule.specs.Document.{document_fault, plan_of, Reads as ReadsJson}
use Rattle.acc_schedule.specs.Plan.{IsPlan}
use Rattle.acc_schedule_runs.specs.Schedules.{cluster_of}
use Rattle.acc_schedule_runs.specs.Situations.{Situation, opened, whole}
use Rattle.acc_pasts.specs.Stopped.{IsSound}
use Rattle.acc_left.specs.declared.image.Image.{Image}
use Rattle.acc_left.specs.Documents.{left_data, IsLine}
use Rattle.acc_left.specs.Leaves.{images_left}
use Rattle.acc_left.specs.Reading.{MeansLeft}
use Rattle.acc_left.specs.Rules.{AreLeft, IsFirstFault}
use Rattle.acc_left_laws.specs.Left.{AreOfActors, AreOfBytes, HasLeft, HasNumberedBodies, HasRoomAfter, journal_at, reopened_at, reopened_run}

-- ---- the run goes on

-- the reopened run is a run in which nobody is down and no step is stopped
pub record GoesOn (plan : Content) (s : Situation) (keeps : Actor → Bool) : Type 0 where
  pub sound : IsSound (cluster_of plan) (reopened_at plan s keeps)
  pub run : IsRun (cluster_of plan) (reopened_run plan s keeps)
  pub up : (a : Actor) → is_down a (reopened_run plan s keeps) ≡ false

abbrev pub LeftRunsGoOn : Type 0
LeftRunsGoOn =
    (plan : Content) (s : Situation) (keeps : Actor → Bool) (images : List Image) → IsPlan plan → HasLeft plan s keeps images → GoesOn plan s keeps

-- ---- the actors that are opened again

-- the payloads are the journal of a node whose draws are those of these acts, and hold its payloads in the items
pub record HoldsDraws (plan : Content) (items : List Item) (a : Actor) (acts : List Act) (payloads : List (List ℕ)) : Type 0 where
  pub entries : List NodePayload
  pub journal : IsNodeJournal plan.version (clock_start plan.starts (node_of a)) payloads entries
  pub drawn :
      AreDrawsOf (node_of a) (clock_start plan.starts (node_of a))
      (node_replay plan.topology (node_of a) (clock_start plan.starts (node_of a)) acts) (draws_in entries)
  pub held : without_marks payloads ≡ payloads_in a items

-- the last act of the node in the items is its restart, and whatever its journal reads as holds the draws of those
-- before it
pub record NodeStands (plan : Content) (items : List Item) (a : Actor) (bytes : List ℕ) : Type 0 where
  pub acts : List Act
  pub done : acts_done (deeds_of (cluster_of plan) a items) ≡ Restarts ∷ acts
  pub holds : (payloads : List (List ℕ)) → Reads bytes payloads → HoldsDraws plan items a acts payloads

-- the payloads are the journal of a store that took what it took in the items, and hold its payloads there
pub record HoldsMessages (plan : Content) (items : List Item) (a : Actor) (payloads : List (List ℕ)) : Type 0 where
  pub entries : List StorePayload
  pub journal : IsStoreJournal plan.topology plan.version a payloads entries
  pub taken : taken_in entries ≡ messages_taken (taken_of (cluster_of plan) a items)
  pub held : without_marks payloads ≡ payloads_in a items

abbrev pub StoreStands : Content → List Item → Actor → List ℕ → Type 0
StoreStands plan items a bytes = (payloads : List (List ℕ)) → Reads bytes payloads → HoldsMessages plan items a payloads

-- each actor of the plan, opened from its journal, stands for its part in the reopened run
pub record ActorsStand (plan : Content) (items : List Item) (images : List Image) : Type 0 where
  pub nodes : (a : Actor) → Contains (actors plan.topology) a → is_node a ≡ true → NodeStands plan items a (journal_at images a)
  pub stores : (a : Actor) → Contains (actors plan.topology) a → is_node a ≡ false → StoreStands plan items a (journal_at images a)

abbrev pub ReopenedActorsStand : Type 0
ReopenedActorsStand =
    (plan : Content) (s : Situation) (keeps : Actor → Bool) (images : List Image) → IsPlan plan → HasLeft plan s keeps images
    → HasRoomAfter (reopened_run plan s keeps) → ActorsStand plan (reopened_run plan s keeps) images

-- ---- the rules

-- no rule refuses what a run left, its stopped steps included
abbrev pub LeftJournalsAreAccepted : Type 0
LeftJournalsAreAccepted =
    (plan : Content) (s : Situation) (keeps : Actor → Bool) (images : List Image) → IsPlan plan → HasLeft plan s keeps images
    → HasRoomAfter (reopened_run plan s keeps) → AreLeft plan images

-- journals none of which breaks a rule have no first one that does
abbrev pub LeftJournalsHaveNoFault : Type 0
LeftJournalsHaveNoFault =
    (plan : Content) (images : List Image) (image : Image) (detail at : ℕ) → AreLeft plan images → IsFirstFault plan images image detail at
    → ⊥

-- ---- what is written

-- a run of fewer than 2^31 items leaves their journals, of which none has a step that a fault stopped
abbrev pub ItemsLeaveTheirJournals : Type 0
ItemsLeaveTheirJournals =
    (plan : Content) (s : Situation) (keeps : Actor → Bool) → IsPlan plan → HasNumberedBodies plan → IsSound (cluster_of plan) s
    → AreFew (whole s) → ((a : Actor) → is_down a (whole s) ≡ true → Contains (actors plan.topology) a) → ((a : Actor) → keeps a ≡ false)
    → HasLeft plan s keeps (images_left plan (whole s))

-- a document that was read and breaks no rule, written with journals that break no rule, is read as its plan without
-- steps and with these journals
abbrev pub LeftDocumentsAreRead : Type 0
LeftDocumentsAreRead =
    (bytes : List ℕ) (d : Data) (plan : Content) (images : List Image) (text : List ℕ) → ReadsJson bytes d → document_fault d ≡ None
    → plan ≡ plan_of d → IsPlan plan → AreOfActors plan images → AreOfBytes images → AreLeft plan images → IsLine (left_data d images) text
    → MeansLeft text (record plan { steps = [] }) images

-- what is written of the items of a run is read as the plan without steps and with their journals
abbrev pub LeftLinesAreTexts : Type 0
LeftLinesAreTexts =
    (bytes : List ℕ) (d : Data) (plan : Content) (items : List Item) (text : List ℕ) → ReadsJson bytes d → document_fault d ≡ None
    → plan ≡ plan_of d → IsPlan plan → HasNumberedBodies plan → IsRun (cluster_of plan) items
    → ((a : Actor) → is_down a items ≡ true → Contains (actors plan.topology) a)
    → HasRoomAfter (reopened_run plan (opened items) (λ a. false)) → AreOfBytes (images_left plan items)
    → IsLine (left_data d (images_left plan items)) text
    → MeansLeft text (record plan { steps = [] }) (images_left plan items)

-- What joins a run that leaves its journals and the run that goes on from them.
use Rattle.std.specs.Prelude.{◌≡◌, ℕ, ◌<◌, ◌^◌, true, false, List, [], length, None, Some, codes, Contains}
use Rattle.std.specs.List.{AllByRecursion}
use Rattle.serde_json.specs.Data.{Data}
use Rattle.serde_json.specs.Read.{read}
use Rattle.acc_stamp.specs.declared.actors.Actor.{Actor}
use Rattle.acc_topology.specs.Layout.{IsLayout}
use Rattle.acc_message.specs.declared.item.Item.{Item}
use Rattle.acc_message.specs.Run.{is_down, IsRun}
use Rattle.acc_schedule.specs.Actors.{actors}
use Rattle.acc_schedule.specs.Content.{Content}
use Rattle.acc_schedule.specs.Document.{document_fault, plan_of, Reads as ReadsJson}
use Rattle.acc_schedule.specs.Plan.{IsPlan, IsStep}
use Rattle.acc_schedule.specs.declared.plan.Step.{Step}
use Rattle.acc_schedule_runs.specs.Limits.{IsWithin}
use Rattle.acc_schedule_runs.specs.Moves.{Answers}
use Rattle.acc_schedule_runs.specs.Schedules.{cluster_of, Follows, Obeys}
use Rattle.acc_schedule_runs.specs.Situations.{opened, whole, Situation}
use Rattle.acc_schedule_runs.specs.StrictMoves.{StrictSituation}
use Rattle.acc_schedule_runs.specs.StrictSchedules.{FollowsStrictly}
use Rattle.acc_free_laws.specs.FreeRun.{IsFreeRun}
use Rattle.acc_left.specs.declared.image.Image.{Image}
use Rattle.acc_left.specs.Documents.{left_data, with_field, IsLine}
use Rattle.acc_left.specs.Leaves.{images_left}
use Rattle.acc_left.specs.Reading.{MeansLeft}
use Rattle.acc_left_laws.specs.Left.{AreOfActors, AreOfBytes, HasLeft, HasNumberedBodies, HasRoomAfter, reopened_run}

-- ---- what is known of plans and of who is down

-- in the plan of a document each number of a body has 64 bits
abbrev pub BodiesOfDocumentsAreNumbered : Type 0
BodiesOfDocumentsAreNumbered = (d : Data) → IsPlan (plan_of d) → HasNumberedBodies (plan_of d)

-- who is down after the items is an actor of the plan
abbrev pub DownsAreKnown : Content → List Item → Type 0
DownsAreKnown plan items = (a : Actor) → is_down a items ≡ true → Contains (actors plan.topology) a

-- so it is after the plan's steps, whatever the disks answer
abbrev pub WhoIsDownAfterSteps : Type 0
WhoIsDownAfterSteps =
    (plan : Content) (answers : Answers) (items : List Item) → IsPlan plan → Obeys plan answers items
    → DownsAreKnown plan items

-- and after further steps, which speak of the plan's actors
abbrev pub WhoIsDownAfterStepsAndMore : Type 0
WhoIsDownAfterStepsAndMore =
    (plan : Content) (answers : Answers) (steps : List Step) (between last : Situation) → IsPlan plan
    → Follows (cluster_of plan) answers 0 plan.steps (opened []) between
    → Follows (cluster_of plan) answers (length plan.steps) steps between last
    → AllByRecursion (IsStep (length plan.names) plan.topology) steps → DownsAreKnown plan last.own

-- Where it is so before such steps, it is so after them, if all that there is then is one run. Whatever may be before,
-- as an earlier run after which the actors were opened.
abbrev pub WhoIsDownAfterMore : Type 0
WhoIsDownAfterMore =
    (plan : Content) (answers : Answers) (number : ℕ) (steps : List Step) (before last : Situation) → IsPlan plan
    → DownsAreKnown plan (whole before) → Follows (cluster_of plan) answers number steps before last
    → IsRun (cluster_of plan) (whole last) → AllByRecursion (IsStep (length plan.names) plan.topology) steps
    → DownsAreKnown plan (whole last)

-- the same over strict disks
abbrev pub WhoIsDownAfterMoreStrictly : Type 0
WhoIsDownAfterMoreStrictly =
    (plan : Content) (number : ℕ) (steps : List Step) (before last : StrictSituation) → IsPlan plan
    → DownsAreKnown plan (whole before.found) → FollowsStrictly (cluster_of plan) number steps before last
    → IsRun (cluster_of plan) (whole last.found) → AllByRecursion (IsStep (length plan.names) plan.topology) steps
    → DownsAreKnown plan (whole last.found)

-- and after a free run
abbrev pub WhoIsDownAfterFreeRuns : Type 0
WhoIsDownAfterFreeRuns = (plan : Content) (items : List Item) → IsFreeRun plan items → DownsAreKnown plan items

-- ---- what is known of journals

-- where its layout is one, the journals that a document says are those of actors of its plan, and rise
abbrev pub JournalsSaidAreOfActors : Type 0
JournalsSaidAreOfActors =
    (bytes : List ℕ) (plan : Content) (images : List Image) → IsLayout plan.topology → MeansLeft bytes plan images
    → AreOfActors plan images

-- bytes say one plan and the same journals
abbrev pub JournalsAreSaidOnce : Type 0
JournalsAreSaidOnce =
    (bytes : List ℕ) (plan other : Content) (images others : List Image) → MeansLeft bytes plan images
    → MeansLeft bytes other others → (other ≡ plan) × (others ≡ images)

-- a document with journals, and the same with another schedule, say plans that differ in their steps alone, and the same
-- journals
abbrev pub SchedulesKeepJournals : Type 0
SchedulesKeepJournals =
    (text other : List ℕ) (json steps : Data) (plan later : Content) (images others : List Image)
    → MeansLeft text plan images → read text ≡ Some json → read other ≡ Some (with_field (codes "schedule") steps json)
    → MeansLeft other later others → (later ≡ record plan { steps = later.steps }) × (others ≡ images)

-- the journals that a run of fewer than 2^31 items leaves are bytes
abbrev pub JournalsLeftAreBytes : Type 0
JournalsLeftAreBytes =
    (plan : Content) (items : List Item) → IsPlan plan → HasNumberedBodies plan → IsRun (cluster_of plan) items
    → length items < 2 ^ 31 → AreOfBytes (images_left plan items)

-- ---- from the items of a plan to the run that goes on

-- The text says the plan without steps, and the journals that its actors had after the items. After the items each
-- plan that differs in its steps alone goes on from these journals: they were left, and there is room for a million
-- items more.
pub record IsToGoOn (plan : Content) (items : List Item) (text : List ℕ) : Type 0 where
  pub says : MeansLeft text (record plan { steps = [] }) (images_left plan items)
  pub left :
      (steps : List Step)
      → HasLeft (record plan { steps = steps }) (opened items) (λ a. false) (images_left plan items)
  pub room :
      (steps : List Step)
      → HasRoomAfter (reopened_run (record plan { steps = steps }) (opened items) (λ a. false))

-- what is written of the items of a document's plan, within the limits
abbrev pub WhatIsLeftGoesOn : Type 0
WhatIsLeftGoesOn =
    (bytes : List ℕ) (json : Data) (answers : Answers) (items : List Item) (text : List ℕ)
    → ReadsJson bytes json → document_fault json ≡ None → IsPlan (plan_of json) → Obeys (plan_of json) answers items
    → IsWithin items → IsLine (left_data json (images_left (plan_of json) items)) text → IsToGoOn (plan_of json) items text

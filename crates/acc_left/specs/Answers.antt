-- What the parts of the reader answer.
--     GivesTested plan images result      nothing, where the journals break no rule, else the refusal of the first that does
use Rattle.std.specs.Prelude.{◌≡◌, ℕ, Result, Ok, Err, List}
use Rattle.acc_payloads.specs.declared.node.NodePayload.{NodePayload}
use Rattle.acc_schedule.specs.declared.error.PlanError.{PlanError}
use Rattle.acc_schedule.specs.declared.error.PlanError.TheVariants.{Bad, OutOfMemory}
use Rattle.acc_schedule.specs.Content.{Content}
use Rattle.acc_left.specs.declared.drawn.Drawn.{Drawn}
use Rattle.acc_left.specs.declared.image.Image.{Image}
use Rattle.acc_left.specs.declared.refusal.JournalFault.{JournalFault}
use Rattle.acc_left.specs.declared.refusal.JournalFault.TheVariants.{Version, Cut, Payload}
use Rattle.acc_left.specs.Reading.{no_journal}
use Rattle.acc_left.specs.Rules.{AreLeft, IsFirstFault, IsNodeFault, IsNodeImage, IsStoreFault, IsStoreImage, NodeIsFirst, NodesAreLeft}
use Rattle.acc_left.specs.Told.{AddsDraws, Draws, TellDraws}
use Rattle.acc_stamp.specs.declared.actors.Actor.{Actor}
use Rattle.acc_stamp.specs.Actor.{node_of}

-- ---- one journal

abbrev pub detail_of : JournalFault → ℕ
detail_of (Version byte) = 1
detail_of (Cut place) = 2
detail_of (Payload gate) = 3

abbrev pub place_of : JournalFault → ℕ
place_of (Version byte) = byte
place_of (Cut place) = place
place_of (Payload gate) = gate

-- the refusal of the actor's journal for this, unless memory ran out
abbrev pub IsRefusal : Actor → JournalFault → PlanError → Type 0
IsRefusal actor fault OutOfMemory = Unit {0}
IsRefusal actor fault (Bad kind path detail at) = Bad kind path detail at ≡ no_journal actor (detail_of fault) (place_of fault)

-- the refusal of a journal for a fault that it has, unless memory ran out
pub record RefusesFor (Has : ℕ → ℕ → Type 0) (image : Image) (error : PlanError) : Type 0 where
  pub detail : ℕ
  pub at : ℕ
  pub has : Has detail at
  pub says : error ≡ no_journal image.actor detail at

abbrev pub Refuses : (ℕ → ℕ → Type 0) → Image → PlanError → Type 0
Refuses Has image OutOfMemory = Unit {0}
Refuses Has image (Bad kind path detail at) = RefusesFor Has image (Bad kind path detail at)

-- the journal of a node keeps the rules, and its draws are in the table
pub record NodeIsEntered (plan : Content) (image : Image) (before after : Draws) : Type 0 where
  pub items : List NodePayload
  pub journal : IsNodeImage plan image items
  pub draws : AddsDraws before after (node_of image.actor) items

abbrev pub GivesNode : Content → Image → Draws → Draws → Result (Unit {0}) PlanError → Type 0
GivesNode plan image before after (Ok done) = NodeIsEntered plan image before after
GivesNode plan image before after (Err error) = Refuses (IsNodeFault plan image) image error

abbrev pub GivesStore : Content → List Image → Image → Result (Unit {0}) PlanError → Type 0
GivesStore plan images image (Ok done) = IsStoreImage plan images image
GivesStore plan images image (Err error) = Refuses (IsStoreFault plan images image) image error

-- ---- all journals

-- the refusal of the first journal with a fault of this kind, unless memory ran out
pub record RefusesFirst (Is : Image → ℕ → ℕ → Type 0) (error : PlanError) : Type 0 where
  pub image : Image
  pub detail : ℕ
  pub at : ℕ
  pub first : Is image detail at
  pub says : error ≡ no_journal image.actor detail at

abbrev pub RefusesAt : (Image → ℕ → ℕ → Type 0) → PlanError → Type 0
RefusesAt Is OutOfMemory = Unit {0}
RefusesAt Is (Bad kind path detail at) = RefusesFirst Is (Bad kind path detail at)

-- the journals of nodes keep the rules, and these are their draws; or the refusal of the first that breaks one
abbrev pub GivesDrawn : Content → List Image → Result Drawn PlanError → Type 0
GivesDrawn plan images (Ok drawn) = NodesAreLeft plan images × TellDraws plan drawn.draws images
GivesDrawn plan images (Err error) = RefusesAt (NodeIsFirst plan images) error

abbrev pub GivesTested : Content → List Image → Result (Unit {0}) PlanError → Type 0
GivesTested plan images (Ok done) = AreLeft plan images
GivesTested plan images (Err error) = RefusesAt (IsFirstFault plan images) error

-- A document with the journals of an earlier run.
--     left_fault d      the first rule of documents and of their journals' names and digits that the data of one breaks
--     MeansLeft bytes plan images      the bytes are a document that breaks no rule, and this is what it says
--     IsLeftCause bytes error      why bytes are refused so
use Rattle.std.specs.Prelude.{◌≡◌, ◌⊎◌, ℕ, ◌&&◌, Bool, List, [], ◌∷◌, map, filter, flat_map, Some, None, Result, Ok, Err, IsUtf8, codes, is_some, option_map, unwrap_or}
use Rattle.serde_json.specs.Data.{Data, Members, no_members, member}
use Rattle.serde_json.specs.Find.{get, as_object}
use Rattle.serde_json.specs.Read.{read}
use Rattle.acc_base.specs.Faults.{◌then◌, must, each}
use Rattle.acc_stamp.specs.declared.actors.Actor.{Actor}
use Rattle.acc_stamp.specs.Actor.{actor_eq, actor_of}
use Rattle.acc_topology.specs.Layout.{Layout}
use Rattle.acc_schedule.specs.declared.error.PlanKind.TheVariants.{Shape, Name, Journal}
use Rattle.acc_schedule.specs.declared.error.PlanError.{PlanError}
use Rattle.acc_schedule.specs.declared.error.PlanError.TheVariants.{Bad, OutOfMemory}
use Rattle.acc_schedule.specs.Actors.{actor_named, actor_text}
use Rattle.acc_schedule.specs.Apart.{without}
use Rattle.acc_schedule.specs.Content.{Content}
use Rattle.acc_schedule.specs.Document.{document_fault, plan_of, IsNoJson}
use Rattle.acc_schedule.specs.Faults.{Fault, bad}
use Rattle.acc_schedule.specs.Fields.{field, is_text, text}
use Rattle.acc_schedule.specs.Paths.{Path, escaped, field_path, path_text}
use Rattle.acc_left.specs.declared.image.Image.{Image}
use Rattle.acc_left.specs.Digits.{bytes_said, is_digits}
use Rattle.acc_left.specs.Leaves.{actors_rising}
use Rattle.acc_left.specs.Rules.{AreLeft, IsFirstFault}

-- ---- parts of a document

abbrev pub journals : Data → Data
journals = field (codes "journals")

-- the fields of an object and their values, in the order of the names' bytes
abbrev pub listed : Members → List (List ℕ × Data)
listed no_members = []
listed (member name d members) = (name, d) ∷ listed members

abbrev pub members : Data → List (List ℕ × Data)
members d = unwrap_or (option_map listed (as_object d)) []

-- the plan that a document says, as if it had no journals
abbrev pub left_plan : Data → Content
left_plan d = plan_of (without (codes "journals") d)

-- ---- the rules

abbrev pub member_path : List ℕ → Path
member_path name = codes "journals" ∷ name ∷ []

abbrev pub is_image : Data → Bool
is_image d = is_text d && is_digits (text d)

-- a journal's name is how an actor of the cluster prints, and its value an even number of digits
abbrev pub member_fault : Layout → List ℕ × Data → Fault
member_fault layout entry =
    must (is_some (actor_named (actors_rising layout) entry.0)) (bad Name (member_path (escaped entry.0)))
    then must (is_image entry.1) (bad Shape (member_path entry.0))

abbrev pub members_fault : Layout → Data → Fault
members_fault layout d = each (λ place. member_fault layout) 0 (members d)

-- there are journals, and they are an object
abbrev pub journals_fault : Data → Fault
journals_fault d =
    must (is_some (get (codes "journals") d)) (bad Shape [])
    then must (is_some (as_object (journals d))) (bad Shape (field_path (codes "journals")))

abbrev pub left_fault : Data → Fault
left_fault d =
    journals_fault d
    then document_fault (without (codes "journals") d)
    then members_fault (left_plan d).topology (journals d)

-- ---- what data say

abbrev pub image_said : Layout → List ℕ × Data → Image
image_said layout entry = record {
  actor = unwrap_or (actor_named (actors_rising layout) entry.0) (actor_of 0 0);
  bytes = bytes_said (text entry.1);
}

-- the journals, in the order of their names
abbrev pub images_named : Data → List Image
images_named d = map (image_said (left_plan d).topology) (members (journals d))

-- the same, in the order of their actors
abbrev pub in_turn : Layout → List Image → List Image
in_turn layout images = flat_map (λ a. filter (λ (image : Image). actor_eq image.actor a) images) (actors_rising layout)

-- the data of a document that breaks no rule, and what it says
pub record SaysLeft (d : Data) (plan : Content) (images : List Image) : Type 0 where
  pub keeps_rules : left_fault d ≡ None
  pub says_plan : plan ≡ left_plan d
  pub says_images : images ≡ in_turn plan.topology (images_named d)
  pub left : AreLeft plan images

-- the refusal of the journal of this actor
abbrev pub no_journal : Actor → ℕ → ℕ → PlanError
no_journal actor detail at = Bad Journal (path_text (member_path (actor_text actor))) detail at

-- a journal breaks a rule, the first of them in the order of the names, and this says so
pub record BreaksJournals (d : Data) (error : PlanError) : Type 0 where
  pub image : Image
  pub detail : ℕ
  pub at : ℕ
  pub first : IsFirstFault (left_plan d) (images_named d) image detail at
  pub says : error ≡ no_journal image.actor detail at

-- the data break this rule first, or none before the rules on what journals hold
abbrev pub BreaksLeft : Data → PlanError → Type 0
BreaksLeft d error = (left_fault d ≡ Some error) ⊎ ((left_fault d ≡ None) × BreaksJournals d error)

-- ---- what bytes say

-- the bytes are a document with journals that breaks no rule, and this is what it says
pub record MeansLeft (bytes : List ℕ) (plan : Content) (images : List Image) : Type 0 where
  pub utf8 : IsUtf8 bytes
  pub json : Data
  pub reads : read bytes ≡ Some json
  pub says : SaysLeft json plan images

-- the bytes are JSON that is refused so
pub record IsNotLeft (bytes : List ℕ) (error : PlanError) : Type 0 where
  pub utf8 : IsUtf8 bytes
  pub json : Data
  pub reads : read bytes ≡ Some json
  pub breaks : BreaksLeft json error

-- why bytes are refused so. Want of memory has no cause in them
abbrev pub IsLeftCause : List ℕ → PlanError → Type 0
IsLeftCause bytes OutOfMemory = Unit {0}
IsLeftCause bytes (Bad kind path detail at) = IsNoJson bytes (Bad kind path detail at) ⊎ IsNotLeft bytes (Bad kind path detail at)

-- ---- what is answered

-- a plan and journals, or why the data say none, or want of memory
abbrev pub GivesLeft : Data → Result (Content × List Image) PlanError → Type 0
GivesLeft d (Ok left) = SaysLeft d left.0 left.1
GivesLeft d (Err OutOfMemory) = Unit {0}
GivesLeft d (Err (Bad kind path detail at)) = BreaksLeft d (Bad kind path detail at)

-- this plan and these journals, unless memory ran out
abbrev pub IsReadLeft : Content → List Image → Result (Content × List Image) PlanError → Type 0
IsReadLeft plan images (Ok left) = (left.0 ≡ plan) × (left.1 ≡ images)
IsReadLeft plan images (Err (Bad kind path detail at)) = ⊥
IsReadLeft plan images (Err OutOfMemory) = Unit {0}

-- What the command `glance` writes and how it ends, from the bytes of a document with looks.
use Rattle.std.specs.Prelude.{◌≡◌, ◌⊎◌, ◌≤◌, ℕ, Bool, IsTrue, List, ◌++◌, length}
use Rattle.acc_ports.specs.declared.disk.Disk.{Ghosts}
use Rattle.acc_message.specs.declared.item.Item.{Item}
use Rattle.acc_schedule.specs.declared.error.PlanKind.{PlanKind}
use Rattle.acc_schedule.specs.declared.error.PlanError.TheVariants.{Bad}
use Rattle.acc_schedule.specs.Content.{Content}
use Rattle.acc_glance.specs.declared.looks.Look.{Look}
use Rattle.acc_glance.specs.declared.seen.Seen.{Seen}
use Rattle.acc_glance.specs.Documents.{IsLooksCause, MeansLooks}
use Rattle.acc_glance.specs.Runs.{AreSeenStrictly, HasRunWithLooks}
use Rattle.acc_glance.specs.Texts.{seens_text}
use Rattle.acc_command_alone.specs.Lines.{line, refusal_text}
use Rattle.acc_command_alone.specs.Ends.{document_limit}
use Rattle.acc_command_alone.specs.Responds.{IsTooLong}
use Rattle.acc_command_alone.specs.Command.{IsDone, Over, Reports, TellsLimit}
use Rattle.acc_command_alone.specs.declared.words.Command.TheVariants.{Run}
use Rattle.acc_command_alone.specs.declared.status.Status.{Status}
use Rattle.acc_command_alone.specs.declared.status.Status.TheVariants.{Done, No, Usage, ReadFault, WriteFault, BadInput, Limit, OutOfMemory}

-- ---- what looks have seen

-- what is known of what the looks at a run with these items have seen
abbrev pub Sees : Type 1
Sees = Content → List Look → List Item → List Seen → Type 0

-- The looks have seen what stood in their moments while the schedule was taken, step by step, over these disks: each that isn't open shows the
-- cell that the serial order has at its `at`, the least number of items for that from its begin to its end. Over strict disks the plan and
-- the looks alone fix the items and what is seen.
abbrev pub SeesOver : {D : Type 0} → Ghosts D → Bool → List (ℕ × D) → List (ℕ × D) → Sees
SeesOver port strict before after = λ plan looks items seens.
    HasRunWithLooks port plan looks items seens before after × (IsTrue strict → AreSeenStrictly plan looks items seens)

-- ---- the text that is due

-- the report of a plan as `run` gives it, and after it the lines of the looks
pub record ReportsLooks (over : Over) (sees : Sees) (plan : Content) (looks : List Look) (text : List ℕ) : Type 0 where
  pub report : List ℕ
  pub reports : Reports over plan report
  pub seens : List Seen
  pub saw : sees plan looks reports.items seens
  pub prints : text ≡ report ++ seens_text seens

-- how the run of a plan with looks ends: with its report, or with the line of the limit that ends it
abbrev pub LooksEnd : Over → Sees → Content → List Look → Status → List ℕ → Type 0
LooksEnd over sees plan looks Done text = ReportsLooks over sees plan looks text
LooksEnd over sees plan looks Limit text = TellsLimit over plan text
LooksEnd over sees plan looks No text = ⊥
LooksEnd over sees plan looks Usage text = ⊥
LooksEnd over sees plan looks ReadFault text = ⊥
LooksEnd over sees plan looks WriteFault text = ⊥
LooksEnd over sees plan looks BadInput text = ⊥
LooksEnd over sees plan looks OutOfMemory text = ⊥

-- the plan and the looks that a document says end so
pub record EndsWithLooks (over : Over) (sees : Sees) (bytes : List ℕ) (status : Status) (text : List ℕ) : Type 0 where
  pub plan : Content
  pub looks : List Look
  pub says : MeansLooks bytes plan looks
  pub ends : LooksEnd over sees plan looks status text

-- the line of the refusal of a document, with its cause
pub record IsLooksRefusal (bytes text : List ℕ) : Type 0 where
  pub kind : PlanKind
  pub path : List ℕ
  pub detail : ℕ
  pub at : ℕ
  pub cause : IsLooksCause bytes (Bad kind path detail at)
  pub prints : text ≡ line (refusal_text kind path detail at)

-- the status and the text of the command on a document
abbrev pub IsGlanceDue : Over → Sees → List ℕ → Status → List ℕ → Type 0
IsGlanceDue over sees bytes Done text = (length bytes ≤ document_limit) × EndsWithLooks over sees bytes Done text
IsGlanceDue over sees bytes BadInput text = (length bytes ≤ document_limit) × IsLooksRefusal bytes text
IsGlanceDue over sees bytes Limit text = IsTooLong bytes text ⊎ ((length bytes ≤ document_limit) × EndsWithLooks over sees bytes Limit text)
IsGlanceDue over sees bytes No text = ⊥
IsGlanceDue over sees bytes Usage text = ⊥
IsGlanceDue over sees bytes ReadFault text = ⊥
IsGlanceDue over sees bytes WriteFault text = ⊥
IsGlanceDue over sees bytes OutOfMemory text = ⊥

-- the bytes are a document with looks that breaks no rule
abbrev pub HasLooks : List ℕ → Type 0
HasLooks bytes = (plan : Content) × (looks : List Look) × MeansLooks bytes plan looks

-- on such bytes the looks are taken, unless memory runs out, or the run meets a limit
abbrev pub LooksOn : List ℕ → Status → Type 0
LooksOn bytes status = HasLooks bytes → IsDone Run status

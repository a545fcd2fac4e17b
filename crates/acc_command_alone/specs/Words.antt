-- The lines of words that are built.
use Rattle.std.specs.Prelude.{◌≡◌, ◌⊎◌, ℕ, ◌-◌, ◌^◌, List, [], ◌∷◌, codes, Option, Some, None}
use Rattle.acc_command_alone.specs.Number.{SpellsIn, value_of}
use Rattle.acc_command_alone.specs.declared.words.Command.{Command}
use Rattle.acc_command_alone.specs.declared.words.Command.TheVariants.{Run, Check}
use Rattle.acc_command_alone.specs.declared.words.Numbers.{Numbers}
use Rattle.acc_command_alone.specs.declared.words.Line.{Line}
use Rattle.acc_command_alone.specs.declared.words.Line.TheVariants.{Document, Heal, Leave, Resume, Audit, Glance, Generate}

abbrev pub IsRunLine : List (List ℕ) → Type 0
IsRunLine words = words ≡ codes "run" ∷ []

abbrev pub IsCheckLine : List (List ℕ) → Type 0
IsCheckLine words = words ≡ codes "check" ∷ []

abbrev pub IsHealLine : List (List ℕ) → Type 0
IsHealLine words = words ≡ codes "heal" ∷ []

abbrev pub IsLeaveLine : List (List ℕ) → Type 0
IsLeaveLine words = words ≡ codes "leave" ∷ []

abbrev pub IsResumeLine : List (List ℕ) → Type 0
IsResumeLine words = words ≡ codes "resume" ∷ []

abbrev pub IsAuditLine : List (List ℕ) → Type 0
IsAuditLine words = words ≡ codes "audit" ∷ []

abbrev pub IsGlanceLine : List (List ℕ) → Type 0
IsGlanceLine words = words ≡ codes "glance" ∷ []

-- the command runs a document without looks and journals, step by step
abbrev pub IsSteppedLine : List (List ℕ) → Type 0
IsSteppedLine words = (IsRunLine words ⊎ IsHealLine words) ⊎ IsLeaveLine words

-- it takes disks for a run, and asks for no threads
abbrev pub UsesDisksAlone : List (List ℕ) → Type 0
UsesDisksAlone words = IsSteppedLine words ⊎ IsGlanceLine words

-- the command reads a document without looks, with journals or without
abbrev pub IsPlanLine : List (List ℕ) → Type 0
IsPlanLine words = (((IsRunLine words ⊎ IsCheckLine words) ⊎ IsHealLine words) ⊎ IsLeaveLine words) ⊎ IsResumeLine words

-- or one with looks, or a case
abbrev pub IsDocumentLine : List (List ℕ) → Type 0
IsDocumentLine words = (IsPlanLine words ⊎ IsAuditLine words) ⊎ IsGlanceLine words

-- the words make a document of this seed, with so many transactions
pub record IsGenerateLine (words : List (List ℕ)) (seed txns : ℕ) : Type 0 where
  pub seed_word : List ℕ
  pub txns_word : List ℕ
  pub words_are : words ≡ codes "gen" ∷ codes "--seed" ∷ seed_word ∷ codes "--txns" ∷ txns_word ∷ []
  pub seed_spelled : SpellsIn 0 (2 ^ 64 - 1) seed_word
  pub seed_is : seed ≡ value_of seed_word
  pub txns_spelled : SpellsIn 1 2000 txns_word
  pub txns_is : txns ≡ value_of txns_word

-- they make some document
abbrev pub MakesDocument : List (List ℕ) → Type 0
MakesDocument words = (seed : ℕ) × (txns : ℕ) × IsGenerateLine words seed txns

-- a line that asks for no threads
abbrev pub IsLineAlone : List (List ℕ) → Type 0
IsLineAlone words = IsDocumentLine words ⊎ MakesDocument words

-- the words share a document among so many workers
pub record IsFreeLine (words : List (List ℕ)) (workers : ℕ) : Type 0 where
  pub workers_word : List ℕ
  pub words_are : words ≡ codes "free" ∷ codes "--workers" ∷ workers_word ∷ []
  pub spelled : SpellsIn 1 16 workers_word
  pub workers_is : workers ≡ value_of workers_word

-- among some workers
abbrev pub AsksForWorkers : List (List ℕ) → Type 0
AsksForWorkers words = (workers : ℕ) × IsFreeLine words workers

-- a line that is built
abbrev pub IsLine : List (List ℕ) → Type 0
IsLine words = IsLineAlone words ⊎ AsksForWorkers words

-- the words read a document, or a case
abbrev pub ReadsDocument : List (List ℕ) → Type 0
ReadsDocument words = IsDocumentLine words ⊎ AsksForWorkers words

-- they run one without looks and journals
abbrev pub RunsDocument : List (List ℕ) → Type 0
RunsDocument words = IsSteppedLine words ⊎ AsksForWorkers words

-- they take disks for a run
abbrev pub UsesDisks : List (List ℕ) → Type 0
UsesDisks words = UsesDisksAlone words ⊎ AsksForWorkers words

-- the workers of the words, where they ask for some
abbrev pub IsWorkersOf : List (List ℕ) → Option ℕ → Type 0
IsWorkersOf words (Some workers) = IsFreeLine words workers
IsWorkersOf words None = ¬ (AsksForWorkers words)

-- the command of the words, where it is one of these
abbrev pub IsDocumentLineOf : List (List ℕ) → Option Command → Type 0
IsDocumentLineOf words (Some Run) = IsRunLine words
IsDocumentLineOf words (Some Check) = IsCheckLine words
IsDocumentLineOf words None = ¬ (IsRunLine words ⊎ IsCheckLine words)

-- the numbers of the words, where they make a document
abbrev pub IsNumbersOf : List (List ℕ) → Option Numbers → Type 0
IsNumbersOf words (Some numbers) = IsGenerateLine words numbers.seed numbers.txns
IsNumbersOf words None = ¬ (MakesDocument words)

-- the line that the words are
abbrev pub IsLineOf : List (List ℕ) → Option Line → Type 0
IsLineOf words (Some (Document Run)) = IsRunLine words
IsLineOf words (Some (Document Check)) = IsCheckLine words
IsLineOf words (Some Heal) = IsHealLine words
IsLineOf words (Some Leave) = IsLeaveLine words
IsLineOf words (Some Resume) = IsResumeLine words
IsLineOf words (Some Audit) = IsAuditLine words
IsLineOf words (Some Glance) = IsGlanceLine words
IsLineOf words (Some (Generate numbers)) = IsGenerateLine words numbers.seed numbers.txns
IsLineOf words None = ¬ (IsLineAlone words)

-- Journals of payloads of one kind. `May before x` says that x may stand after these.
use Rattle.std.specs.Prelude.{◌≡◌, ℕ, ◌+◌, Bool, not, ◌==◌, ◌&&◌, ◌||◌, List, [], ◌∷◌, ◌++◌, length, map, if◌then◌else◌}
use Rattle.acc_journal.specs.declared.error.JournalError.{JournalError}
use Rattle.acc_journal.specs.declared.error.JournalError.TheVariants.{DiskFault, BadVersion, BadRecord, OutOfMemory}
use Rattle.acc_journal.specs.Layout.{records}
use Rattle.acc_payloads.specs.Spelling.{mark_bytes}

-- each may stand after those before it
abbrev pub EachMay : {A : Type 0} → (List A → A → Type 0) → List A → List A → Type 0
EachMay May before [] = Unit {0}
EachMay May before (x ∷ xs) = May before x × EachMay May (before ++ x ∷ []) xs

-- the payloads are a journal of these
pub record IsJournalOf {A : Type 0} (bytes : A → List ℕ) (May : List A → A → Type 0) (payloads : List (List ℕ)) (items : List A) : Type 0 where
  pub spelled : payloads ≡ map bytes items
  pub each : EachMay May [] items

-- After a journal stands a payload that nothing spells which may stand there; its gate stands at this place.
pub record IsBadRecord {A : Type 0} (bytes : A → List ℕ) (May : List A → A → Type 0) (payloads : List (List ℕ)) (place : ℕ) : Type 0 where
  pub before : List A
  pub payload : List ℕ
  pub behind : List (List ℕ)
  pub whole : payloads ≡ map bytes before ++ payload ∷ behind
  pub each : EachMay May [] before
  pub bad : (x : A) → payload ≡ bytes x → May before x → ⊥
  pub at : place ≡ 1 + length (records (map bytes before))

-- payloads that could be read are refused so
abbrev pub IsRefusedAs : {A : Type 0} → (A → List ℕ) → (List A → A → Type 0) → List (List ℕ) → JournalError → Type 0
IsRefusedAs bytes May payloads DiskFault = ⊥
IsRefusedAs bytes May payloads (BadVersion version) = ⊥
IsRefusedAs bytes May payloads (BadRecord place) = IsBadRecord bytes May payloads place
IsRefusedAs bytes May payloads OutOfMemory = Unit {0}

-- a mark is known to version 2 alone, and none stands before it
abbrev pub may_mark : ℕ → Bool → Bool
may_mark version marked = (version == 2) && not marked

-- what an actor of this version appends with a payload: a mark in front of it, where the journal has none and the version is 2
abbrev pub appended : ℕ → Bool → List ℕ → List (List ℕ)
appended version marked payload = if may_mark version marked then mark_bytes ∷ payload ∷ [] else payload ∷ []

-- whether there is a mark then
abbrev pub marked_after : ℕ → Bool → Bool
marked_after version marked = marked || version == 2

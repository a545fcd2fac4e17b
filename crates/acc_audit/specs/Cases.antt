-- A case: transactions with names and texts, and a report that is judged against them.
--     case_fault d      the first rule of cases that the data of one breaks
--     MeansCase bytes names bodies lines      the bytes are a case that breaks no rule, and this is what it says
--     IsCaseCause bytes error      why bytes are refused so
--     IsDueOn bytes judgement      the bytes are a case, of which this is said
use Rattle.std.specs.Prelude.{◌≡◌, ◌⊎◌, ℕ, ◌-◌, ◌≤◌, List, [], ◌∷◌, length, Some, None, Result, Ok, Err, IsUtf8, codes, take}
use Rattle.serde_json.specs.Data.{Data}
use Rattle.serde_json.specs.Read.{read}
use Rattle.acc_base.specs.Faults.{◌then◌, must, each}
use Rattle.acc_txn.specs.declared.parts.BodyParts.{BodyParts}
use Rattle.acc_schedule.specs.declared.error.PlanKind.TheVariants.{Shape, Report}
use Rattle.acc_schedule.specs.declared.error.PlanError.{PlanError}
use Rattle.acc_schedule.specs.declared.error.PlanError.TheVariants.{Bad, OutOfMemory}
use Rattle.acc_schedule.specs.Document.{version_fault, IsNoJson}
use Rattle.acc_schedule.specs.Faults.{Fault, bad}
use Rattle.acc_schedule.specs.Fields.{field, is_text, items, list_fault, number, object_fault, text}
use Rattle.acc_schedule.specs.Paths.{Path, field_path, item_path, part_path, path_text}
use Rattle.acc_schedule.specs.Transactions.{bodies_of, body_fault, name_fault, names_of}
use Rattle.acc_report_line.specs.declared.line.Line.{Line}
use Rattle.acc_report_reader.specs.Report.{IsFaultyAt, IsReport}
use Rattle.acc_audit.specs.declared.cases.Case.{Case}
use Rattle.acc_audit.specs.declared.judgement.Judgement.{Judgement}
use Rattle.acc_audit.specs.declared.judgement.Judgement.TheVariants.{Yes, No}
use Rattle.acc_audit.specs.Rules.{IsFirstFault, KeepsRules}

-- ---- the rules

abbrev pub txns : Data → Data
txns = field (codes "txns")

abbrev pub version_of : Data → ℕ
version_of d = number (field (codes "version") d)

-- a transaction has a name, which none before it has, and a text
abbrev pub transaction_fault : ℕ → List (List ℕ) → ℕ → Data → Fault
transaction_fault version before place d =
    object_fault (codes "name" ∷ codes "text" ∷ []) [] (item_path (codes "txns") place) d
    then name_fault before (part_path (codes "txns") place (codes "name")) (field (codes "name") d)
    then body_fault version (part_path (codes "txns") place (codes "text")) (field (codes "text") d)

abbrev pub transactions_fault : ℕ → Data → Fault
transactions_fault version d =
    list_fault 10000 (field_path (codes "txns")) d
    then each (λ place. transaction_fault version (take place (names_of d)) place) 0 (items d)

abbrev pub report_path : Path
report_path = field_path (codes "report")

-- the rules, from top to bottom
abbrev pub case_fault : Data → Fault
case_fault d =
    object_fault (codes "report" ∷ codes "txns" ∷ codes "version" ∷ []) [] [] d
    then version_fault (field (codes "version") d)
    then transactions_fault (version_of d) (txns d)
    then must (is_text (field (codes "report") d)) (bad Shape report_path)

-- ---- what data say

abbrev pub report_of : Data → List ℕ
report_of d = text (field (codes "report") d)

-- the data of a case that breaks no rule, and what it says
pub record SaysCase (d : Data) (names : List (List ℕ)) (bodies : List BodyParts) (lines : List Line) : Type 0 where
  pub keeps_rules : case_fault d ≡ None
  pub says_names : names ≡ names_of (txns d)
  pub says_bodies : bodies ≡ bodies_of (version_of d) (txns d)
  pub says_lines : IsReport (report_of d) lines

-- the refusal of a report whose line of this number has no form
abbrev pub no_report : ℕ → PlanError
no_report number = Bad Report (path_text report_path) 1 number

-- a line of the bytes has no form, and this says so
pub record IsUnreadable (bytes : List ℕ) (error : PlanError) : Type 0 where
  pub number : ℕ
  pub faulty : IsFaultyAt bytes number
  pub says : error ≡ no_report number

-- the data break this rule first, or they break none, and a line of their report has no form
abbrev pub BreaksCase : Data → PlanError → Type 0
BreaksCase d error = (case_fault d ≡ Some error) ⊎ ((case_fault d ≡ None) × IsUnreadable (report_of d) error)

-- why data are refused so. Want of memory has no cause in them
abbrev pub IsCauseIn : Data → PlanError → Type 0
IsCauseIn d OutOfMemory = Unit {0}
IsCauseIn d (Bad kind path detail at) = BreaksCase d (Bad kind path detail at)

-- ---- what bytes say

-- the bytes are a case that breaks no rule, and this is what it says
pub record MeansCase (bytes : List ℕ) (names : List (List ℕ)) (bodies : List BodyParts) (lines : List Line) : Type 0 where
  pub utf8 : IsUtf8 bytes
  pub json : Data
  pub reads : read bytes ≡ Some json
  pub says : SaysCase json names bodies lines

-- the bytes are JSON of a case that is refused so
pub record IsNoCase (bytes : List ℕ) (error : PlanError) : Type 0 where
  pub utf8 : IsUtf8 bytes
  pub json : Data
  pub reads : read bytes ≡ Some json
  pub breaks : BreaksCase json error

-- why bytes are refused so. Want of memory has no cause in them
abbrev pub IsCaseCause : List ℕ → PlanError → Type 0
IsCaseCause bytes OutOfMemory = Unit {0}
IsCaseCause bytes (Bad kind path detail at) = IsNoJson bytes (Bad kind path detail at) ⊎ IsNoCase bytes (Bad kind path detail at)

-- ---- what is answered

-- these lines, or that one has no form, or want of memory
abbrev pub GivesLines : List ℕ → Result (List Line) PlanError → Type 0
GivesLines bytes (Ok lines) = IsReport bytes lines
GivesLines bytes (Err OutOfMemory) = Unit {0}
GivesLines bytes (Err (Bad kind path detail at)) = IsUnreadable bytes (Bad kind path detail at)

-- a case, or why the data are none, or want of memory
abbrev pub GivesCase : Data → Result Case PlanError → Type 0
GivesCase d (Ok said) = SaysCase d said.names said.bodies said.lines
GivesCase d (Err error) = IsCauseIn d error

-- what a case says, unless memory ran out
abbrev pub IsReadCase : List (List ℕ) → List BodyParts → List Line → Result Case PlanError → Type 0
IsReadCase names bodies lines (Ok said) = (said.names ≡ names) × (said.bodies ≡ bodies) × (said.lines ≡ lines)
IsReadCase names bodies lines (Err (Bad kind path detail at)) = ⊥
IsReadCase names bodies lines (Err OutOfMemory) = Unit {0}

-- ---- what is said of a case

abbrev pub IsJudged : Judgement → List (List ℕ) → List BodyParts → List Line → Type 0
IsJudged (Yes count) names bodies lines = KeepsRules names bodies lines × (count ≡ length lines)
IsJudged (No line rule) names bodies lines = (1 ≤ line) × IsFirstFault names bodies lines (line - 1) rule

-- the data are those of a case, of which this is said
pub record IsDueIn (d : Data) (judgement : Judgement) : Type 0 where
  pub names : List (List ℕ)
  pub bodies : List BodyParts
  pub lines : List Line
  pub says : SaysCase d names bodies lines
  pub judged : IsJudged judgement names bodies lines

-- the bytes are a case, of which this is said
pub record IsDueOn (bytes : List ℕ) (judgement : Judgement) : Type 0 where
  pub names : List (List ℕ)
  pub bodies : List BodyParts
  pub lines : List Line
  pub means : MeansCase bytes names bodies lines
  pub judged : IsJudged judgement names bodies lines

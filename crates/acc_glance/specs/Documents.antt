-- Documents with looks: that of a run with one more field.
--     looks_document_fault d      the first rule that the data of one breaks
--     MeansLooks bytes plan looks      the bytes are such a document that breaks no rule, and this is what it says
--     AreInTime plan looks      each look begins before a step of the plan or after the last one
--     IsLooksCause bytes error      why bytes are refused so
use Rattle.std.specs.Prelude.{◌≡◌, ◌≤◌, ◌⊎◌, ℕ, List, [], ◌∷◌, length, map, Some, None, Result, Ok, Err, IsUtf8, codes, is_some}
use Rattle.std.specs.List.{AllByRecursion}
use Rattle.serde_json.specs.Data.{Data}
use Rattle.serde_json.specs.Find.{get}
use Rattle.serde_json.specs.Read.{read}
use Rattle.acc_base.specs.Faults.{◌then◌, must, each}
use Rattle.acc_txn.specs.Words.{is_name, is_key_text}
use Rattle.acc_schedule.specs.declared.error.PlanKind.TheVariants.{Shape, Limit}
use Rattle.acc_schedule.specs.declared.error.PlanError.{PlanError}
use Rattle.acc_schedule.specs.declared.error.PlanError.TheVariants.{Bad, OutOfMemory}
use Rattle.acc_schedule.specs.Apart.{without}
use Rattle.acc_schedule.specs.Content.{Content}
use Rattle.acc_schedule.specs.Document.{document_fault, plan_of, IsNoJson}
use Rattle.acc_schedule.specs.Faults.{Fault, bad}
use Rattle.acc_schedule.specs.Fields.{field, is_text, items, list_fault, number, number_fault, object_fault, text}
use Rattle.acc_schedule.specs.Paths.{field_path, item_path, part_path}
use Rattle.acc_glance.specs.declared.looks.Look.{Look}

-- ---- the rules

abbrev pub glances : List ℕ
glances = codes "glances"

-- the root has the field, an array of at most 1,000
abbrev pub listed_fault : Data → Fault
listed_fault d =
    must (is_some (get glances d)) (bad Shape [])
    then list_fault 1000 (field_path glances) (field glances d)

abbrev pub at_fault : ℕ → ℕ → Data → Fault
at_fault steps place d = number_fault 0 steps (part_path glances place (codes "at")) (field (codes "at") d)

-- the table is a text, a name in small letters that isn't reserved
abbrev pub table_fault : ℕ → Data → Fault
table_fault place d =
    must (is_text (field (codes "table") d)) (bad Shape (part_path glances place (codes "table")))
    then must (is_name (text (field (codes "table") d))) (bad Shape (part_path glances place (codes "table")))

-- the key is a text of 1 to 64 bytes
abbrev pub key_fault : ℕ → Data → Fault
key_fault place d =
    must (is_text (field (codes "key") d)) (bad Shape (part_path glances place (codes "key")))
    then must (is_key_text (text (field (codes "key") d))) (bad Limit (part_path glances place (codes "key")))

-- a look, where there are so many steps
abbrev pub look_fault : ℕ → ℕ → Data → Fault
look_fault steps place d =
    object_fault (codes "at" ∷ codes "table" ∷ codes "key" ∷ []) [] (item_path glances place) d
    then at_fault steps place d
    then table_fault place d
    then key_fault place d

-- the document without the field
abbrev pub run_in : Data → Data
run_in d = without glances d

abbrev pub plan_in : Data → Content
plan_in d = plan_of (run_in d)

-- the rules, from top to bottom
abbrev pub looks_document_fault : Data → Fault
looks_document_fault d =
    listed_fault d
    then document_fault (run_in d)
    then each (look_fault (length (plan_in d).steps)) 0 (items (field glances d))

-- ---- what data say

abbrev pub table_of : Data → List ℕ
table_of d = text (field (codes "table") d)

abbrev pub key_of : Data → List ℕ
key_of d = text (field (codes "key") d)

abbrev pub look_of : Data → Look
look_of d = record { at = number (field (codes "at") d); key = record { table = table_of d; key = key_of d } }

abbrev pub looks_in : Data → List Look
looks_in d = map look_of (items (field glances d))

-- each of these looks begins in the moment before a step of the plan, or in the first one after the last step
abbrev pub AreInTime : Content → List Look → Type 0
AreInTime plan looks = AllByRecursion (λ look. look.at ≤ length plan.steps) looks

-- ---- what bytes say

-- the bytes are a document that breaks no rule, and this is the plan and the looks that they say
pub record MeansLooks (bytes : List ℕ) (plan : Content) (looks : List Look) : Type 0 where
  pub utf8 : IsUtf8 bytes
  pub json : Data
  pub reads : read bytes ≡ Some json
  pub keeps_rules : looks_document_fault json ≡ None
  pub says_plan : plan ≡ plan_in json
  pub says_looks : looks ≡ looks_in json

-- the bytes are JSON, and this is the first rule that they break
pub record BreaksLooks (bytes : List ℕ) (error : PlanError) : Type 0 where
  pub utf8 : IsUtf8 bytes
  pub json : Data
  pub reads : read bytes ≡ Some json
  pub first : looks_document_fault json ≡ Some error

-- why bytes are refused so. Want of memory has no cause in them
abbrev pub IsLooksCause : List ℕ → PlanError → Type 0
IsLooksCause bytes OutOfMemory = Unit {0}
IsLooksCause bytes (Bad kind path detail at) = IsNoJson bytes (Bad kind path detail at) ⊎ BreaksLooks bytes (Bad kind path detail at)

-- what a document with looks says, unless memory ran out
abbrev pub AreReadLooks : Content → List Look → Result (Content × List Look) PlanError → Type 0
AreReadLooks plan looks (Ok said) = (said.0 ≡ plan) × (said.1 ≡ looks)
AreReadLooks plan looks (Err (Bad kind path detail at)) = ⊥
AreReadLooks plan looks (Err OutOfMemory) = Unit {0}

-- The lines that are written.
use Rattle.std.specs.Prelude.{◌≡◌, ℕ, List, [], ◌∷◌, ◌++◌, length, codes, decimal}
use Rattle.acc_message.specs.declared.error.Which.{Which}
use Rattle.acc_message.specs.declared.error.Which.TheVariants.{Document, Items, Bytes}
use Rattle.acc_schedule.specs.declared.error.PlanKind.{PlanKind}
use Rattle.acc_schedule.specs.declared.error.PlanKind.TheVariants.{Json, Shape, Limit, Topology, Text, Name, Step, Unbuilt, Journal, Report}
use Rattle.acc_schedule.specs.declared.error.PlanError.{PlanError}
use Rattle.acc_schedule.specs.declared.error.PlanError.TheVariants.{Bad, OutOfMemory}
use Rattle.acc_schedule.specs.Content.{Content as Plan}

-- a text with a line feed after it
abbrev pub line : List ℕ → List ℕ
line text = text ++ 10 ∷ []

abbrev pub usage_text : List ℕ
usage_text = codes "usage: accord run | check | free --workers W | gen --seed N --txns M | heal | leave | resume | audit | glance"

-- ---- limits

abbrev pub document_limit_text : List ℕ
document_limit_text = codes "limit document 16777216"

abbrev pub quantity_text : Which → List ℕ
quantity_text Document = codes "document"
quantity_text Items = codes "items"
quantity_text Bytes = codes "bytes"

-- a run would pass this number of the quantity
abbrev pub run_limit_text : Which → ℕ → List ℕ
run_limit_text which number = codes "limit " ++ quantity_text which ++ codes " " ++ decimal number

-- ---- a refused document

abbrev pub number_of : PlanKind → ℕ
number_of Json = 1
number_of Shape = 2
number_of Limit = 3
number_of Topology = 4
number_of Text = 5
number_of Name = 6
number_of Step = 7
number_of Unbuilt = 8
number_of Journal = 9
number_of Report = 10

abbrev pub place_text : ℕ → ℕ → List ℕ
place_text detail at = codes " " ++ decimal detail ++ codes " at " ++ decimal at

-- what stands after the path
abbrev pub detail_text : PlanKind → ℕ → ℕ → List ℕ
detail_text Topology detail at = codes " " ++ decimal detail
detail_text Text detail at = place_text detail at
detail_text Journal detail at = place_text detail at
detail_text Report detail at = place_text detail at
detail_text _ detail at = []

abbrev pub refusal_text : PlanKind → List ℕ → ℕ → ℕ → List ℕ
refusal_text kind path detail at = codes "bad " ++ decimal (number_of kind) ++ codes " " ++ path ++ detail_text kind detail at

-- the line of this refusal; want of memory has none
abbrev pub IsRefusalOf : PlanError → List ℕ → Type 0
IsRefusalOf (Bad kind path detail at) text = text ≡ line (refusal_text kind path detail at)
IsRefusalOf OutOfMemory text = ⊥

-- ---- an accepted document

abbrev pub ok_text : Plan → List ℕ
ok_text plan =
    codes "ok nodes=" ++ decimal (length plan.starts) ++ codes " shards=" ++ decimal (length plan.topology.shards) ++ codes " txns="
    ++ decimal (length plan.names) ++ codes " steps=" ++ decimal (length plan.steps)

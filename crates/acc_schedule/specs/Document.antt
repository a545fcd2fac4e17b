-- A cluster document: the first rule that it breaks, and the plan that it says.
use Rattle.std.specs.Prelude.{◌≡◌, ◌⊎◌, ℕ, ◌||◌, List, [], ◌∷◌, Bool, Option, Some, None, Result, Ok, Err, IsSome, IsUtf8, codes, unwrap_or, if◌then◌else◌, ⊤}
use Rattle.std.specs.Str.{bytes_eq}
use Rattle.serde_json.specs.Data.{Data, string}
use Rattle.serde_json.specs.Find.{get}
use Rattle.serde_json.specs.Read.{read}
use Rattle.acc_topology.specs.Layout.{Layout}
use Rattle.acc_topology.specs.Faults.{given_layout}
use Rattle.acc_topology.specs.Sets.{is_among}
use Rattle.acc_schedule.specs.declared.error.PlanKind.TheVariants.{Json, Shape}
use Rattle.acc_schedule.specs.declared.error.PlanError.{PlanError}
use Rattle.acc_schedule.specs.declared.error.PlanError.TheVariants.{Bad, OutOfMemory}
use Rattle.acc_schedule.specs.Content.{Content}
use Rattle.acc_schedule.specs.declared.plan.Print.{Print}
use Rattle.acc_schedule.specs.declared.plan.Print.TheVariants.{Lines, Summary}
use Rattle.acc_schedule.specs.Paths.{field_path}
use Rattle.acc_base.specs.Faults.{◌then◌, must}
use Rattle.acc_schedule.specs.Faults.{Fault, fault, bad}
use Rattle.acc_schedule.specs.Fields.{field, is_number_from_to, number, object_fault, text}
use Rattle.acc_schedule.specs.Nodes.{nodes_fault, nodes_of}
use Rattle.acc_schedule.specs.Shards.{shards_fault, shards_of}
use Rattle.acc_schedule.specs.Cluster.{cluster_fault}
use Rattle.acc_schedule.specs.Transactions.{bodies_of, homes_of, names_of, transactions_fault}
use Rattle.acc_schedule.specs.Steps.{Cast, cast_in, schedule_fault, steps_of}

-- ---- parts of a document

abbrev pub nodes : Data → Data
nodes = field (codes "nodes")

abbrev pub shards : Data → Data
shards = field (codes "shards")

abbrev pub txns : Data → Data
txns = field (codes "txns")

abbrev pub schedule : Data → Data
schedule = field (codes "schedule")

-- what is printed; lines where nothing is said
abbrev pub printed : Option Data → Data
printed said = unwrap_or said (string (codes "lines"))

-- the fields of the root
pub record Root : Type 0 where
  pub version : Data
  pub nodes : Data
  pub shards : Data
  pub txns : Data
  pub schedule : Data
  pub print : Data

abbrev pub root_of : Data → Option Data → Root
root_of d print = record {
  version = field (codes "version") d;
  nodes = nodes d;
  shards = shards d;
  txns = txns d;
  schedule = schedule d;
  print = printed print;
}

-- the transactions, which may stand apart from the root
abbrev pub txns_with : Data → Option Data → Data
txns_with d apart = unwrap_or apart (txns d)

-- the fields of a root, with those transactions
abbrev pub root_with : Data → Option Data → Option Data → Root
root_with d apart print = record {
  version = field (codes "version") d;
  nodes = nodes d;
  shards = shards d;
  txns = txns_with d apart;
  schedule = schedule d;
  print = printed print;
}

-- the version of the document
abbrev pub version_of : Root → ℕ
version_of r = number r.version

-- the cluster that its nodes and shards make
abbrev pub layout_of : Root → Layout
layout_of r = given_layout (nodes_of r.nodes) (shards_of r.shards)

abbrev pub is_node_of : Root → ℕ → Bool
is_node_of r = is_among (layout_of r).nodes

-- what its steps may speak of
abbrev pub cast_of : Root → Cast
cast_of r = cast_in (names_of r.txns) (layout_of r)

-- ---- the rules

abbrev pub needed_fields : List (List ℕ)
needed_fields = codes "version" ∷ codes "nodes" ∷ codes "shards" ∷ codes "txns" ∷ codes "schedule" ∷ []

abbrev pub root_fault : Data → Fault
root_fault d = object_fault needed_fields (codes "print" ∷ []) [] d

abbrev pub version_fault : Data → Fault
version_fault d = must (is_number_from_to 1 2 d) (bad Shape (field_path (codes "version")))

abbrev pub is_lines : Data → Bool
is_lines d = bytes_eq (text d) (codes "lines")

abbrev pub is_summary : Data → Bool
is_summary d = bytes_eq (text d) (codes "summary")

abbrev pub print_fault : Data → Fault
print_fault d = must (is_lines d || is_summary d) (bad Shape (field_path (codes "print")))

abbrev pub base_fault : Root → Fault
base_fault r =
    nodes_fault r.nodes then shards_fault r.shards then cluster_fault (nodes_of r.nodes) (shards_of r.shards)

-- the rules of a document, from top to bottom: that its root has the fields that it must have, and what these must be
abbrev pub fields_fault : Root → Fault
fields_fault r =
    version_fault r.version
    then base_fault r
    then transactions_fault (version_of r) (is_node_of r) r.txns
    then schedule_fault (cast_of r) r.schedule
    then print_fault r.print

abbrev pub document_fault : Data → Fault
document_fault d = root_fault d then fields_fault (root_of d (get (codes "print") d))

-- ---- what it says

abbrev pub print_of : Data → Print
print_of d = if is_summary d then Summary else Lines

abbrev pub plan_in : Root → Content
plan_in r = record {
  version = version_of r;
  topology = layout_of r;
  starts = nodes_of r.nodes;
  names = names_of r.txns;
  homes = homes_of r.txns;
  bodies = bodies_of (version_of r) r.txns;
  steps = steps_of (cast_of r) r.schedule;
  print = print_of r.print;
}

abbrev pub plan_of : Data → Content
plan_of d = plan_in (root_of d (get (codes "print") d))

-- ---- bytes

-- the bytes are JSON, in UTF-8 and at most 127 levels deep
abbrev pub IsJson : List ℕ → Type 0
IsJson bytes = IsUtf8 bytes × IsSome (read bytes)

-- the bytes are JSON with this data
pub record Reads (bytes : List ℕ) (json : Data) : Type 0 where
  pub utf8 : IsUtf8 bytes
  pub reads : read bytes ≡ Some json

-- the bytes are a document that breaks no rule, and this is the plan that they say
pub record Means (bytes : List ℕ) (plan : Content) : Type 0 where
  pub utf8 : IsUtf8 bytes
  pub json : Data
  pub reads : read bytes ≡ Some json
  pub keeps_rules : document_fault json ≡ None
  pub says : plan ≡ plan_of json

-- the bytes are JSON, and this is the first rule that they break
pub record Breaks (bytes : List ℕ) (error : PlanError) : Type 0 where
  pub utf8 : IsUtf8 bytes
  pub json : Data
  pub reads : read bytes ≡ Some json
  pub first : document_fault json ≡ Some error

-- the bytes aren't JSON, and this says so
pub record IsNoJson (bytes : List ℕ) (error : PlanError) : Type 0 where
  pub broken : ¬ (IsJson bytes)
  pub says : fault Json [] ≡ Some error

-- why bytes give no data. Want of memory has no cause in them
abbrev pub IsUnread : List ℕ → PlanError → Type 0
IsUnread bytes OutOfMemory = Unit {0}
IsUnread bytes (Bad kind path detail at) = IsNoJson bytes (Bad kind path detail at)

-- why a document is refused so. Want of memory has no cause in the document
abbrev pub IsCause : List ℕ → PlanError → Type 0
IsCause bytes OutOfMemory = Unit {0}
IsCause bytes (Bad kind path detail at) = IsNoJson bytes (Bad kind path detail at) ⊎ Breaks bytes (Bad kind path detail at)

-- ---- what is answered

-- this value, unless memory ran out
abbrev pub IsRead : {T : Type 0} → T → Result T PlanError → Type 0
IsRead value (Ok other) = other ≡ value
IsRead value (Err (Bad kind path detail at)) = ⊥
IsRead value (Err OutOfMemory) = ⊤

-- this refusal, unless memory ran out, which isn't the document's doing
abbrev pub IsRefused : {T : Type 0} → PlanError → Result T PlanError → Type 0
IsRefused (Bad kind path detail at) (Ok value) = ⊥
IsRefused (Bad kind path detail at) (Err (Bad kind' path' detail' at')) = Bad kind' path' detail' at' ≡ Bad kind path detail at
IsRefused (Bad kind path detail at) (Err OutOfMemory) = ⊤
IsRefused OutOfMemory result = ⊤

-- The nodes of a document, and where their clocks start.
use Rattle.std.specs.Prelude.{ℕ, List, [], ◌∷◌, map, codes, unwrap_or}
use Rattle.serde_json.specs.Data.{Data, number as number_data, unsigned}
use Rattle.serde_json.specs.Find.{get}
use Rattle.acc_topology.specs.declared.given.NodeSpec.{NodeSpec}
use Rattle.acc_schedule.specs.Paths.{field_path, item_path, part_path}
use Rattle.acc_base.specs.Faults.{◌then◌, each}
use Rattle.acc_schedule.specs.Faults.{Fault}
use Rattle.acc_schedule.specs.Fields.{field, items, list_fault, number, number_fault, object_fault}

-- the clock of a node, which starts at 0 where none is given
abbrev pub clock : Data → Data
clock d = unwrap_or (get (codes "clock") d) (number_data (unsigned 0))

abbrev pub clock_fault : ℕ → Data → Fault
clock_fault place d = number_fault 0 1000000000000 (part_path (codes "nodes") place (codes "clock")) (clock d)

abbrev pub node_fault : ℕ → Data → Fault
node_fault place d =
    object_fault (codes "id" ∷ []) (codes "clock" ∷ []) (item_path (codes "nodes") place) d
    then number_fault 1 15 (part_path (codes "nodes") place (codes "id")) (field (codes "id") d)
    then clock_fault place d

abbrev pub nodes_fault : Data → Fault
nodes_fault d = list_fault 15 (field_path (codes "nodes")) d then each node_fault 0 (items d)

-- ---- what they say

abbrev pub node_of : Data → NodeSpec
node_of d = record { id = number (field (codes "id") d); clock = number (clock d) }

abbrev pub nodes_of : Data → List NodeSpec
nodes_of d = map node_of (items d)

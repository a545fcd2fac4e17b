-- The shards of a document.
use Rattle.std.specs.Prelude.{ℕ, ◌||◌, List, [], ◌∷◌, length, map, Bool, true, codes, Option, Some, None, is_some, nat_le, option_map, unwrap_or, if◌then◌else◌}
use Rattle.std.specs.List.{list_all}
use Rattle.serde_json.specs.Data.{Data}
use Rattle.serde_json.specs.Find.{as_null, as_str, get}
use Rattle.acc_topology.specs.declared.given.ShardSpec.{ShardSpec}
use Rattle.acc_schedule.specs.declared.error.PlanKind.TheVariants.{Shape, Limit}
use Rattle.acc_schedule.specs.Paths.{Path, field_path, item_path, part_path}
use Rattle.acc_base.specs.Faults.{◌then◌, must, each}
use Rattle.acc_schedule.specs.Faults.{Fault, bad}
use Rattle.acc_schedule.specs.Fields.{field, is_array, is_from_to, is_number_from_to, is_text, is_whole, items, list_fault, number, object_fault}

-- no end, or one of 1 to 64 bytes
abbrev pub is_end : Option (List ℕ) → Bool
is_end end = unwrap_or (option_map (λ bytes. is_from_to 1 64 (length bytes)) end) true

abbrev pub end_fault : Path → Data → Fault
end_fault path d =
    must (is_some (as_null d) || is_text d) (bad Shape path) then must (is_end (as_str d)) (bad Limit path)

-- whole numbers, few of them; the topology tells which of them are nodes
abbrev pub ids_fault : Path → Data → Fault
ids_fault path d =
    must (is_array d) (bad Shape path)
    then must (list_all is_whole (items d)) (bad Shape path)
    then must (nat_le (length (items d)) 15) (bad Limit path)

-- an electorate need not be there
abbrev pub electorate_fault : Path → Option Data → Fault
electorate_fault path None = None
electorate_fault path (Some d) = ids_fault path d

abbrev pub shard_fault : ℕ → Data → Fault
shard_fault place d =
    object_fault (codes "end" ∷ codes "replicas" ∷ []) (codes "electorate" ∷ []) (item_path (codes "shards") place) d
    then end_fault (part_path (codes "shards") place (codes "end")) (field (codes "end") d)
    then ids_fault (part_path (codes "shards") place (codes "replicas")) (field (codes "replicas") d)
    then electorate_fault (part_path (codes "shards") place (codes "electorate")) (get (codes "electorate") d)

abbrev pub shards_fault : Data → Fault
shards_fault d = list_fault 15 (field_path (codes "shards")) d then each shard_fault 0 (items d)

-- ---- what they say

-- the number of a node. No node has the number 0, so it stands for every number that no node can have
abbrev pub id_of : Data → ℕ
id_of d = if is_number_from_to 1 15 d then number d else 0

abbrev pub ids_of : Data → List ℕ
ids_of d = map id_of (items d)

abbrev pub shard_of : Data → ShardSpec
shard_of d = record {
  end = as_str (field (codes "end") d);
  replicas = ids_of (field (codes "replicas") d);
  electorate = option_map ids_of (get (codes "electorate") d);
}

abbrev pub shards_of : Data → List ShardSpec
shards_of d = map shard_of (items d)

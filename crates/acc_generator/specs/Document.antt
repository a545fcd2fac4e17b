-- A generated document: three nodes, three shards on all of them, and transactions whose texts follow from the seed.
use Rattle.std.specs.Prelude.{ℕ, ◌+◌, ◌%◌, ◌==◌, if◌then◌else◌, List, [], ◌∷◌, ◌++◌, codes, decimal, flat_map, map}
use Rattle.std.specs.List.{range_with_len}
use Rattle.serde_json.specs.Data.{Data, null, number as number_data, unsigned, string, array, object, no_members, member}
use Rattle.serde_json.specs.View.{items_of}
use Rattle.serde_json.specs.Written.{compact_text}
use Rattle.acc_generator.specs.Texts.{text_of}

-- ---- parts

abbrev pub whole : ℕ → Data
whole n = number_data (unsigned n)

abbrev pub list : List Data → Data
list items = array (items_of items)

-- ---- the cluster

abbrev pub node : ℕ → Data
node id = object (member (codes "id") (whole id) no_members)

unfoldable pub nodes : Data
nodes = list (node 1 ∷ node 2 ∷ node 3 ∷ [])

-- a shard on all nodes
abbrev pub shard : Data → Data
shard end = object (member (codes "end") end (member (codes "replicas") (list (whole 1 ∷ whole 2 ∷ whole 3 ∷ [])) no_members))

unfoldable pub shards : Data
shards = list (shard (string (codes "k21")) ∷ shard (string (codes "k42")) ∷ shard null ∷ [])

-- ---- transactions

-- those of a document, from 0 on
abbrev pub numbers : ℕ → List ℕ
numbers count = range_with_len 0 count

unfoldable pub name_of : ℕ → List ℕ
name_of number = codes "t" ++ decimal number

-- the nodes in turn
abbrev pub home_of : ℕ → ℕ
home_of number = 1 + number % 3

unfoldable pub transaction_with : ℕ → List ℕ → Data
transaction_with number text =
    object (member (codes "name") (string (name_of number)) (member (codes "node") (whole (home_of number)) (member (codes "text") (string text) no_members)))

abbrev pub transaction : ℕ → ℕ → Data
transaction seed number = transaction_with number (text_of seed number)

-- ---- the schedule

unfoldable pub begin : ℕ → Data
begin number = list (string (codes "begin") ∷ string (name_of number) ∷ [])

unfoldable pub drain : Data
drain = list (string (codes "drain") ∷ [])

-- a transaction begins, and each sixteenth is drained
unfoldable pub steps_at : ℕ → List Data
steps_at number = if number % 16 == 15 then begin number ∷ drain ∷ [] else begin number ∷ []

abbrev pub schedule : ℕ → List Data
schedule count = flat_map steps_at (numbers count) ++ drain ∷ []

-- ---- the whole

-- the fields stand in the order of their bytes
abbrev pub document : ℕ → ℕ → Data
document seed count = object (
    member (codes "nodes") nodes (
    member (codes "print") (string (codes "summary")) (
    member (codes "schedule") (list (schedule count)) (
    member (codes "shards") shards (
    member (codes "txns") (list (map (transaction seed) (numbers count))) (
    member (codes "version") (whole 1) no_members))))))

abbrev pub document_text : ℕ → ℕ → List ℕ
document_text seed count = compact_text (document seed count) ++ codes "\n"

-- Each rule's fault is of a kind of its own, and none says that the document can't be run.
use Rattle.std.proofs.Common.{ℕ, ◌+◌, List, [], ◌∷◌, ◌++◌, take, Bool, true, false, Option, Some, None, Result, Ok, Err, IfErr, IsTrue, codes, refl, subst}
use Rattle.serde_json.specs.Data.{Data}
use Rattle.serde_json.specs.Find.{get}
use Rattle.acc_topology.specs.declared.error.TopologyError.{TopologyError}
use Rattle.acc_topology.specs.declared.error.TopologyError.TheVariants.{Wrong, OutOfMemory as NoMemory}
use Rattle.acc_topology.specs.declared.error.TopologyKind.{TopologyKind}
use Rattle.acc_topology.specs.declared.given.NodeSpec.{NodeSpec}
use Rattle.acc_topology.specs.declared.given.ShardSpec.{ShardSpec}
use Rattle.acc_topology.specs.Faults.{nodes_fault as topology_nodes_fault, shards_fault as topology_shards_fault, ids}
use Rattle.acc_topology.specs.Sets.{is_among}
use Rattle.acc_lang.specs.declared.error.LangKind.{LangKind}
use Rattle.acc_lang.specs.Reading.{reading_fault}
use Rattle.acc_schedule.specs.declared.error.PlanKind.{PlanKind}
use Rattle.acc_schedule.specs.declared.error.PlanKind.TheVariants.{Json, Shape, Limit, Name, Step}
use Rattle.acc_schedule.specs.declared.error.PlanError.{PlanError}
use Rattle.acc_schedule.specs.declared.error.PlanError.TheVariants.{Bad, OutOfMemory}
use Rattle.acc_schedule.specs.declared.words.Word.{Word}
use Rattle.acc_schedule.specs.declared.words.Word.TheVariants.{Begin, Deliver, Drop, Recover, Slow, Restart, Fail, Drain}
use Rattle.acc_schedule.specs.Paths.{Path, field_path, item_path, part_path}
use Rattle.acc_base.specs.Faults.{◌then◌, each, must}
use Rattle.acc_schedule.specs.Faults.{bad, Fault, Gives, is_of_rules, IsFault, IsOfRule}
use Rattle.acc_schedule.specs.Fields.{field, items, list_fault, number_fault, object_fault, other_fault, other_field, text}
use Rattle.acc_schedule.specs.Nodes.{clock, node_fault as node_rule, nodes_fault}
use Rattle.acc_schedule.specs.Shards.{electorate_fault, end_fault, ids_fault, shard_fault, shards_fault, shards_of}
use Rattle.acc_schedule.specs.Nodes.{nodes_of}
use Rattle.acc_schedule.specs.Cluster.{cluster_fault, node_path, placed, shard_path}
use Rattle.acc_schedule.specs.Texts.{at_path, has_texts}
use Rattle.acc_schedule.specs.Transactions.{body_fault, home_fault, name_fault, names_of, transaction_fault, transactions_fault}
use Rattle.acc_schedule.specs.Steps.{Cast, actor_fault, count_fault, node_fault, form_fault, name_fault as begun_fault, no_item, no_step_fault, one_item, operand_path, operands_in, schedule_fault, step_fault, two_items, word_in}
use Rattle.acc_schedule.specs.Document.{base_fault, cast_of, document_fault, fields_fault, is_node_of, needed_fields, Root, root_fault, root_of, version_fault, version_of}

-- the fault, where there is one, is of a rule
AreOfRule : Fault → Type 0
AreOfRule None = Unit {0}
AreOfRule (Some error) = IsOfRule error

-- ---- how rules are put together

both : (f g : Fault) → AreOfRule f → AreOfRule g → AreOfRule (f then g)
unfolding AreOfRule
both None g a b = b
both (Some error) g a b = a

tested : (test : Bool) (kind : PlanKind) (path : Path) → IsTrue (is_of_rules kind) → AreOfRule (must test (bad kind path))
unfolding AreOfRule
tested true kind path h = tt
tested false kind path h = h

all : {A : Type 0} (rule : ℕ → A → Fault) → ((place : ℕ) (x : A) → AreOfRule (rule place x)) → (place : ℕ) (xs : List A) → AreOfRule (each rule place xs)
unfolding AreOfRule
all rule h place [] = tt
all rule h place (x ∷ xs) = both (rule place x) (each rule (place + 1) xs) (h place x) (all rule h (place + 1) xs)

shape : (test : Bool) (path : Path) → AreOfRule (must test (bad Shape path))
shape test path = tested test Shape path refl

limit : (test : Bool) (path : Path) → AreOfRule (must test (bad Limit path))
limit test path = tested test Limit path refl

named : (test : Bool) (path : Path) → AreOfRule (must test (bad Name path))
named test path = tested test Name path refl

stepped : (test : Bool) (path : Path) → AreOfRule (must test (bad Step path))
stepped test path = tested test Step path refl

-- ---- values, lists and objects

number_rule : (least most : ℕ) (path : Path) (d : Data) → AreOfRule (number_fault least most path d)
number_rule least most path d = both _ _ (shape _ path) (limit _ path)

list_rule : (most : ℕ) (path : Path) (d : Data) → AreOfRule (list_fault most path d)
list_rule most path d = both _ _ (shape _ path) (limit _ path)

other_rule : (path : Path) (name : Option (List ℕ)) → AreOfRule (other_fault path name)
unfolding AreOfRule
other_rule path None = tt
other_rule path (Some name) = refl

object_rule : (needed optional : List (List ℕ)) (path : Path) (d : Data) → AreOfRule (object_fault needed optional path d)
object_rule needed optional path d = both _ _ (both _ _ (shape _ path) (shape _ path)) (other_rule path (other_field (needed ++ optional) d))

-- ---- nodes and shards

one_node : (place : ℕ) (x : Data) → AreOfRule (node_rule place x)
one_node place x = both _ _
    (both _ _ (object_rule (codes "id" ∷ []) (codes "clock" ∷ []) (item_path (codes "nodes") place) x) (number_rule 1 15 (part_path (codes "nodes") place (codes "id")) (field (codes "id") x)))
    (number_rule 0 1000000000000 (part_path (codes "nodes") place (codes "clock")) (clock x))

nodes_rule : (d : Data) → AreOfRule (nodes_fault d)
nodes_rule d = both _ _ (list_rule 15 (field_path (codes "nodes")) d) (all node_rule one_node 0 (items d))

end_rule : (path : Path) (d : Data) → AreOfRule (end_fault path d)
end_rule path d = both _ _ (shape _ path) (limit _ path)

ids_rule : (path : Path) (d : Data) → AreOfRule (ids_fault path d)
ids_rule path d = both _ _ (both _ _ (shape _ path) (shape _ path)) (limit _ path)

electorate_rule : (path : Path) (d : Option Data) → AreOfRule (electorate_fault path d)
unfolding AreOfRule
electorate_rule path None = tt
electorate_rule path (Some d) = ids_rule path d

one_shard : (place : ℕ) (x : Data) → AreOfRule (shard_fault place x)
one_shard place x = both _ _
    (both _ _
    (both _ _ (object_rule (codes "end" ∷ codes "replicas" ∷ []) (codes "electorate" ∷ []) (item_path (codes "shards") place) x) (end_rule (part_path (codes "shards") place (codes "end")) (field (codes "end") x)))
    (ids_rule (part_path (codes "shards") place (codes "replicas")) (field (codes "replicas") x)))
    (electorate_rule (part_path (codes "shards") place (codes "electorate")) (get (codes "electorate") x))

shards_rule : (d : Data) → AreOfRule (shards_fault d)
shards_rule d = both _ _ (list_rule 15 (field_path (codes "shards")) d) (all shard_fault one_shard 0 (items d))

placed_rule : (path : TopologyKind → ℕ → ℕ → Path) (error : Option TopologyError) → AreOfRule (placed path error)
unfolding AreOfRule
placed_rule path None = tt
placed_rule path (Some NoMemory) = tt
placed_rule path (Some (Wrong kind shard item)) = refl

root_rule : (d : Data) → AreOfRule (root_fault d)
root_rule d = object_rule needed_fields (codes "print" ∷ []) [] d

version_rule : (d : Data) → AreOfRule (version_fault d)
version_rule d = shape _ (field_path (codes "version"))

cluster_rule : (ns : List NodeSpec) (ss : List ShardSpec) → AreOfRule (cluster_fault ns ss)
cluster_rule ns ss = both _ _ (placed_rule node_path (topology_nodes_fault ns)) (placed_rule shard_path (topology_shards_fault (is_among (ids ns)) ss))

base_rule : (r : Root) → AreOfRule (base_fault r)
base_rule r = both _ _ (both _ _ (nodes_rule r.nodes) (shards_rule r.shards)) (cluster_rule (nodes_of r.nodes) (shards_of r.shards))

-- ---- transactions

text_rule : (path : Path) (fault : Option (LangKind × ℕ)) → AreOfRule (at_path path fault)
unfolding AreOfRule
text_rule path None = tt
text_rule path (Some fault) = refl

name_rule : (earlier : List (List ℕ)) (path : Path) (d : Data) → AreOfRule (name_fault earlier path d)
name_rule earlier path d = both _ _ (shape _ path) (named _ path)

home_rule : (is_node : ℕ → Bool) (path : Path) (d : Data) → AreOfRule (home_fault is_node path d)
home_rule is_node path d = both _ _ (shape _ path) (named _ path)

body_rule : (version : ℕ) (path : Path) (d : Data) → AreOfRule (body_fault version path d)
body_rule version path d = both _ _ (both _ _ (shape _ path) (limit _ path)) (text_rule path (reading_fault (has_texts version) (text d)))

one_transaction : (version : ℕ) (is_node : ℕ → Bool) (earlier : List (List ℕ)) (place : ℕ) (x : Data) → AreOfRule (transaction_fault version is_node earlier place x)
one_transaction version is_node earlier place x = both _ _
    (both _ _
    (both _ _ (object_rule (codes "name" ∷ codes "node" ∷ codes "text" ∷ []) [] (item_path (codes "txns") place) x) (name_rule earlier (part_path (codes "txns") place (codes "name")) (field (codes "name") x)))
    (home_rule is_node (part_path (codes "txns") place (codes "node")) (field (codes "node") x)))
    (body_rule version (part_path (codes "txns") place (codes "text")) (field (codes "text") x))

transactions_rule : (version : ℕ) (is_node : ℕ → Bool) (d : Data) → AreOfRule (transactions_fault version is_node d)
transactions_rule version is_node d = both _ _ (list_rule 10000 (field_path (codes "txns")) d)
    (all (λ place. transaction_fault version is_node (take place (names_of d)) place) (λ place x. one_transaction version is_node (take place (names_of d)) place x) 0 (items d))

-- ---- steps

known_rule : (cast : Cast) (path : Path) (d : Data) → AreOfRule (begun_fault cast path d)
known_rule cast path d = both _ _ (stepped _ path) (named _ path)

actor_rule : (cast : Cast) (path : Path) (d : Data) → AreOfRule (actor_fault cast path d)
actor_rule cast path d = both _ _ (stepped _ path) (named _ path)

placed_node : (cast : Cast) (path : Path) (d : Data) → AreOfRule (node_fault cast path d)
placed_node cast path d = both _ _ (stepped _ path) (named _ path)

counted : (most : ℕ) (path : Path) (d : Data) → AreOfRule (count_fault most path d)
counted most path d = stepped _ path

no_step : (place : ℕ) → AreOfRule (no_step_fault place)
unfolding AreOfRule
no_step place = refl

alone : (place : ℕ) (ds : List Data) → AreOfRule (no_item (no_step_fault place) ds)
unfolding AreOfRule
alone place [] = tt
alone place (a ∷ ds) = no_step place

with_one : (rule : Data → Fault) (place : ℕ) → ((a : Data) → AreOfRule (rule a)) → (ds : List Data) → AreOfRule (one_item rule (no_step_fault place) ds)
with_one rule place h [] = no_step place
with_one rule place h (a ∷ []) = h a
with_one rule place h (a ∷ b ∷ ds) = no_step place

with_two : (rule : Data → Data → Fault) (place : ℕ) → ((a b : Data) → AreOfRule (rule a b)) → (ds : List Data) → AreOfRule (two_items rule (no_step_fault place) ds)
with_two rule place h [] = no_step place
with_two rule place h (a ∷ []) = no_step place
with_two rule place h (a ∷ b ∷ []) = h a b
with_two rule place h (a ∷ b ∷ c ∷ ds) = no_step place

step_rule : (cast : Cast) (place : ℕ) (word : Option Word) (ds : List Data) → AreOfRule (form_fault cast place word ds)
step_rule cast place (Some Begin) ds = with_one _ place (λ a. known_rule cast (operand_path place 1) a) ds
step_rule cast place (Some Deliver) ds = with_one _ place (λ a. stepped _ (operand_path place 1)) ds
step_rule cast place (Some Drop) ds = with_one _ place (λ a. stepped _ (operand_path place 1)) ds
step_rule cast place (Some Recover) ds = with_two _ place (λ a b. both _ _ (known_rule cast (operand_path place 1) a) (placed_node cast (operand_path place 2) b)) ds
step_rule cast place (Some Slow) ds = with_one _ place (λ a. known_rule cast (operand_path place 1) a) ds
step_rule cast place (Some Restart) ds = with_two _ place (λ a b. both _ _ (actor_rule cast (operand_path place 1) a) (counted 255 (operand_path place 2) b)) ds
step_rule cast place (Some Fail) ds = with_two _ place (λ a b. both _ _ (actor_rule cast (operand_path place 1) a) (counted 1000000 (operand_path place 2) b)) ds
step_rule cast place (Some Drain) ds = alone place ds
step_rule cast place None ds = no_step place

schedule_rule : (cast : Cast) (d : Data) → AreOfRule (schedule_fault cast d)
schedule_rule cast d = both _ _ (list_rule 200000 (field_path (codes "schedule")) d)
    (all (step_fault cast) (λ place x. step_rule cast place (word_in (items x)) (operands_in (items x))) 0 (items d))

-- ---- the whole

fields_rule : (r : Root) → AreOfRule (fields_fault r)
fields_rule r = both _ _
    (both _ _ (both _ _ (both _ _ (version_rule r.version) (base_rule r)) (transactions_rule (version_of r) (is_node_of r) r.txns)) (schedule_rule (cast_of r) r.schedule))
    (shape _ (field_path (codes "print")))

document_rule : (d : Data) → AreOfRule (document_fault d)
document_rule d = both _ _ (root_rule d) (fields_rule (root_of d (get (codes "print") d)))

of_rule : (f : Fault) (error : PlanError) → AreOfRule f → IsFault f error → IsOfRule error
unfolding AreOfRule
of_rule f OutOfMemory rules h = tt
of_rule f (Bad kind path detail at) rules h = subst AreOfRule h rules

-- what is answered where the rules are those of a document
pub given_of_rule : {X : Type 0} (d : Data) (P : X → Type 0) (r : Result X PlanError) → Gives (document_fault d) P r → IfErr r IsOfRule
given_of_rule d P (Ok x) h = tt
given_of_rule d P (Err error) h = of_rule (document_fault d) error (document_rule d) h

-- and where they are those of its fields
pub fields_of_rule : {X : Type 0} (root : Root) (P : X → Type 0) (r : Result X PlanError) → Gives (fields_fault root) P r → IfErr r IsOfRule
fields_of_rule root P (Ok x) h = tt
fields_of_rule root P (Err error) h = of_rule (fields_fault root) error (fields_rule root) h

pub json_of_rule : (error : PlanError) (path : Path) → IsFault (must false (bad Json path)) error → IsOfRule error
json_of_rule error path h = of_rule (must false (bad Json path)) error (tested false Json path refl) h

-- The steps of a document's schedule.
use Rattle.std.specs.Prelude.{ℕ, List, [], ◌∷◌, map, position, Bool, codes, decimal, Option, Some, None, is_some, unwrap_or, option_and_then}
use Rattle.std.specs.Str.{bytes_eq}
use Rattle.serde_json.specs.Data.{Data, null}
use Rattle.serde_json.specs.Find.{as_str}
use Rattle.acc_stamp.specs.declared.actors.Actor.{Actor}
use Rattle.acc_stamp.specs.Actor.{actor_of}
use Rattle.acc_schedule.specs.declared.error.PlanKind.TheVariants.{Name, Step as StepKind}
use Rattle.acc_schedule.specs.declared.plan.Step.{Step}
use Rattle.acc_schedule.specs.declared.plan.Step.TheVariants.{Begin, Deliver, Drop, Recover, Slow, Restart, Fail, Drain}
use Rattle.acc_schedule.specs.declared.words.Word.{Word}
use Rattle.acc_schedule.specs.declared.words.Word.TheVariants.{Begin as BeginWord, Deliver as DeliverWord, Drop as DropWord, Recover as RecoverWord, Slow as SlowWord, Restart as RestartWord, Fail as FailWord, Drain as DrainWord}
use Rattle.acc_schedule.specs.Paths.{Path, field_path, item_path}
use Rattle.acc_base.specs.Faults.{◌then◌, must, each}
use Rattle.acc_schedule.specs.Faults.{Fault, fault, bad}
use Rattle.acc_schedule.specs.Fields.{is_number_from_to, is_text, is_whole, items, list_fault, natural, number}
use Rattle.acc_topology.specs.Layout.{Layout}
use Rattle.acc_topology.specs.Sets.{is_among}
use Rattle.acc_schedule.specs.Actors.{actor_named, actors}
use Rattle.acc_schedule.specs.Transactions.{is_one_of}
use Rattle.acc_schedule.specs.Words.{word_of}

-- what the steps of a schedule may speak of: transactions by their names, nodes, and actors by how they print
pub record Cast : Type 0 where
  pub names : List (List ℕ)
  pub is_node : ℕ → Bool
  pub actor : List ℕ → Option Actor

-- the transactions of these names, and the nodes and stores of a cluster
abbrev pub cast_in : List (List ℕ) → Layout → Cast
cast_in names layout = record { names = names; is_node = is_among layout.nodes; actor = actor_named (actors layout) }

-- ---- the items of a step after its word

-- the transaction of a name
abbrev pub transaction_in : Cast → Data → Option ℕ
transaction_in cast d = option_and_then (λ name. position (bytes_eq name) cast.names) (as_str d)

abbrev pub actor_in : Cast → Data → Option Actor
actor_in cast d = option_and_then cast.actor (as_str d)

-- where the item of this number stands
abbrev pub operand_path : ℕ → ℕ → Path
operand_path place item = codes "schedule" ∷ decimal place ∷ decimal item ∷ []

-- the text of something that there is
abbrev pub known_fault : Bool → Path → Data → Fault
known_fault is_known path d = must (is_text d) (bad StepKind path) then must is_known (bad Name path)

abbrev pub name_fault : Cast → Path → Data → Fault
name_fault cast path d = known_fault (is_some (transaction_in cast d)) path d

abbrev pub actor_fault : Cast → Path → Data → Fault
actor_fault cast path d = known_fault (is_some (actor_in cast d)) path d

abbrev pub node_fault : Cast → Path → Data → Fault
node_fault cast path d = must (is_whole d) (bad StepKind path) then must (is_one_of cast.is_node d) (bad Name path)

-- the number of a message, which is any that isn't negative
abbrev pub message_fault : Path → Data → Fault
message_fault path d = must (is_some (natural d)) (bad StepKind path)

abbrev pub count_fault : ℕ → Path → Data → Fault
count_fault most path d = must (is_number_from_to 0 most d) (bad StepKind path)

-- ---- steps

abbrev pub no_step_fault : ℕ → Fault
no_step_fault place = fault StepKind (item_path (codes "schedule") place)

-- no item, one and two, with a rule for them; else the other fault
abbrev pub no_item : Fault → List Data → Fault
no_item other [] = None
no_item other (a ∷ rest) = other

abbrev pub one_item : (Data → Fault) → Fault → List Data → Fault
one_item rule other [] = other
one_item rule other (a ∷ []) = rule a
one_item rule other (a ∷ b ∷ rest) = other

abbrev pub two_items : (Data → Data → Fault) → Fault → List Data → Fault
two_items rule other [] = other
two_items rule other (a ∷ []) = other
two_items rule other (a ∷ b ∷ []) = rule a b
two_items rule other (a ∷ b ∷ c ∷ rest) = other

-- each word takes so many items, each of which has its own rule
abbrev pub form_fault : Cast → ℕ → Option Word → List Data → Fault
form_fault cast place (Some BeginWord) = one_item (λ name. name_fault cast (operand_path place 1) name) (no_step_fault place)
form_fault cast place (Some DeliverWord) = one_item (λ number. message_fault (operand_path place 1) number) (no_step_fault place)
form_fault cast place (Some DropWord) = one_item (λ number. message_fault (operand_path place 1) number) (no_step_fault place)
form_fault cast place (Some RecoverWord) =
    two_items (λ name node. name_fault cast (operand_path place 1) name then node_fault cast (operand_path place 2) node) (no_step_fault place)
form_fault cast place (Some SlowWord) = one_item (λ name. name_fault cast (operand_path place 1) name) (no_step_fault place)
form_fault cast place (Some RestartWord) =
    two_items (λ actor choice. actor_fault cast (operand_path place 1) actor then count_fault 255 (operand_path place 2) choice) (no_step_fault place)
form_fault cast place (Some FailWord) =
    two_items (λ actor calls. actor_fault cast (operand_path place 1) actor then count_fault 1000000 (operand_path place 2) calls) (no_step_fault place)
form_fault cast place (Some DrainWord) = no_item (no_step_fault place)
form_fault cast place None = λ items. no_step_fault place

-- the word of a step, and the items after it
abbrev pub word_in : List Data → Option Word
word_in [] = None
word_in (word ∷ operands) = option_and_then word_of (as_str word)

abbrev pub operands_in : List Data → List Data
operands_in [] = []
operands_in (word ∷ operands) = operands

abbrev pub step_fault : Cast → ℕ → Data → Fault
step_fault cast place d = form_fault cast place (word_in (items d)) (operands_in (items d))

abbrev pub schedule_fault : Cast → Data → Fault
schedule_fault cast d = list_fault 200000 (field_path (codes "schedule")) d then each (step_fault cast) 0 (items d)

-- ---- what they say

abbrev pub transaction_of : Cast → Data → ℕ
transaction_of cast d = unwrap_or (transaction_in cast d) 0

abbrev pub actor_at : Cast → Data → Actor
actor_at cast d = unwrap_or (actor_in cast d) (actor_of 0 0)

abbrev pub first_in : List Data → Data
first_in [] = null
first_in (a ∷ rest) = a

abbrev pub second_in : List Data → Data
second_in [] = null
second_in (a ∷ rest) = first_in rest

abbrev pub form_step : Cast → Option Word → List Data → Step
form_step cast (Some BeginWord) items = Begin (transaction_of cast (first_in items))
form_step cast (Some DeliverWord) items = Deliver (number (first_in items))
form_step cast (Some DropWord) items = Drop (number (first_in items))
form_step cast (Some RecoverWord) items = Recover (transaction_of cast (first_in items)) (number (second_in items))
form_step cast (Some SlowWord) items = Slow (transaction_of cast (first_in items))
form_step cast (Some RestartWord) items = Restart (actor_at cast (first_in items)) (number (second_in items))
form_step cast (Some FailWord) items = Fail (actor_at cast (first_in items)) (number (second_in items))
form_step cast (Some DrainWord) items = Drain
form_step cast None items = Drain

abbrev pub step_of : Cast → Data → Step
step_of cast d = form_step cast (word_in (items d)) (operands_in (items d))

abbrev pub steps_of : Cast → Data → List Step
steps_of cast d = map (step_of cast) (items d)

-- What rules that are kept say of the data, and of the steps.
use Rattle.std.proofs.Common.{◌≡◌, ℕ, suc, ◌<◌, ◌≤◌, List, [], ◌∷◌, length, position, Bool, true, false, cond, Option, Some, None, is_some, unwrap_or, option_map, Contains, refl, arith}
use Rattle.std.specs.Option.{option_and_then}
use Rattle.std.specs.Str.{bytes_eq}
use Rattle.std.proofs.lemmas.Bool.{and_parts, leb-true}
use Rattle.std.proofs.lemmas.List.Quantifiers.{position-Some}
use Rattle.serde_json.specs.Data.{Data}
use Rattle.serde_json.specs.Find.{as_str}
use Rattle.acc_stamp.specs.declared.actors.Actor.{Actor}
use Rattle.acc_stamp.specs.Actor.{actor_of}
use Rattle.acc_topology.specs.Layout.{Layout}
use Rattle.acc_topology.specs.Sets.{is_among}
use Rattle.acc_schedule.specs.declared.error.PlanKind.TheVariants.{Name, Step}
use Rattle.acc_schedule.specs.declared.words.Word.{Word}
use Rattle.acc_schedule.specs.declared.words.Word.TheVariants.{Begin as BeginWord, Deliver as DeliverWord, Drop as DropWord, Recover as RecoverWord, Slow as SlowWord, Restart as RestartWord, Fail as FailWord, Drain as DrainWord}
use Rattle.acc_schedule.specs.Paths.{Path}
use Rattle.acc_base.proofs.Faults.{then_none, must_none}
use Rattle.acc_schedule.specs.Faults.{bad}
use Rattle.acc_schedule.specs.Fields.{is_from_to, is_number_from_to, items, natural, number}
use Rattle.acc_schedule.specs.Actors.{actor_named, actor_text, actors}
use Rattle.acc_schedule.specs.Transactions.{is_one_of}
use Rattle.acc_schedule.specs.Steps.{actor_at, actor_fault, cast_in, count_fault, form_fault, form_step, name_fault, node_fault, operand_path, operands_in, step_fault, step_of, transaction_of, word_in}
use Rattle.acc_schedule.specs.Plan.{IsStep}

-- ---- numbers

-- a number within its limits
pub within : (least most : ℕ) (d : Data) → is_number_from_to least most d ≡ true → (least ≤ number d) × (number d ≤ most)
within least most d h = go (natural d) h
  where
    go : (n : Option ℕ) → unwrap_or (option_map (is_from_to least most) n) false ≡ true → (least ≤ unwrap_or n 0) × (unwrap_or n 0 ≤ most)
    go None e = absurd cc
    go (Some n) e = let parts = and_parts _ _ e in (leb-true least n parts.0, leb-true n most parts.1)

pub one_of : (is_node : ℕ → Bool) (d : Data) → is_one_of is_node d ≡ true → is_node (number d) ≡ true
one_of is_node d h = go (natural d) h
  where
    go : (n : Option ℕ) → unwrap_or (option_map is_node n) false ≡ true → is_node (unwrap_or n 0) ≡ true
    go None e = absurd cc
    go (Some n) e = e

-- ---- the items of a step

transaction_known : (names : List (List ℕ)) (layout : Layout) (path : Path) (d : Data) → name_fault (cast_in names layout) path d ≡ None → transaction_of (cast_in names layout) d < length names
transaction_known names layout path d h = go (as_str d) (must_none _ (bad Name path) (then_none _ _ h).1)
  where
    place : (found : Option ℕ) (name : List ℕ) → position (bytes_eq name) names ≡ found → is_some found ≡ true → unwrap_or found 0 < length names
    place None name e t = absurd cc
    place (Some n) name e t = (position-Some (bytes_eq name) names n [] e).0

    go : (text : Option (List ℕ)) → is_some (option_and_then (λ name. position (bytes_eq name) names) text) ≡ true → unwrap_or (option_and_then (λ name. position (bytes_eq name) names) text) 0 < length names
    go None t = absurd cc
    go (Some name) t = place (position (bytes_eq name) names) name refl t

found_step : (x : Actor) (xs : List Actor) (name : List ℕ) (actor : Actor) → (actor_named xs name ≡ Some actor → Contains xs actor) → (b : Bool) → cond b (Some x) (actor_named xs name) ≡ Some actor → Contains (x ∷ xs) actor
found_step x xs name actor later true e = let same : x ≡ actor = cc in (0, omega arith, same)
found_step x xs name actor later false e = let rest = later e in (suc rest.0, omega (arith, rest.1), rest.2)

found_within : (xs : List Actor) (name : List ℕ) (actor : Actor) → actor_named xs name ≡ Some actor → Contains xs actor
found_within [] name actor h = absurd cc
found_within (x ∷ xs) name actor h = found_step x xs name actor (found_within xs name actor) (bytes_eq name (actor_text x)) h

actor_known : (names : List (List ℕ)) (layout : Layout) (path : Path) (d : Data) → actor_fault (cast_in names layout) path d ≡ None → Contains (actors layout) (actor_at (cast_in names layout) d)
actor_known names layout path d h = go (as_str d) (must_none _ (bad Name path) (then_none _ _ h).1)
  where
    place : (found : Option Actor) (name : List ℕ) → actor_named (actors layout) name ≡ found → is_some found ≡ true → Contains (actors layout) (unwrap_or found (actor_of 0 0))
    place None name e t = absurd cc
    place (Some actor) name e t = found_within (actors layout) name actor e

    go : (text : Option (List ℕ)) → is_some (option_and_then (actor_named (actors layout)) text) ≡ true → Contains (actors layout) (unwrap_or (option_and_then (actor_named (actors layout)) text) (actor_of 0 0))
    go None t = absurd cc
    go (Some name) t = place (actor_named (actors layout) name) name refl t

node_known : (names : List (List ℕ)) (layout : Layout) (path : Path) (d : Data) → node_fault (cast_in names layout) path d ≡ None → is_among layout.nodes (number d) ≡ true
node_known names layout path d h = one_of (is_among layout.nodes) d (must_none _ (bad Name path) (then_none _ _ h).1)

count_known : (most : ℕ) (path : Path) (d : Data) → count_fault most path d ≡ None → number d ≤ most
count_known most path d h = (within 0 most d (must_none _ (bad Step path) h)).1

-- ---- steps

form_known : (names : List (List ℕ)) (layout : Layout) (place : ℕ) (word : Option Word) (ds : List Data) → form_fault (cast_in names layout) place word ds ≡ None → IsStep (length names) layout (form_step (cast_in names layout) word ds)
form_known names layout place (Some BeginWord) [] h = absurd cc
form_known names layout place (Some BeginWord) (a ∷ []) h = transaction_known names layout (operand_path place 1) a h
form_known names layout place (Some BeginWord) (a ∷ b ∷ ds) h = absurd cc
form_known names layout place (Some DeliverWord) ds h = tt
form_known names layout place (Some DropWord) ds h = tt
form_known names layout place (Some RecoverWord) [] h = absurd cc
form_known names layout place (Some RecoverWord) (a ∷ []) h = absurd cc
form_known names layout place (Some RecoverWord) (a ∷ b ∷ []) h =
    let parts = then_none (name_fault (cast_in names layout) (operand_path place 1) a) (node_fault (cast_in names layout) (operand_path place 2) b) h in
    (transaction_known names layout (operand_path place 1) a parts.0, node_known names layout (operand_path place 2) b parts.1)
form_known names layout place (Some RecoverWord) (a ∷ b ∷ e ∷ ds) h = absurd cc
form_known names layout place (Some SlowWord) [] h = absurd cc
form_known names layout place (Some SlowWord) (a ∷ []) h = transaction_known names layout (operand_path place 1) a h
form_known names layout place (Some SlowWord) (a ∷ b ∷ ds) h = absurd cc
form_known names layout place (Some RestartWord) [] h = absurd cc
form_known names layout place (Some RestartWord) (a ∷ []) h = absurd cc
form_known names layout place (Some RestartWord) (a ∷ b ∷ []) h =
    let parts = then_none (actor_fault (cast_in names layout) (operand_path place 1) a) (count_fault 255 (operand_path place 2) b) h in
    (actor_known names layout (operand_path place 1) a parts.0, count_known 255 (operand_path place 2) b parts.1)
form_known names layout place (Some RestartWord) (a ∷ b ∷ e ∷ ds) h = absurd cc
form_known names layout place (Some FailWord) [] h = absurd cc
form_known names layout place (Some FailWord) (a ∷ []) h = absurd cc
form_known names layout place (Some FailWord) (a ∷ b ∷ []) h =
    let parts = then_none (actor_fault (cast_in names layout) (operand_path place 1) a) (count_fault 1000000 (operand_path place 2) b) h in
    (actor_known names layout (operand_path place 1) a parts.0, count_known 1000000 (operand_path place 2) b parts.1)
form_known names layout place (Some FailWord) (a ∷ b ∷ e ∷ ds) h = absurd cc
form_known names layout place (Some DrainWord) ds h = tt
form_known names layout place None ds h = tt

pub step_known : (names : List (List ℕ)) (layout : Layout) (place : ℕ) (d : Data) → step_fault (cast_in names layout) place d ≡ None → IsStep (length names) layout (step_of (cast_in names layout) d)
step_known names layout place d h = form_known names layout place (word_in (items d)) (operands_in (items d)) h

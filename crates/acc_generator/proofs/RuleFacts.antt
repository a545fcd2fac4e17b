-- The transactions and the schedule of a generated document break no rule.
use Rattle.std.proofs.Common.{◌≡◌, ℕ, zero, suc, ◌+◌, ◌*◌, ◌%◌, ◌<◌, ◌≤◌, ◌==◌, ◌&&◌, Bool, true, false, cond, List, [], ◌∷◌, ◌++◌, length, flat_map, map, take, codes, nat_le, Some, None, is_some, unwrap_or, position, refl, ap, ap₂, ◌∙◌, arith, le-leb, length-append}
use Rattle.std.specs.List.{range_with_len}
use Rattle.std.specs.Str.{bytes_eq}
use Rattle.std.specs.Result.{result_unwrap_or}
use Rattle.std.proofs.lemmas.List.{map-append}
use Rattle.std.proofs.lemmas.List.FromFn.{length-map-range_with_len, take-map-range_with_len}
use Rattle.serde_json.specs.Data.{Data, string}
use Rattle.serde_json.specs.View.{items_of}
use Rattle.acc_base.specs.Faults.{each, must}
use Rattle.acc_base.proofs.Faults.{both_none, must_kept}
use Rattle.acc_topology.specs.Sets.{is_among}
use Rattle.acc_lang.specs.Reading.{placed, reading_fault}
use Rattle.acc_schedule.specs.declared.error.PlanKind.TheVariants.{Limit}
use Rattle.acc_schedule.specs.declared.plan.Step.{Step}
use Rattle.acc_schedule.specs.declared.plan.Step.TheVariants.{Begin, Drain}
use Rattle.acc_schedule.specs.Faults.{Fault, bad}
use Rattle.acc_schedule.specs.Fields.{items_list, list_fault, object_fault}
use Rattle.acc_schedule.specs.Paths.{field_path, item_path, part_path, Path}
use Rattle.acc_schedule.specs.Steps.{Cast, schedule_fault, step_fault, step_of, steps_of as steps_said, transaction_in}
use Rattle.acc_schedule.specs.Texts.{at_path, no_parts, text_fault}
use Rattle.acc_schedule.specs.Transactions.{bodies_of, body_fault, body_of as body_said, home_fault, home_of as home_said, homes_of, is_name, is_new, name_fault, name_of as name_said, names_of, transaction_fault, transactions_fault}
use Rattle.acc_generator.specs.Bodies.{body_of}
use Rattle.acc_generator.specs.Document.{begin, drain, home_of, list, name_of, numbers, schedule, steps_at, transaction, transaction_with, whole}
use Rattle.acc_generator.specs.Plan.{all_nodes, steps, steps_of}
use Rattle.acc_generator.specs.Texts.{state_before, text_from, text_of}
use Rattle.acc_generator.proofs.BodyFacts.{text_read}
use Rattle.acc_generator.proofs.NameFacts.{name_formed, name_new, name_position}
use Rattle.acc_generator.proofs.PieceFacts.{over_pieces, seen_each, seen_pieces}
use Rattle.acc_generator.proofs.TextFacts.{text_short}

-- ---- lists

listed : (ds : List Data) → items_list (items_of ds) ≡ ds
listed [] = refl
listed (d ∷ ds) = ap (λ es. d ∷ es) (listed ds)

each_made : (rule : ℕ → Data → Fault) (made : ℕ → Data) (a n : ℕ) → ((i : ℕ) → i < a + n → rule i (made i) ≡ None) → each rule a (map made (range_with_len a n)) ≡ None
each_made rule made a zero kept = refl
each_made rule made a (suc n) kept = both_none (rule a (made a)) _ (kept a (omega arith)) (each_made rule made (a + 1) n (λ i lt. kept i (omega arith)))

few_fault : (most : ℕ) (path : Path) (ds : List Data) → length ds ≤ most → list_fault most path (list ds) ≡ None
few_fault most path ds few = must_kept _ _ (ap (λ (es : List Data). nat_le (length es) most) (listed ds) ∙ le-leb (length ds) most few)

-- ---- what a transaction says

module _ (seed : ℕ) where
  said_name : (number : ℕ) → name_said (transaction seed number) ≡ name_of number
  unfolding transaction_with
  said_name number = refl

  said_home : (number : ℕ) → home_said (transaction seed number) ≡ home_of number
  unfolding transaction_with
  said_home number = refl

  said_body : (number : ℕ) → body_said 1 (transaction seed number) ≡ body_of seed number
  unfolding transaction_with
  said_body number = ap (λ r. result_unwrap_or r no_parts) (text_read (state_before seed number) number)

  module _ (count : ℕ) where
    abbrev pub all_transactions : Data
    all_transactions = list (map (transaction seed) (numbers count))

    pub names_are : names_of all_transactions ≡ map name_of (numbers count)
    names_are = ap (map name_said) (listed (map (transaction seed) (numbers count))) ∙ seen_each name_said (transaction seed) name_of said_name (numbers count)

    pub homes_are : homes_of all_transactions ≡ map home_of (numbers count)
    homes_are = ap (map home_said) (listed (map (transaction seed) (numbers count))) ∙ seen_each home_said (transaction seed) home_of said_home (numbers count)

    pub bodies_are : bodies_of 1 all_transactions ≡ map (body_of seed) (numbers count)
    bodies_are = ap (map (body_said 1)) (listed (map (transaction seed) (numbers count))) ∙ seen_each (body_said 1) (transaction seed) (body_of seed) said_body (numbers count)

-- ---- the rules of a transaction

name_kept : (path : Path) (before : List (List ℕ)) (number : ℕ) → number < 2000 → before ≡ map name_of (numbers number) → name_fault before path (string (name_of number)) ≡ None
name_kept path before number few are =
    must_kept (is_name (name_of number) && is_new before (name_of number)) _
    (ap₂ (λ a b. a && b) (name_formed number few) (ap (λ (names : List (List ℕ)). is_new names (name_of number)) are ∙ name_new number few))

pub one_of_three : (n : ℕ) → n < 3 → is_among all_nodes (1 + n) ≡ true
one_of_three zero lt = refl
one_of_three (suc zero) lt = refl
one_of_three (suc (suc zero)) lt = refl
one_of_three (suc (suc (suc n))) lt = absurd (omega arith)

home_kept : (is_node : ℕ → Bool) (path : Path) (number : ℕ) → ((n : ℕ) → is_node n ≡ is_among all_nodes n) → home_fault is_node path (whole (home_of number)) ≡ None
home_kept is_node path number are = must_kept (is_node (home_of number)) _ (are (home_of number) ∙ one_of_three (number % 3) (omega arith))

text_kept : (path : Path) (state number : ℕ) → body_fault 1 path (string (text_from state number)) ≡ None
unfolding reading_fault
text_kept path state number =
    let text = text_from state number in
    both_none (must (nat_le (length text) 8192) (bad Limit path)) (text_fault 1 path text) (must_kept _ _ (le-leb (length text) 8192 (omega (arith, (text_short state number).short))))
    (ap (λ r. at_path path (placed text r)) (text_read state number))

object_kept : (path : Path) (number : ℕ) (text : List ℕ) → object_fault (codes "name" ∷ codes "node" ∷ codes "text" ∷ []) [] path (transaction_with number text) ≡ None
unfolding transaction_with
object_kept path number text = refl

transaction_kept : (is_node : ℕ → Bool) (before : List (List ℕ)) (place seed number : ℕ) → number < 2000 → before ≡ map name_of (numbers number) → ((n : ℕ) → is_node n ≡ is_among all_nodes n)
    → transaction_fault 1 is_node before place (transaction seed number) ≡ None
unfolding transaction_with
transaction_kept is_node before place seed number few are nodes =
    both_none _ (body_fault 1 (part_path (codes "txns") place (codes "text")) (string (text_of seed number)))
    (both_none _ (home_fault is_node (part_path (codes "txns") place (codes "node")) (whole (home_of number)))
    (both_none (object_fault (codes "name" ∷ codes "node" ∷ codes "text" ∷ []) [] (item_path (codes "txns") place) (transaction_with number (text_of seed number)))
    (name_fault before (part_path (codes "txns") place (codes "name")) (string (name_of number)))
    (object_kept (item_path (codes "txns") place) number (text_of seed number))
    (name_kept (part_path (codes "txns") place (codes "name")) before number few are))
    (home_kept is_node (part_path (codes "txns") place (codes "node")) number nodes))
    (text_kept (part_path (codes "txns") place (codes "text")) (state_before seed number) number)

pub transactions_kept : (seed count : ℕ) → count ≤ 2000 → (is_node : ℕ → Bool) → ((n : ℕ) → is_node n ≡ is_among all_nodes n) → transactions_fault 1 is_node (all_transactions seed count) ≡ None
transactions_kept seed count few is_node nodes =
    let made = map (transaction seed) (numbers count) in
    let names = map name_of (numbers count) in
    both_none _ _ (few_fault 10000 (field_path (codes "txns")) made (omega (arith, length-map-range_with_len (transaction seed) 0 count)))
    (ap₂ (λ (ns : List (List ℕ)) (ds : List Data). each (λ place. transaction_fault 1 is_node (take place ns) place) 0 ds) (names_are seed count) (listed made)
    ∙ each_made (λ place. transaction_fault 1 is_node (take place names) place) (transaction seed) 0 count
    (λ i lt. transaction_kept is_node (take i names) i seed i (omega arith) (take-map-range_with_len name_of 0 count i (omega arith)) nodes))

-- ---- the schedule

steps_length : (number : ℕ) → length (steps_at number) ≤ 2
unfolding steps_at
steps_length number = elim (number % 16 == 15) as (λ b. length (cond b (begin number ∷ drain ∷ []) (begin number ∷ [])) ≤ 2) [ true ↦ omega arith | false ↦ omega arith ]

schedule_length : (a n : ℕ) → length (flat_map steps_at (range_with_len a n) ++ drain ∷ []) ≤ 2 * n + 1
schedule_length a zero = omega arith
schedule_length a (suc n) =
    let rest = flat_map steps_at (range_with_len (a + 1) n) in
    omega (arith, schedule_length (a + 1) n, steps_length a, length-append (steps_at a ++ rest) (drain ∷ []), length-append (steps_at a) rest, length-append rest (drain ∷ []))

module _ (cast : Cast) (count : ℕ) (few : count ≤ 2000) (are : cast.names ≡ map name_of (numbers count)) where
  found : (number : ℕ) → number < count → transaction_in cast (string (name_of number)) ≡ Some number
  found number lt = ap (λ (names : List (List ℕ)). position (bytes_eq (name_of number)) names) are ∙ name_position number count lt few

  begin_kept : (place number : ℕ) → number < count → step_fault cast place (begin number) ≡ None
  unfolding begin
  begin_kept place number lt = must_kept (is_some (transaction_in cast (string (name_of number)))) _ (ap is_some (found number lt))

  drain_kept : (place : ℕ) → step_fault cast place drain ≡ None
  unfolding drain
  drain_kept place = refl

  -- the steps break no rule, wherever they stand
  abbrev AreKept : List Data → Type 0
  AreKept ds = (place : ℕ) → each (step_fault cast) place ds ≡ None

  steps_kept : (number : ℕ) (behind : List Data) → number < count → AreKept behind → AreKept (steps_at number ++ behind)
  unfolding steps_at
  steps_kept number behind lt h place =
      elim (number % 16 == 15) as (λ b. each (step_fault cast) place (cond b (begin number ∷ drain ∷ []) (begin number ∷ []) ++ behind) ≡ None) [
        | true ↦ both_none (step_fault cast place (begin number)) _ (begin_kept place number lt) (both_none (step_fault cast (place + 1) drain) _ (drain_kept (place + 1)) (h (place + 1 + 1)))
        | false ↦ both_none (step_fault cast place (begin number)) _ (begin_kept place number lt) (h (place + 1))
      ]

  pub schedule_kept : schedule_fault cast (list (schedule count)) ≡ None
  schedule_kept =
      let ds = schedule count in
      both_none _ _ (few_fault 200000 (field_path (codes "schedule")) ds (omega (arith, schedule_length 0 count)))
      (ap (λ (es : List Data). each (step_fault cast) 0 es) (listed ds)
      ∙ over_pieces AreKept steps_at (drain ∷ []) (λ place. both_none (step_fault cast place drain) None (drain_kept place) refl) 0 count (λ i behind lt h. steps_kept i behind (omega arith) h) 0)

  said_begin : (number : ℕ) → number < count → step_of cast (begin number) ≡ Begin number
  unfolding begin
  said_begin number lt = ap (λ o. Begin (unwrap_or o 0)) (found number lt)

  said_drain : step_of cast drain ≡ Drain
  unfolding drain
  said_drain = refl

  said_steps : (number : ℕ) → number < count → map (step_of cast) (steps_at number) ≡ steps_of number
  unfolding steps_at steps_of
  said_steps number lt =
      elim (number % 16 == 15) as (λ b. map (step_of cast) (cond b (begin number ∷ drain ∷ []) (begin number ∷ [])) ≡ cond b (Begin number ∷ Drain ∷ []) (Begin number ∷ [])) [
        | true ↦ ap₂ (λ s t. s ∷ t ∷ []) (said_begin number lt) said_drain
        | false ↦ ap (λ s. s ∷ []) (said_begin number lt)
      ]

  pub steps_are : steps_said cast (list (schedule count)) ≡ steps count
  steps_are =
      ap (map (step_of cast)) (listed (schedule count))
      ∙ map-append (step_of cast) (flat_map steps_at (numbers count)) (drain ∷ [])
      ∙ ap₂ (λ (s t : List Step). s ++ t) (seen_pieces (step_of cast) steps_at steps_of 0 count (λ i lt. said_steps i (omega arith))) (ap (λ s. s ∷ []) said_drain)

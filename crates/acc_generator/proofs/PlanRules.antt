-- The plan of a generated document keeps the rules of plans.
use Rattle.std.proofs.Common.{◌≡◌, ℕ, zero, suc, ◌+◌, ◌*◌, ◌%◌, ◌<◌, ◌≤◌, ◌==◌, true, false, cond, List, [], ◌∷◌, ◌++◌, length, flat_map, map, take, Option, IsTrue, get_or, refl, sym, ap₂, subst, ◌∙◌, arith, length-append}
use Rattle.std.specs.List.{range_with_len, AllByRecursion}
use Rattle.std.proofs.lemmas.List.FromFn.{length-map-range_with_len, get_or-map-range_with_len, take-map-range_with_len}
use Rattle.acc_topology.specs.Layout.{IsShard, IsLayout}
use Rattle.acc_topology.specs.Sets.{is_among, numbers as set_numbers}
use Rattle.acc_txn.specs.Rules.{IsBody}
use Rattle.acc_lang.specs.Texts.{has_text_value}
use Rattle.acc_schedule.specs.Plan.{IsPlan, IsStep}
use Rattle.acc_schedule.specs.Transactions.{is_name, is_new}
use Rattle.acc_schedule.specs.declared.plan.Step.{Step}
use Rattle.acc_schedule.specs.declared.plan.Step.TheVariants.{Begin, Drain}
use Rattle.acc_generator.specs.Bodies.{body_of}
use Rattle.acc_generator.specs.Document.{home_of, name_of, numbers}
use Rattle.acc_generator.specs.Plan.{all_nodes, cluster, plan, steps, steps_of}
use Rattle.acc_generator.specs.Texts.{state_before}
use Rattle.acc_generator.proofs.BodyFacts.{numbers_alone, rules_kept}
use Rattle.acc_generator.proofs.NameFacts.{name_formed, name_new}
use Rattle.acc_generator.proofs.PieceFacts.{over_pieces}
use Rattle.acc_generator.proofs.RuleFacts.{one_of_three}

-- what holds of what each number makes holds of all that is made
each_of : {X : Type 0} (P : X → Type 0) (made : ℕ → X) (a n : ℕ) → ((i : ℕ) → i < a + n → P (made i)) → AllByRecursion P (map made (range_with_len a n))
each_of P made a zero h = tt
each_of P made a (suc n) h = (h a (omega arith), each_of P made (a + 1) n (λ i lt. h i (omega arith)))

shard_kept : (end : Option (List ℕ)) → IsShard all_nodes (record { end = end; replicas = all_nodes; electorate = all_nodes })
shard_kept end = record { count = refl; replicas = refl; electorate = refl; enough = omega arith }

layout_kept : IsLayout cluster
layout_kept =
    record {
      some_node = omega arith;
      nodes = refl;
      few_shards = omega arith;
      shards = (shard_kept _, (shard_kept _, (shard_kept _, tt)));
      ends = refl;
    }

-- ---- steps

two_steps : (number : ℕ) → length (steps_of number) ≤ 2
unfolding steps_of
two_steps number = elim (number % 16 == 15) as (λ b. length (cond b (Begin number ∷ Drain ∷ []) (Begin number ∷ [])) ≤ 2) [ true ↦ omega arith | false ↦ omega arith ]

steps_length : (a n : ℕ) → length (flat_map steps_of (range_with_len a n)) ≤ 2 * n
steps_length a zero = omega arith
steps_length a (suc n) =
    let rest = flat_map steps_of (range_with_len (a + 1) n) in
    omega (arith, steps_length (a + 1) n, two_steps a, length-append (steps_of a) rest)

step_known : (count number : ℕ) (behind : List Step) → number < count → AllByRecursion (IsStep count cluster) behind
    → AllByRecursion (IsStep count cluster) (steps_of number ++ behind)
unfolding steps_of
step_known count number behind lt h =
    elim (number % 16 == 15) as (λ b. AllByRecursion (IsStep count cluster) (cond b (Begin number ∷ Drain ∷ []) (Begin number ∷ []) ++ behind)) [
      | true ↦ (lt, (tt, h))
      | false ↦ (lt, h)
    ]

steps_known : (count : ℕ) → AllByRecursion (IsStep count cluster) (steps count)
steps_known count = over_pieces (AllByRecursion (IsStep count cluster)) steps_of (Drain ∷ []) (tt, tt) 0 count (λ i behind lt h. step_known count i behind (omega arith) h)

-- ---- the whole

module _ (seed count : ℕ) (few : count ≤ 2000) where
  names_count : length (map name_of (numbers count)) ≡ count
  names_count = length-map-range_with_len name_of 0 count

  name_once : (number : ℕ) → number < length (map name_of (numbers count))
      → is_new (take number (map name_of (numbers count))) (get_or (map name_of (numbers count)) number []) ≡ true
  name_once number lt =
      ap₂ is_new (take-map-range_with_len name_of 0 count number (omega (arith, names_count)))
      (get_or-map-range_with_len name_of 0 count number number [] (omega (arith, names_count)) (omega arith))
      ∙ name_new number (omega (arith, names_count))

  home_known : (number : ℕ) → is_among all_nodes (home_of number) ≡ true
  home_known number = one_of_three (number % 3) (omega arith)

  pub plan_kept : IsPlan (plan seed count)
  unfolding set_numbers
  plan_kept =
      record {
        version = (omega arith, omega arith);
        layout = layout_kept;
        nodes = refl;
        nodes_once = refl;
        ends = (refl, (refl, (refl, tt)));
        clocks = (omega arith, (omega arith, (omega arith, tt)));
        few = omega (arith, names_count);
        homes_as_many = length-map-range_with_len home_of 0 count ∙ sym names_count;
        bodies_as_many = length-map-range_with_len (body_of seed) 0 count ∙ sym names_count;
        bodies = each_of IsBody (body_of seed) 0 count (λ i lt. rules_kept (state_before seed i) i);
        numbers_alone = λ first. each_of (λ body. has_text_value body ≡ false) (body_of seed) 0 count (λ i lt. numbers_alone (state_before seed i) i);
        named = each_of (λ name. IsTrue (is_name name)) name_of 0 count (λ i lt. name_formed i (omega arith));
        names_once = name_once;
        homes_known = each_of (λ home. IsTrue (is_among cluster.nodes home)) home_of 0 count (λ i lt. home_known i);
        few_steps = omega (arith, steps_length 0 count, length-append (flat_map steps_of (numbers count)) (Drain ∷ []));
        steps_known = subst (λ n. AllByRecursion (IsStep n cluster) (steps count)) (sym names_count) (steps_known count);
      }

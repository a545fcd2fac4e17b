-- The numbers and the clocks of the nodes of a plan.
use Rattle.std.proofs.Common.{◌≡◌, ℕ, zero, suc, ◌+◌, ◌≤◌, ◌==◌, Bool, true, false, cond, List, [], ◌∷◌, sym, ◌∙◌, ap, subst, arith, ⊎_elim}
use Rattle.std.proofs.lemmas.Bool.{true≢false, eqb-true, or_cases}
use Rattle.std.specs.List.{AllByRecursion, range_with_len}
use Rattle.acc_topology.specs.Layout.{Layout, IsLayout, node_numbers}
use Rattle.acc_topology.specs.Sets.{is_among}
use Rattle.acc_topology.proofs.Counts.{among_part}
use Rattle.acc_topology.specs.declared.given.NodeSpec.{NodeSpec}
use Rattle.acc_message.specs.Run.{clock_start}
use Rattle.acc_durable_node.specs.Names.{IsNodeName}
use Rattle.acc_schedule.specs.Content.{Content}
use Rattle.acc_schedule.specs.Plan.{IsPlan}
use Rattle.acc_run_laws.proofs.Addresses.{node_low}
use Rattle.acc_actors.specs.Slots.{node_name}

range_above : (n first count : ℕ) → is_among (range_with_len first count) n ≡ true → first ≤ n
range_above n first zero h = absurd (true≢false (sym h))
range_above n first (suc count) h =
    ⊎_elim (λ same. at (eqb-true first n same)) (λ later. above (range_above n (first + 1) count later))
    (or_cases (first == n) (is_among (range_with_len (first + 1) count) n) h)
  where
    at : first ≡ n → first ≤ n
    at e = omega (arith, e)

    above : first + 1 ≤ n → first ≤ n
    above low = omega (arith, low)

pub clock_low : (starts : List NodeSpec) (node : ℕ) → AllByRecursion (λ (spec : NodeSpec). spec.clock ≤ 1000000000000) starts → clock_start starts node ≤ 1000000000000
clock_low [] node h = omega arith
clock_low (spec ∷ starts) node h = by (spec.id == node) (clock_low starts node h.1)
  where
    by : (b : Bool) → clock_start starts node ≤ 1000000000000 → cond b spec.clock (clock_start starts node) ≤ 1000000000000
    by true rest = h.0
    by false rest = rest

pub in_range : (layout : Layout) (node : ℕ) → IsLayout layout → is_among layout.nodes node ≡ true → (1 ≤ node) × (node ≤ 15)
in_range layout node valid among = (range_above node 1 15 (among_part layout.nodes node_numbers valid.nodes node among), node_low layout node valid among)

-- of a plan, whatever else it is
module _ (plan other : Content) (same : plan ≡ other) (valid : IsPlan other) (node : ℕ) where
  pub node_range : is_among plan.topology.nodes node ≡ true → (1 ≤ node) × (node ≤ 15)
  node_range known = in_range plan.topology node (subst IsPlan (sym same) valid).layout known

  module _ (starts : List NodeSpec) (start : ℕ) (from : starts ≡ other.starts) (is : start ≡ clock_start starts node) where
    pub started : start ≡ clock_start plan.starts node
    started = is ∙ ap (λ (xs : List NodeSpec). clock_start xs node) (from ∙ ap (λ (p : Content). p.starts) (sym same))

  pub name_range : is_among plan.topology.nodes node ≡ true → IsNodeName (node_name plan node)
  name_range known = record {
    number_from = (node_range known).0;
    number_to = (node_range known).1;
    start_in_range = clock_low plan.starts node (subst IsPlan (sym same) valid).clocks;
  }

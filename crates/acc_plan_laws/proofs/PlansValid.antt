-- The cluster of a plan is valid, and has few transactions.
use Rattle.std.proofs.Common.{◌≡◌, ℕ, ◌≤◌, true, List, length, sym, ◌∙◌, ap, subst}
use Rattle.std.specs.List.{AllByRecursion}
use Rattle.std.proofs.lemmas.List.{length-map}
use Rattle.acc_topology.specs.declared.given.NodeSpec.{NodeSpec}
use Rattle.acc_topology.specs.Faults.{ids}
use Rattle.acc_topology.specs.Sets.{is_among, in_order}
use Rattle.acc_safety.specs.Valid.{AreStarts, IsValidCluster}
use Rattle.acc_run_laws.specs.Sends.{HasFewBodies}
use Rattle.acc_schedule.specs.Content.{Content}
use Rattle.acc_schedule.specs.Plan.{IsPlan}
use Rattle.acc_schedule_runs.specs.Schedules.{cluster_of}
use Rattle.acc_plan_laws.proofs.StartsOnce.{starts_once, among_ids, starts_only}

module _ (plan : Content) (h : IsPlan plan) where
  as_many : length (in_order (ids plan.starts)) ≡ length (ids plan.starts)
  as_many = ap (λ (ns : List ℕ). length ns) (sym h.nodes) ∙ sym h.nodes_once ∙ sym (length-map plan.starts (λ (n : NodeSpec). n.id))

  starts_are : AreStarts plan.topology plan.starts
  starts_are =
      record {
        each = λ node there.
            starts_once plan.starts as_many node
            (among_ids (ids plan.starts) node (subst (λ (ns : List ℕ). is_among ns node ≡ true) h.nodes there));
        only = subst (λ (ns : List ℕ). AllByRecursion (λ (s : NodeSpec). is_among ns s.id ≡ true) plan.starts) (sym h.nodes) (starts_only plan.starts as_many);
        clocks = h.clocks;
      }

  pub plan_is_valid : IsValidCluster (cluster_of plan)
  plan_is_valid =
      record {
        layout = h.layout;
        starts = starts_are;
        homes = h.homes_known;
        as_many = h.homes_as_many ∙ sym h.bodies_as_many;
        bodies = h.bodies;
      }

  pub plan_is_small : HasFewBodies (cluster_of plan)
  plan_is_small = subst (λ n. n ≤ 10000) (sym h.bodies_as_many) h.few

-- The homes of a plan's transactions.
use Rattle.std.proofs.Common.{◌≡◌, ℕ, zero, suc, ◌+◌, ◌*◌, ◌<◌, ◌≤◌, true, IsTrue, List, [], ◌∷◌, Some, length, unwrap_or, sym, ◌∙◌, ap, subst, arith}
use Rattle.std.specs.List.{slice_get, slice_index_or, AllByRecursion}
use Rattle.std.proofs.lemmas.Option.{unwrap_or-slice_get, slice_get-get_or}
use Rattle.acc_stamp.specs.declared.actors.Actor.{Actor}
use Rattle.acc_stamp.specs.Actor.{actor_of}
use Rattle.acc_topology.specs.Sets.{is_among}
use Rattle.acc_run_laws.proofs.Addresses.{node_low}
use Rattle.acc_run_laws.specs.Asks.{home_of_txn}
use Rattle.acc_schedule.specs.Content.{Content}
use Rattle.acc_schedule.specs.Plan.{IsPlan}
use Rattle.acc_schedule_runs.specs.Schedules.{cluster_of}

pub each_read : {T : Type 0} (P : T → Type 0) (xs : List T) (i : ℕ) (d : T) → AllByRecursion P xs → i < length xs → P (slice_index_or xs i d)
each_read P [] i d all less = absurd (none less)
  where
    none : i < 0 → ⊥
    none p = omega (arith, p)
each_read P (x ∷ xs) zero d all less = all.0
each_read P (x ∷ xs) (suc i) d all less = each_read P xs i d all.1 (lower less)
  where
    lower : suc i < suc (length xs) → i < length xs
    lower p = omega (arith, p)

abbrev pub at : ℕ → Actor
at n = record { 0 = n * 64 }

pub at_is : (n : ℕ) → at n ≡ actor_of n 0
at_is n = let e : n * 64 ≡ n * 64 + 0 = omega arith in ap (λ k. record { 0 = k }) e

module _ (plan inside : Content) (homes : List ℕ) (txn : ℕ) (view : inside ≡ plan) (same : homes ≡ inside.homes) (valid : IsPlan inside) (less : txn < length plan.names) where
  pub homes_are : homes ≡ plan.homes
  homes_are = same ∙ ap (λ (p : Content). p.homes) view

  pub within : txn < length plan.homes
  within =
      let inside_plan : IsPlan plan = subst IsPlan view valid in
      subst (λ n. txn < n) (sym inside_plan.homes_as_many) less

  pub home_low : slice_index_or homes txn 0 ≤ 15
  home_low =
      let inside_plan : IsPlan plan = subst IsPlan view valid in
      subst (λ (l : List ℕ). slice_index_or l txn 0 ≤ 15) (sym homes_are)
      (node_low plan.topology (slice_index_or plan.homes txn 0) inside_plan.layout (each_read (λ home. IsTrue (is_among plan.topology.nodes home)) plan.homes txn 0 inside_plan.homes_known within))

  pub home_is : record { 0 = slice_index_or homes txn 0 * 64 } ≡ home_of_txn (cluster_of plan) txn
  home_is =
      ap (λ (l : List ℕ). at (slice_index_or l txn 0)) homes_are
      ∙ ap at (sym (unwrap_or-slice_get plan.homes txn 0))
      ∙ at_is (unwrap_or (slice_get plan.homes txn) 0)

  pub home_at : slice_get plan.homes txn ≡ Some (slice_index_or homes txn 0)
  home_at = slice_get-get_or plan.homes txn 0 within ∙ ap (λ (l : List ℕ). Some (slice_index_or l txn 0)) (sym homes_are)

  pub home_known : is_among plan.topology.nodes (slice_index_or homes txn 0) ≡ true
  home_known =
      let inside_plan : IsPlan plan = subst IsPlan view valid in
      subst (λ (l : List ℕ). IsTrue (is_among plan.topology.nodes (slice_index_or l txn 0))) (sym homes_are)
      (each_read (λ home. IsTrue (is_among plan.topology.nodes home)) plan.homes txn 0 inside_plan.homes_known within)

-- The moments of a run, one by one.
use Rattle.std.proofs.Common.{◌≡◌, ℕ, ◌+◌, ◌<◌, ◌≤◌, Bool, true, false, List, length, get_or, ◌∙◌, ap, subst, arith}
use Rattle.std.specs.Prelude.{nat_le}
use Rattle.std.proofs.lemmas.Bool.Decides.{nat_tests}
use Rattle.acc_ports.specs.declared.disk.Disk.{Ghosts}
use Rattle.acc_schedule.specs.Content.{Content}
use Rattle.acc_schedule.specs.declared.plan.Step.{Step}
use Rattle.acc_schedule_runs.specs.Situations.{Situation}
use Rattle.acc_schedule_runs.specs.Moves.{Answers}
use Rattle.acc_schedule_runs.specs.StrictMoves.{StrictSituation}
use Rattle.acc_cluster.specs.declared.cluster.Cluster.{Cluster}
use Rattle.acc_cluster.specs.Stands.{StandsFor, StandsStrictly}
use Rattle.acc_cluster.specs.Steps.{change, StepsTo, StepsStrictly}
use Rattle.acc_run.proofs.Taking.{GoOn, GoOnStrictly}
use Rattle.acc_glance.specs.declared.visits.Visitor.{Visitor}
use Rattle.acc_glance.specs.UnderWay.{IsUnderWay}
use Rattle.acc_glance.proofs.Passing.{Answering, Visits, led_further, stepped, stepped_strictly, still}

-- ---- before the last step, and after it

not_over : (steps i : ℕ) → i < steps → false ≡ nat_le steps i
not_over steps i less = grind (arith, nat_tests)

is_over : (steps i : ℕ) → steps ≤ i → true ≡ nat_le steps i
is_over steps i le = grind (arith, nat_tests)

module _ {D : Type 0} (port : Ghosts D) (plan : Content) where
  module _ (xs : List Step) (i : ℕ) (d : Step) (number : ℕ) (items : xs ≡ plan.steps) (within : i < length xs) (number_is : number ≡ i) (old new : Cluster D)
      (before visitors : List Visitor) (visits : Visits port plan old number false before visitors) where
    short : i < length plan.steps
    short = subst (λ (l : List Step). i < length l) items within

    same : get_or xs i d ≡ get_or plan.steps i d
    same = ap (λ (l : List Step). get_or l i d) items

    pub next_under_way : (law : GoOn) → ((s : Situation) (answers : Answers) → StandsFor port plan old s → StepsTo port plan answers number (get_or xs i d) (change old new) s)
        → IsUnderWay false port plan old before i → IsUnderWay false port plan new visitors (i + 1)
    next_under_way law steps h =
        stepped port plan i number (get_or xs i d) d short same number_is old new before visitors law h (steps h.now h.answers h.stands)
        (led_further port plan false old before visitors i number false h number_is (not_over (length plan.steps) i short) visits)

    pub next_under_way_strictly : (law : GoOnStrictly) → Answering
        → ((s : StrictSituation) → StandsStrictly port plan old s → StepsStrictly port plan number (get_or xs i d) new s)
        → IsUnderWay true port plan old before i → IsUnderWay true port plan new visitors (i + 1)
    next_under_way_strictly law answering steps h =
        stepped_strictly port plan i number (get_or xs i d) d short same number_is old new before visitors law answering h (steps h.now h.stands)
        (led_further port plan true old before visitors i number false h number_is (not_over (length plan.steps) i short) visits)

  pub full_under_way : (strictly : Bool) (xs : List Step) (i : ℕ) (cluster : Cluster D) (visitors : List Visitor) → xs ≡ plan.steps → i ≡ length xs
      → IsUnderWay strictly port plan cluster visitors i → IsUnderWay strictly port plan cluster visitors (length plan.steps)
  full_under_way strictly xs i cluster visitors items all h =
      subst (λ (n : ℕ). IsUnderWay strictly port plan cluster visitors n) (all ∙ ap (λ (l : List Step). length l) items) h

  pub still_under_way : (strictly : Bool) (cluster : Cluster D) (before visitors : List Visitor) (more number : ℕ) → number ≡ length plan.steps + more
      → Visits port plan cluster number true before visitors → IsUnderWay strictly port plan cluster before (length plan.steps + more)
      → IsUnderWay strictly port plan cluster visitors (length plan.steps + (more + 1))
  still_under_way strictly cluster before visitors more number number_is visits h =
      subst (λ (n : ℕ). IsUnderWay strictly port plan cluster visitors n) (one_more (length plan.steps) more)
      (still port plan strictly cluster before visitors (length plan.steps + more) (past (length plan.steps) more) h
      (led_further port plan strictly cluster before visitors (length plan.steps + more) number true h number_is
      (is_over (length plan.steps) (length plan.steps + more) (past (length plan.steps) more)) visits))
    where
      one_more : (a b : ℕ) → (a + b) + 1 ≡ a + (b + 1)
      one_more a b = omega arith

      past : (a b : ℕ) → a ≤ a + b
      past a b = omega arith

  pub as_it_is : (strictly : Bool) (cluster : Cluster D) (visitors : List Visitor) → IsUnderWay strictly port plan cluster visitors (length plan.steps)
      → IsUnderWay strictly port plan cluster visitors (length plan.steps + 0)
  as_it_is strictly cluster visitors h = subst (λ (n : ℕ). IsUnderWay strictly port plan cluster visitors n) (let e : length plan.steps ≡ length plan.steps + 0 = omega arith in e) h

  pub any_more : (strictly : Bool) (cluster : Cluster D) (visitors : List Visitor) (more : ℕ) → IsUnderWay strictly port plan cluster visitors (length plan.steps + more)
      → (count : ℕ) × (length plan.steps ≤ count) × IsUnderWay strictly port plan cluster visitors count
  any_more strictly cluster visitors more h = (length plan.steps + more, past (length plan.steps) more, h)
    where
      past : (a b : ℕ) → a ≤ a + b
      past a b = omega arith

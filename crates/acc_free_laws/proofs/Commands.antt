-- The commands of an actor are steps of the plan, and the actor's.
use Rattle.std.proofs.Common.{◌≡◌, ℕ, ◌<◌, ◌≤◌, Bool, true, false, cond, List, [], ◌∷◌, ◌++◌, length, reverse, Some, refl, sym, subst, arith, ⊎_elim}
use Rattle.std.specs.List.{filter, slice_get, AllByRecursion}
use Rattle.std.proofs.lemmas.Option.{slice_get_cases}
use Rattle.acc_stamp.specs.declared.actors.Actor.{Actor}
use Rattle.acc_run_laws.specs.AskLaws.{HasTxn}
use Rattle.acc_schedule.specs.Content.{Content}
use Rattle.acc_schedule.specs.Plan.{IsStep, IsPlan}
use Rattle.acc_schedule.specs.declared.plan.Step.{Step}
use Rattle.acc_schedule_runs.specs.Schedules.{cluster_of}
use Rattle.acc_free_laws.specs.Commands.{is_command_of, commands_of}

there_is : {X : Type 0} (xs : List X) (i : ℕ) → i < length xs → (x : X) × (slice_get xs i ≡ Some x)
there_is xs i less = ⊎_elim (λ found. (found.0, found.2)) (λ past. absurd (beyond less past.0)) (slice_get_cases xs i).1
  where
    beyond : {n k : ℕ} → n < k → k ≤ n → ⊥
    beyond p q = omega arith

pub has_txn : (plan : Content) → IsPlan plan → (txn : ℕ) → txn < length plan.names → HasTxn (cluster_of plan) txn
has_txn plan h txn less =
    let home = there_is plan.homes txn (subst (λ n. txn < n) (sym h.homes_as_many) less) in
    let body = there_is plan.bodies txn (subst (λ n. txn < n) (sym h.bodies_as_many) less) in
    record { home = home.0; home_is = home.1; body = body.0; body_is = body.1 }

-- ---- what is left of the commands

module _ (plan : Content) (a : Actor) where
  abbrev pub IsOwn : Step → Type 0
  IsOwn step = IsStep (length plan.names) plan.topology step × (is_command_of (cluster_of plan) a step ≡ true)

  each_own : (steps : List Step) → AllByRecursion (IsStep (length plan.names) plan.topology) steps
      → AllByRecursion IsOwn (filter (is_command_of (cluster_of plan) a) steps)
  each_own [] known = tt
  each_own (step ∷ steps) known = by (is_command_of (cluster_of plan) a step) refl (each_own steps known.1)
    where
      by : (own : Bool) → is_command_of (cluster_of plan) a step ≡ own
          → AllByRecursion IsOwn (filter (is_command_of (cluster_of plan) a) steps)
          → AllByRecursion IsOwn (cond own (step ∷ filter (is_command_of (cluster_of plan) a) steps) (filter (is_command_of (cluster_of plan) a) steps))
      by true is rest = ((known.0, is), rest)
      by false is rest = rest

  own_at : (front : List Step) (step : Step) (back : List Step) → AllByRecursion IsOwn (front ++ step ∷ back) → IsOwn step
  own_at [] step back all = all.0
  own_at (first ∷ front) step back all = own_at front step back all.1

  pub next_is_own : IsPlan plan → (gone : List Step) (command : Step) (left : List Step)
      → commands_of plan a ≡ reverse gone ++ command ∷ left → IsOwn command
  next_is_own h gone command left is =
      own_at (reverse gone) command left (subst (AllByRecursion IsOwn) is (each_own plan.steps h.steps_known))

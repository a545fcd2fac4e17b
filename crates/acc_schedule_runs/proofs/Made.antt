-- A front goes on with a part of the next step, and reads the answers of the disks at the places of its own items alone.
use Rattle.std.proofs.Common.{◌≡◌, ℕ, suc, ◌+◌, ◌<◌, ◌≤◌, inl, inr, List, [], ◌∷◌, ◌++◌, length, subst, arith}
use Rattle.acc_message.specs.declared.entry.Event.TheVariants.{Message as MessageEvent}
use Rattle.acc_message.specs.Run.{Cluster}
use Rattle.acc_schedule.specs.declared.plan.Step.{Step}
use Rattle.acc_schedule.specs.declared.plan.Step.TheVariants.{Begin, Deliver, Drop, Recover, Slow, Restart, Fail, Drain}
use Rattle.acc_schedule_runs.specs.Situations.{Situation, receiver_in}
use Rattle.acc_schedule_runs.specs.Moves.{Answers, tried}
use Rattle.acc_schedule_runs.specs.Schedules.{Follows}
use Rattle.acc_schedule_runs.specs.Laws.{AgreeBelow}
use Rattle.acc_schedule_runs.proofs.Answered.{fewer, tried_length, tried_same, next_same}
use Rattle.acc_schedule_runs.specs.Fronts.{DrainsTo, comes, goes_on, ComesTo, Reaches}
use Rattle.acc_schedule_runs.proofs.Beginnings.{begins_shorter}
use Rattle.acc_schedule_runs.proofs.Reached.{comes_adds, reaches_adds}

pub goes_on_with : (cluster : Cluster) (answers : Answers) (number : ℕ) (steps more : List Step) (step : Step) (s between reached : Situation)
    → Follows cluster answers number steps s between → ComesTo cluster answers (number + length steps) step between reached
    → Reaches cluster answers number (steps ++ step ∷ more) s reached
goes_on_with cluster answers number [] more step s between reached is part =
    let none : number + 0 ≡ number = omega arith in
    inl
    (subst (λ n. ComesTo cluster answers n step s reached) none
    (subst (λ t. ComesTo cluster answers (number + 0) step t reached) is part))
goes_on_with cluster answers number (first ∷ steps) more step s between reached follows part =
    let moved : number + suc (length steps) ≡ number + 1 + length steps = omega arith in
    inr (
      follows.0,
      follows.1,
      goes_on_with cluster answers (number + 1) steps more step follows.0 between reached follows.2
          (subst (λ n. ComesTo cluster answers n step between reached) moved part),
    )

module _ (cluster : Cluster) (answers other : Answers) where
  drained_same : (reached s : Situation) → AgreeBelow answers other (length reached.own) → DrainsTo cluster answers reached s
      → DrainsTo cluster other reached s
  drained_same reached s agree (comes _ is) = comes s is
  drained_same reached s agree (goes_on _ n oldest rest) =
      let t : Situation = tried cluster answers s (receiver_in s n) (MessageEvent n) in
      goes_on s n oldest
      (subst (DrainsTo cluster other reached)
      (tried_same cluster answers other s (receiver_in s n) (MessageEvent n) (length reached.own) agree
      (later (tried_length cluster answers s (receiver_in s n) (MessageEvent n)) (begins_shorter t.own reached.own (comes_adds cluster answers 0 Drain t reached rest))))
      (drained_same reached t agree rest))
    where
      later : {n k m : ℕ} → k ≡ suc n → k ≤ m → n < m
      later h k = omega arith

  comes_same : (number : ℕ) (step : Step) (s reached : Situation) → AgreeBelow answers other (length reached.own)
      → ComesTo cluster answers number step s reached → ComesTo cluster other number step s reached
  comes_same number (Begin txn) s reached agree is = next_same cluster answers other number (Begin txn) s reached agree is
  comes_same number (Deliver message) s reached agree is = next_same cluster answers other number (Deliver message) s reached agree is
  comes_same number (Drop message) s reached agree is = next_same cluster answers other number (Drop message) s reached agree is
  comes_same number (Recover txn node) s reached agree is = next_same cluster answers other number (Recover txn node) s reached agree is
  comes_same number (Slow txn) s reached agree is = next_same cluster answers other number (Slow txn) s reached agree is
  comes_same number (Restart actor choice) s reached agree is = next_same cluster answers other number (Restart actor choice) s reached agree is
  comes_same number (Fail actor calls) s reached agree is = next_same cluster answers other number (Fail actor calls) s reached agree is
  comes_same number Drain s reached agree drains = drained_same reached s agree drains

  pub reaches_same : (number : ℕ) (steps : List Step) (s reached : Situation) → AgreeBelow answers other (length reached.own)
      → Reaches cluster answers number steps s reached → Reaches cluster other number steps s reached
  reaches_same number [] s reached agree is = is
  reaches_same number (step ∷ steps) s reached agree (inl part) = inl (comes_same number step s reached agree part)
  reaches_same number (step ∷ steps) s reached agree (inr more) =
      inr (
        more.0,
        next_same cluster answers other number step s more.0
            (fewer (begins_shorter more.0.own reached.own (reaches_adds cluster answers (number + 1) steps more.0 reached more.2)) agree)
            more.1,
        reaches_same (number + 1) steps more.0 reached agree more.2,
      )

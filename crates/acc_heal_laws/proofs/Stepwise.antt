-- Healings step by step: one due step more, answers that count only at the places of items, and steps that are known.
use Rattle.std.proofs.Common.{◌≡◌, ℕ, suc, ◌+◌, ◌≤◌, List, [], ◌∷◌, length, Some, sym, ap, subst, arith, inl, inr}
use Rattle.acc_message.specs.declared.entry.Event.TheVariants.{Message as MessageEvent}
use Rattle.acc_message.specs.Run.{Cluster}
use Rattle.acc_safety.specs.Valid.{IsValidCluster}
use Rattle.acc_schedule.specs.declared.plan.Step.{Step}
use Rattle.acc_schedule.specs.declared.plan.Step.TheVariants.{Begin, Deliver, Drop, Recover, Slow, Restart, Fail, Drain}
use Rattle.acc_schedule.specs.Content.{Content}
use Rattle.acc_schedule.specs.Plan.{IsPlan}
use Rattle.acc_schedule_runs.specs.Situations.{Situation, whole, receiver_in}
use Rattle.acc_schedule_runs.specs.Moves.{Answers, tried, Drains, stops, delivers, IsNext}
use Rattle.acc_schedule_runs.specs.Schedules.{cluster_of}
use Rattle.acc_schedule_runs.specs.Laws.{AgreeBelow}
use Rattle.acc_schedule_runs.specs.Fronts.{DrainsTo, comes, goes_on, ComesTo, Reaches}
use Rattle.acc_schedule_runs.proofs.Answered.{fewer, next_same, last_grows}
use Rattle.acc_schedule_runs.proofs.Beginnings.{begins_shorter}
use Rattle.acc_schedule_runs.proofs.Reached.{comes_adds}
use Rattle.acc_heal_laws.specs.Healings.{Moving, Standing, Goes, due_at, standing_after, moving_with, beginning}
use Rattle.acc_heal_laws.specs.FrontLaws.{GoesOneStepMore, AnswersCountAtItems, AnswersCountAtItemsReached, DueStepsAreKnown}
use Rattle.acc_heal_laws.proofs.GoesOn.{goes_follows}
use Rattle.acc_heal_laws.proofs.HealingTurns.{between_sound}
use Rattle.acc_heal_laws.proofs.KnownSteps.{reopening_known}
use Rattle.acc_heal_laws.proofs.SoundHealing.{goes_sound, step_known}

module _ {S : Type 0} (moving : Moving S) where
  pub one_step_more : GoesOneStepMore moving
  one_step_more number [] from stand step next goes due is =
      let none : number + 0 ≡ number = omega arith in (
        next,
        subst (λ (k : Standing S). due_at moving k ≡ Some step) goes due,
        subst (λ n. moving.next n step from.at next) none (subst (λ (k : Standing S). moving.next (number + 0) step k.at next) goes is),
        ap (λ (k : Standing S). standing_after moving k next) goes,
      )
  one_step_more number (first ∷ steps) from stand step next goes due is =
      let moved : number + suc (length steps) ≡ number + 1 + length steps = omega arith in (
        goes.0,
        goes.1,
        goes.2,
        one_step_more (number + 1) steps (standing_after moving from goes.0) stand step next goes.3 due
            (subst (λ n. moving.next n step stand.at next) moved is),
      )

-- ---- answers

pub goes_longer : (plan : Content) (answers : Answers) (number : ℕ) (steps : List Step) (from to : Standing Situation) → Goes (moving_with plan answers) number steps from to
    → length from.at.own ≤ length to.at.own
goes_longer plan answers number steps from to goes =
    last_grows (cluster_of plan) answers number steps from.at to.at (goes_follows plan answers number steps from to goes)

pub goes_same : AnswersCountAtItems
goes_same plan answers other number [] from to agree goes = goes
goes_same plan answers other number (step ∷ steps) from to agree goes =
    let after : Standing Situation = standing_after (moving_with plan answers) from goes.0 in (
      goes.0,
      goes.1,
      next_same (cluster_of plan) answers other number step from.at goes.0
          (fewer (goes_longer plan answers (number + 1) steps after to goes.3) agree) goes.2,
      goes_same plan answers other (number + 1) steps after to agree goes.3,
    )

-- ---- a step comes to its end

pub drain_comes : (cluster : Cluster) (answers : Answers) (next s : Situation) → Drains cluster answers next s → DrainsTo cluster answers next s
drain_comes cluster answers next s (stops _ none is) = comes s is
drain_comes cluster answers next s (delivers _ n oldest rest) =
    goes_on s n oldest (drain_comes cluster answers next (tried cluster answers s (receiver_in s n) (MessageEvent n)) rest)

pub next_comes : (cluster : Cluster) (answers : Answers) (number : ℕ) (step : Step) (s next : Situation) → IsNext cluster answers number step s next
    → ComesTo cluster answers number step s next
next_comes cluster answers number (Begin txn) s next is = is
next_comes cluster answers number (Deliver message) s next is = is
next_comes cluster answers number (Drop message) s next is = is
next_comes cluster answers number (Recover txn node) s next is = is
next_comes cluster answers number (Slow txn) s next is = is
next_comes cluster answers number (Restart actor choice) s next is = is
next_comes cluster answers number (Fail actor calls) s next is = is
next_comes cluster answers number Drain s next is = drain_comes cluster answers next s is

-- given that what a schedule reaches counts answers only at the places of items
pub reached_same :
    ((cluster : Cluster) (answers other : Answers) (number : ℕ) (steps : List Step) (s reached : Situation) → AgreeBelow answers other (length reached.own)
    → Reaches cluster answers number steps s reached → Reaches cluster other number steps s reached)
    → AnswersCountAtItemsReached
reached_same same plan answers other number from reached agree h =
    let cluster : Cluster = cluster_of plan in
    let n : ℕ = number + length h.steps in
    let before = begins_shorter h.stand.at.own reached.own (comes_adds cluster answers n h.step h.stand.at reached h.comes) in
    record {
      steps = h.steps;
      stand = h.stand;
      goes = goes_same plan answers other number h.steps from h.stand (fewer before agree) h.goes;
      step = h.step;
      due = h.due;
      comes = comes_of n h.step h.stand.at (same cluster answers other n (h.step ∷ []) h.stand.at reached agree (inl h.comes));
    }
  where
    comes_of : (n : ℕ) (step : Step) (s : Situation) → Reaches (cluster_of plan) other n (step ∷ []) s reached → ComesTo (cluster_of plan) other n step s reached
    comes_of n step s (inl part) = part
    comes_of n step s (inr more) =
        next_comes (cluster_of plan) other n step s reached (subst (λ (t : Situation). IsNext (cluster_of plan) other n step s t) (sym more.2) more.1)

-- ---- known steps

pub due_steps_are_known : ((plan : Content) → IsPlan plan → IsValidCluster (cluster_of plan)) → DueStepsAreKnown
due_steps_are_known valid_of plan answers steps between stand step is_plan follows goes due =
    let s =
    goes_sound plan answers is_plan (valid_of plan is_plan) (length plan.steps) steps (beginning plan between) stand
    (record { carried = reopening_known plan (whole between); sound = between_sound plan answers between is_plan follows }) goes in
    step_known plan answers is_plan (valid_of plan is_plan) stand.stage stand.at step s.carried s.sound due

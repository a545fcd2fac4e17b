-- The healing of a plan without steps is one drain, which does nothing.
use Rattle.std.proofs.Common.{◌≡◌, ℕ, false, ◌&&◌, not, List, [], ◌∷◌, length, Option, None, refl, sym, ◌∙◌, ap, subst, arith}
use Rattle.std.specs.List.{filter_map, cons_option}
use Rattle.std.specs.Prelude.{nat_lt}
use Rattle.acc_stamp.specs.declared.actors.Actor.{Actor}
use Rattle.acc_message.specs.Run.{is_down}
use Rattle.acc_schedule.specs.declared.plan.Step.{Step}
use Rattle.acc_schedule.specs.declared.plan.Step.TheVariants.{Drain}
use Rattle.acc_schedule.specs.Content.{Content}
use Rattle.acc_schedule_runs.specs.Situations.{opened, is_through, receiver_in, whole, NothingWaits}
use Rattle.acc_schedule_runs.specs.Moves.{Answers, stops}
use Rattle.acc_schedule_runs.specs.Schedules.{Follows, cluster_of}
use Rattle.acc_heal_laws.specs.Stages.{Reopens, Turns, actors_rising, reopening_step, reopening}
use Rattle.acc_heal_laws.specs.Healings.{Goes, moving_with, IsHealing}

none_given : (f : Actor → Option Step) (xs : List Actor) → ((a : Actor) → f a ≡ None) → filter_map f xs ≡ []
none_given f [] none = refl
none_given f (x ∷ xs) none = ap (λ o. cons_option o (filter_map f xs)) (none x) ∙ none_given f xs none

nothing_waits : NothingWaits (opened [])
nothing_waits number = ap (λ o. o && (not (is_through (opened []) number) && not (is_down (receiver_in (opened []) number) (whole (opened []))))) (none number)
  where
    none : (n : ℕ) → nat_lt n 0 ≡ false
    none n = grind arith

nobody_reopened : (plan : Content) → plan.steps ≡ [] → reopening plan [] ≡ []
nobody_reopened plan is =
    ap (λ (steps : List Step). filter_map (reopening_step steps []) (actors_rising plan.topology)) is
    ∙ none_given (reopening_step [] []) (actors_rising plan.topology) (λ a. refl)

pub nothing_to_heal : (plan : Content) (answers : Answers) → plan.steps ≡ [] → IsHealing plan answers (Drain ∷ []) (opened []) (opened [])
nothing_to_heal plan answers is =
    record {
      follows = subst (λ (steps : List Step). Follows (cluster_of plan) answers 0 steps (opened []) (opened [])) (sym is) refl;
      heals = record {
        stage = Turns [];
        goes =
            subst
            (λ (todo : List Step).
            Goes (moving_with plan answers) (length plan.steps) (Drain ∷ []) (record { stage = Reopens todo; at = opened [] }) (record { stage = Turns []; at = opened [] }))
            (sym (nobody_reopened plan is)) (opened [], refl, stops (opened []) nothing_waits refl, refl);
        done = refl;
      };
    }

-- The whole healing: the reopening, a drain and the turns.
use Rattle.std.proofs.Common.{◌≡◌, ℕ, Bool, false, List, ◌∷◌, sym, ◌∙◌, ap}
use Rattle.acc_ports.specs.declared.disk.Disk.{Ghosts}
use Rattle.acc_message.specs.declared.error.RunError.{RunError}
use Rattle.acc_schedule.specs.Content.{Content}
use Rattle.acc_schedule.specs.declared.plan.Step.{Step}
use Rattle.acc_schedule.specs.declared.plan.Step.TheVariants.{Drain}
use Rattle.acc_schedule_runs.specs.Situations.{Situation, whole}
use Rattle.acc_cluster.specs.Stands.{StandsFor}
use Rattle.acc_heal_laws.specs.Stages.{Reopens, reopening}
use Rattle.acc_cluster.specs.declared.cluster.Cluster.{Cluster}
use Rattle.acc_cluster.specs.Steps.{IfLimit}
use Rattle.acc_heal.specs.Places.{Place, IsDue, TookDue, IsReopening, IsReopeningBy, IsReopened, IsTurning, IsOver, At, found_in, IsHealingAt, StandsIn, Leads, EndsWithin}
use Rattle.acc_heal.proofs.DueSteps.{past_is}
use Rattle.acc_heal.proofs.Turning.{Then, stands_next, leads_next, ends_next, narrower_stands, stands_found}
use Rattle.acc_heal.proofs.Ending.{first_drain_is_due, turns_begin, reopening_is_due, reopening_goes_on}

module _ {D : Type 0} (port : Ghosts D) (plan : Content) where
  -- ---- after the reopening comes a drain, and then the turns

  module _ (number opened drained : ℕ) (c0 c1 c2 : Cluster D)
      (reopens : Leads port plan c0 c1 (IsReopening plan number) (λ place now. IsReopened opened now)) where
    then_drain : Then port plan c1 (IsReopening plan number) (λ place now. IsReopened opened now) (IsDue plan opened Drain)
    then_drain strictly between place now before is h = first_drain_is_due plan opened now is

    pub drain_stands : StandsIn port plan c0 (IsReopening plan number) → StandsIn port plan c1 (IsDue plan opened Drain)
    drain_stands = stands_next port plan c0 c1 (IsReopening plan number) (IsDue plan opened Drain) (λ place now. IsReopened opened now) reopens then_drain

    pub drain_ends : (error : RunError) → IfLimit (EndsWithin port plan c1 (IsDue plan opened Drain)) error → IfLimit (EndsWithin port plan c0 (IsReopening plan number)) error
    drain_ends = ends_next port plan c0 c1 (IsReopening plan number) (IsDue plan opened Drain) (λ place now. IsReopened opened now) reopens then_drain

    module _ (drains : Leads port plan c1 c2 (IsDue plan opened Drain) (TookDue plan drained)) where
      to_turns : Leads port plan c0 c2 (IsReopening plan number) (λ place now. IsTurning drained now)
      to_turns strictly between place before h =
          let one = reopens strictly between place before h in
          let two = drains strictly between one.0 (first_drain_is_due plan opened one.0 one.1) one.2 in
          (two.0, turns_begin plan opened drained one.0 two.0 one.1 two.1, two.2)

      then_turns : Then port plan c2 (IsReopening plan number) (λ place now. IsTurning drained now) (IsTurning drained)
      then_turns strictly between place now before is h = is

      pub turns_stand : StandsIn port plan c0 (IsReopening plan number) → StandsIn port plan c2 (IsTurning drained)
      turns_stand = stands_next port plan c0 c2 (IsReopening plan number) (IsTurning drained) (λ place now. IsTurning drained now) to_turns then_turns

      pub turns_end : (error : RunError) → IfLimit (EndsWithin port plan c2 (IsTurning drained)) error → IfLimit (EndsWithin port plan c0 (IsReopening plan number)) error
      turns_end = ends_next port plan c0 c2 (IsReopening plan number) (IsTurning drained) (λ place now. IsTurning drained now) to_turns then_turns

      pub all_over : (c3 : Cluster D) → Leads port plan c2 c3 (IsTurning drained) (λ place now. IsOver plan now)
          → Leads port plan c0 c3 (IsReopening plan number) (λ place now. IsOver plan now)
      all_over c3 turns =
          leads_next port plan c0 c2 (IsReopening plan number) (IsTurning drained) (λ place now. IsTurning drained now) to_turns then_turns c3 (λ place now. IsOver plan now)
          (λ place now. IsOver plan now) turns (λ strictly between place now last before is h over. over)

  -- ---- the reopening

  module _ (cluster : Cluster D) (number : ℕ) (steps : List Step) (told : (s : Situation) → StandsFor port plan cluster s → steps ≡ reopening plan (whole s)) where
    are_due : (strictly : Bool) (between : At strictly) (place : Place) → IsReopening plan number place → IsHealingAt strictly port plan between cluster place
        → IsReopeningBy number steps place
    are_due strictly between place before h = (
      before.0,
      before.1
          ∙ ap Reopens
          (ap (reopening plan) (sym (past_is port plan strictly between cluster place h))
          ∙ sym (told (found_in strictly h.at) (stands_found port plan strictly between cluster place h))),
    )

    pub reopening_stands : StandsIn port plan cluster (IsReopening plan number) → StandsIn port plan cluster (IsReopeningBy number steps)
    reopening_stands standing =
        record {
          between = standing.between;
          place = standing.place;
          before = are_due false standing.between standing.place standing.before standing.healing;
          healing = standing.healing;
        }

    pub reopening_led : Leads port plan cluster cluster (IsReopening plan number) (λ place now. IsReopeningBy number steps now)
    reopening_led strictly between place before h = (place, are_due strictly between place before h, h)

  -- ---- one step of it more

  module _ (number before next : ℕ) (step : Step) (left : List Step) (c0 c1 : Cluster D) where
    pub step_stands : StandsIn port plan c1 (IsReopeningBy before (step ∷ left)) → StandsIn port plan c1 (IsDue plan before step)
    step_stands = narrower_stands port plan c1 (IsDue plan before step) (IsReopeningBy before (step ∷ left)) (λ place is. reopening_is_due plan before step left place is)

    module _ (so_far : Leads port plan c0 c1 (IsReopening plan number) (λ place now. IsReopeningBy before (step ∷ left) now)) where
      then_step : Then port plan c1 (IsReopening plan number) (λ place now. IsReopeningBy before (step ∷ left) now) (IsDue plan before step)
      then_step strictly between place now b is h = reopening_is_due plan before step left now is

      pub step_ends : (error : RunError) → IfLimit (EndsWithin port plan c1 (IsDue plan before step)) error → IfLimit (EndsWithin port plan c0 (IsReopening plan number)) error
      step_ends = ends_next port plan c0 c1 (IsReopening plan number) (IsDue plan before step) (λ place now. IsReopeningBy before (step ∷ left) now) so_far then_step

      pub step_led : (c2 : Cluster D) → Leads port plan c1 c2 (IsDue plan before step) (TookDue plan next)
          → Leads port plan c0 c2 (IsReopening plan number) (λ place now. IsReopeningBy next left now)
      step_led c2 one =
          leads_next port plan c0 c1 (IsReopening plan number) (IsDue plan before step) (λ place now. IsReopeningBy before (step ∷ left) now) so_far then_step c2
          (TookDue plan next) (λ place now. IsReopeningBy next left now) one
          (λ strictly between place now last b is h t. reopening_goes_on plan before next step left now last is t)

    pub step_left_stands : (c2 : Cluster D) → Leads port plan c1 c2 (IsDue plan before step) (TookDue plan next)
        → StandsIn port plan c1 (IsReopeningBy before (step ∷ left)) → StandsIn port plan c2 (IsReopeningBy next left)
    step_left_stands c2 one standing =
        let led = one false standing.between standing.place (reopening_is_due plan before step left standing.place standing.before) standing.healing in
        record {
          between = standing.between;
          place = led.0;
          before = reopening_goes_on plan before next step left standing.place led.0 standing.before led.1;
          healing = led.2;
        }

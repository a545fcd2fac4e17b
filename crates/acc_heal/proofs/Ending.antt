-- A healing begins where the plan's steps are taken, and ends where nothing is due.
use Rattle.std.proofs.Common.{◌≡◌, ℕ, ◌+◌, true, false, List, [], ◌∷◌, length, refl, sym, ◌∙◌, ap, arith}
use Rattle.acc_ports.specs.declared.disk.Disk.{Ghosts}
use Rattle.acc_message.specs.declared.error.RunError.{RunError}
use Rattle.acc_message.specs.declared.error.RunError.TheVariants.{Limit, OutOfMemory}
use Rattle.acc_message.specs.declared.item.Item.{Item}
use Rattle.acc_message.specs.Run.{Cluster as Of}
use Rattle.acc_schedule.specs.Content.{Content}
use Rattle.acc_schedule.specs.declared.plan.Step.{Step}
use Rattle.acc_schedule.specs.declared.plan.Step.TheVariants.{Drain}
use Rattle.acc_schedule_runs.specs.Situations.{Situation, opened, whole}
use Rattle.acc_schedule_runs.specs.Moves.{Answers}
use Rattle.acc_schedule_runs.specs.Schedules.{cluster_of, Follows}
use Rattle.acc_schedule_runs.specs.StrictMoves.{StrictSituation, opened_strictly}
use Rattle.acc_schedule_runs.specs.StrictSchedules.{FollowsStrictly}
use Rattle.acc_pasts.proofs.Situations.{whole_alone}
use Rattle.acc_run.specs.Taken.{HasTaken, HasTakenStrictly}
use Rattle.acc_heal_laws.proofs.Growing.{follows_goes}
use Rattle.acc_cluster.specs.declared.cluster.Cluster.{Cluster}
use Rattle.acc_cluster.specs.Steps.{IfLimit}
use Rattle.acc_heal_laws.specs.Stages.{Reopens, reopening, due}
use Rattle.acc_heal_laws.specs.HealingFronts.{LimitEndsWithHealing, StrictLimitEndsWithHealing}
use Rattle.acc_heal.specs.Places.{Place, IsDue, TookDue, IsReopening, IsReopeningBy, IsReopened, IsTurning, IsOver, IsHealingAt, StandsIn, Leads, EndsWithin}
use Rattle.acc_heal.specs.Healed.{HasHealed, HasHealedStrictly}
use Rattle.acc_heal.proofs.DueSteps.{past_is}
use Rattle.acc_heal.proofs.Turning.{next_stage}

-- what a schedule enters over strict disks, it enters with some answers of disks
abbrev pub IsAnswered : Type 0
IsAnswered =
    (cluster : Of) (number : ℕ) (steps : List Step) (s last : StrictSituation) → FollowsStrictly cluster number steps s last
    → (answers : Answers) × Follows cluster answers number steps s.found last.found

module _ {D : Type 0} (port : Ghosts D) (plan : Content) where
  -- ---- the beginning

  abbrev pub first_place : Situation → Place
  first_place s = record { number = length plan.steps; stage = Reopens (reopening plan (whole s)); items = s.own }

  first_reopens : (s : Situation) → s.earlier ≡ [] → IsReopening plan (length plan.steps) (first_place s)
  first_reopens s alone = (refl, ap (λ items. Reopens (reopening plan items)) (whole_alone s alone))

  taken_alone : (cluster : Cluster D) (taken : HasTaken port plan cluster plan.steps) → taken.last.earlier ≡ []
  taken_alone cluster taken = (follows_goes (cluster_of plan) taken.answers 0 plan.steps (opened []) taken.last taken.follows).earlier_is

  strictly_taken_alone : IsAnswered → (cluster : Cluster D) (taken : HasTakenStrictly port plan cluster plan.steps) → taken.last.found.earlier ≡ []
  strictly_taken_alone answered cluster taken =
      let found = answered (cluster_of plan) 0 plan.steps (opened_strictly []) taken.last taken.follows in
      (follows_goes (cluster_of plan) found.0 0 plan.steps (opened []) taken.last.found found.1).earlier_is

  none_more : (n : ℕ) → n ≡ n + 0
  none_more n = omega arith

  pub begins_at : (cluster : Cluster D) (taken : HasTaken port plan cluster plan.steps) → IsHealingAt false port plan taken.last cluster (first_place taken.last)
  begins_at cluster taken =
      record {
        answers = taken.answers;
        follows = taken.follows;
        steps = [];
        at = taken.last;
        goes = refl;
        numbered = none_more (length plan.steps);
        items_are = refl;
        alone = taken_alone cluster taken;
        stands = taken.stands;
      }

  pub begins_strictly_at : IsAnswered → Answers → (cluster : Cluster D) (taken : HasTakenStrictly port plan cluster plan.steps)
      → IsHealingAt true port plan taken.last cluster (first_place taken.last.found)
  begins_strictly_at answered answers cluster taken =
      record {
        answers = answers;
        follows = taken.follows;
        steps = [];
        at = taken.last;
        goes = refl;
        numbered = none_more (length plan.steps);
        items_are = refl;
        alone = strictly_taken_alone answered cluster taken;
        stands = taken.stands;
      }

  pub stands_first : (cluster : Cluster D) (number : ℕ) → number ≡ length plan.steps → HasTaken port plan cluster plan.steps → StandsIn port plan cluster (IsReopening plan number)
  stands_first cluster number is taken =
      let r = first_reopens taken.last (taken_alone cluster taken) in
      record { between = taken.last; place = first_place taken.last; before = (sym is, r.1); healing = begins_at cluster taken }

  -- ---- the end

  module _ (old new : Cluster D) (number : ℕ) (is : number ≡ length plan.steps) where
    pub healed : Leads port plan old new (IsReopening plan number) (λ place now. IsOver plan now) → (taken : HasTaken port plan old plan.steps) → HasHealed port plan taken.last new
    healed leads taken =
        let led = leads false taken.last (first_place taken.last) (sym is, (first_reopens taken.last (taken_alone old taken)).1) (begins_at old taken) in
        let h = led.2 in
        record {
          answers = h.answers;
          steps = h.steps;
          last = h.at;
          healing =
              record {
                follows = h.follows;
                heals =
                    record {
                      stage = led.0.stage;
                      goes = h.goes;
                      done = ap (due (cluster_of plan) led.0.stage) (past_is port plan false taken.last new led.0 h) ∙ led.1;
                    };
              };
          stands = h.stands;
        }

    pub healed_strictly : IsAnswered → Answers → Leads port plan old new (IsReopening plan number) (λ place now. IsOver plan now)
        → (taken : HasTakenStrictly port plan old plan.steps) → HasHealedStrictly port plan taken.last new
    healed_strictly answered answers leads taken =
        let led =
        leads true taken.last (first_place taken.last.found) (sym is, (first_reopens taken.last.found (strictly_taken_alone answered old taken)).1)
        (begins_strictly_at answered answers old taken) in
        let h = led.2 in
        record {
          steps = h.steps;
          last = h.at;
          healing =
              record {
                follows = h.follows;
                heals =
                    record {
                      stage = led.0.stage;
                      goes = h.goes;
                      done = ap (due (cluster_of plan) led.0.stage) (past_is port plan true taken.last new led.0 h) ∙ led.1;
                    };
              };
          stands = h.stands;
        }

  pub limit_ends : (old : Cluster D) (number : ℕ) → number ≡ length plan.steps → HasTaken port plan old plan.steps → (error : RunError)
      → IfLimit (EndsWithin port plan old (IsReopening plan number)) error
      → IfLimit (λ which most. (answers : Answers) × (front : List Item) × LimitEndsWithHealing plan answers front which most) error
  limit_ends old number is taken OutOfMemory ends = tt
  limit_ends old number is taken (Limit which most) ends =
      ends false taken.last (first_place taken.last) (sym is, (first_reopens taken.last (taken_alone old taken)).1) (begins_at old taken)

  pub limit_ends_strictly : IsAnswered → Answers → (old : Cluster D) (number : ℕ) → number ≡ length plan.steps → HasTakenStrictly port plan old plan.steps → (error : RunError)
      → IfLimit (EndsWithin port plan old (IsReopening plan number)) error
      → IfLimit (λ which most. (front : List Item) × StrictLimitEndsWithHealing plan front which most) error
  limit_ends_strictly answered answers old number is taken OutOfMemory ends = tt
  limit_ends_strictly answered answers old number is taken (Limit which most) ends =
      ends true taken.last (first_place taken.last.found) (sym is, (first_reopens taken.last.found (strictly_taken_alone answered old taken)).1)
      (begins_strictly_at answered answers old taken)

-- ---- from the reopening to the turns

module _ (plan : Content) where
  pub first_drain_is_due : (number : ℕ) (place : Place) → IsReopened number place → IsDue plan number Drain place
  first_drain_is_due number place is = (is.0, ap (λ stage. due (cluster_of plan) stage place.items) is.1)

  pub turns_begin : (number next : ℕ) (place now : Place) → IsReopened number place → TookDue plan next place now → IsTurning next now
  turns_begin number next place now is t = (t.next, next_stage plan next place now (Reopens []) t is.1)

  -- one step of the reopening
  pub reopening_is_due : (number : ℕ) (step : Step) (left : List Step) (place : Place) → IsReopeningBy number (step ∷ left) place → IsDue plan number step place
  reopening_is_due number step left place is = (is.0, ap (λ stage. due (cluster_of plan) stage place.items) is.1)

  pub reopening_goes_on : (number next : ℕ) (step : Step) (left : List Step) (place now : Place) → IsReopeningBy number (step ∷ left) place → TookDue plan next place now
      → IsReopeningBy next left now
  reopening_goes_on number next step left place now is t = (t.next, next_stage plan next place now (Reopens (step ∷ left)) t is.1)

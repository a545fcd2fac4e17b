-- A due step leads a cluster that is being healed from one place to the next, or a limit ends its healing on the way.
use Rattle.std.proofs.Common.{◌≡◌, ℕ, ◌+◌, Bool, true, false, List, [], ◌∷◌, ◌++◌, length, Some, refl, sym, ◌∙◌, ap, subst, arith, inr}
use Rattle.std.proofs.lemmas.List.{length-append}
use Rattle.acc_ports.specs.declared.disk.Disk.{Ghosts}
use Rattle.acc_message.specs.declared.error.Which.{Which}
use Rattle.acc_message.specs.declared.error.RunError.{RunError}
use Rattle.acc_message.specs.declared.error.RunError.TheVariants.{Limit, OutOfMemory}
use Rattle.acc_schedule.specs.Content.{Content}
use Rattle.acc_schedule.specs.declared.plan.Step.{Step}
use Rattle.acc_schedule_runs.specs.Situations.{Situation, opened, whole}
use Rattle.acc_schedule_runs.specs.Moves.{Answers, IsNext}
use Rattle.acc_schedule_runs.specs.Schedules.{cluster_of, Follows}
use Rattle.acc_schedule_runs.specs.Laws.{AgreeBelow}
use Rattle.acc_schedule_runs.specs.StrictMoves.{StrictSituation, IsStrictNext}
use Rattle.acc_schedule_runs.specs.StrictLaws.{no_faults}
use Rattle.acc_schedule_runs.specs.Fronts.{ComesTo, Begins}
use Rattle.acc_schedule_runs.specs.StrictFronts.{StrictlyComesTo}
use Rattle.acc_schedule_runs.proofs.Answered.{fewer, answers_so_far}
use Rattle.acc_schedule_runs.proofs.Answering.{next_answered}
use Rattle.acc_schedule_runs.proofs.Reached.{next_adds}
use Rattle.acc_pasts.proofs.Situations.{whole_alone}
use Rattle.acc_cluster.specs.declared.cluster.Cluster.{Cluster}
use Rattle.acc_cluster.specs.Stands.{StandsFor, StandsStrictly}
use Rattle.acc_cluster.proofs.Next.{EndsHere, EndsStrictlyHere}
use Rattle.acc_cluster.specs.Steps.{change, StepsTo, StepsStrictly, IfLimit, EndsIn, EndsStrictlyIn}
use Rattle.acc_delivered.proofs.Asked.{past_length}
use Rattle.acc_heal_laws.specs.Stages.{due, stage_after}
use Rattle.acc_heal_laws.specs.Healings.{Standing, Goes, due_at, moving_with, beginning, moving_strictly, beginning_strictly}
use Rattle.acc_heal_laws.specs.FrontLaws.{GoesOneStepMore, AnswersCountAtItems}
use Rattle.acc_heal_laws.proofs.Growing.{GoesTo, next_goes}
use Rattle.acc_heal_laws.proofs.Reopened.{goes_goes}
use Rattle.acc_heal.specs.Places.{Place, place_after, IsDue, TookDue, At, found_in, IsHealingAt, Leads, EndsWithin, LimitEndsOver}

-- the laws of healings that are made step by step
pub record StepByStep : Type 0 where
  pub step : (plan : Content) (answers : Answers) → GoesOneStepMore (moving_with plan answers)
  pub strictly : (plan : Content) → GoesOneStepMore (moving_strictly plan)
  pub answers : AnswersCountAtItems

module _ {D : Type 0} (port : Ghosts D) (plan : Content) where
  -- the whole past is what the cluster entered itself
  pub past_is : (strictly : Bool) (between : At strictly) (cluster : Cluster D) (place : Place) (h : IsHealingAt strictly port plan between cluster place)
      → whole (found_in strictly h.at) ≡ place.items
  past_is strictly between cluster place h = whole_alone (found_in strictly h.at) h.alone ∙ h.items_are

  module _ (law : StepByStep) (number next : ℕ) (step : Step) (next_is : next ≡ number + 1) (old : Cluster D) (place : Place) (is_due : IsDue plan number step place) where
    -- ---- any disks

    module _ (between : Situation) (h : IsHealingAt false port plan between old place) where
      abbrev stand : Standing Situation
      stand = record { stage = place.stage; at = h.at }

      pub due_here : due_at (moving_with plan h.answers) stand ≡ Some step
      due_here = ap (due (cluster_of plan) place.stage) (past_is false between old place h) ∙ is_due.1

      numbered : number ≡ length plan.steps + length h.steps
      numbered = sym is_due.0 ∙ h.numbered

      goes_with : (other : Answers) → AgreeBelow h.answers other (length h.at.own)
          → Goes (moving_with plan other) (length plan.steps) h.steps (beginning plan between) stand
      goes_with other agree = law.answers plan h.answers other (length plan.steps) h.steps (beginning plan between) stand agree h.goes

      follows_with : (other : Answers) → AgreeBelow h.answers other (length h.at.own) → Follows (cluster_of plan) other 0 plan.steps (opened []) between
      follows_with other agree =
          answers_so_far (cluster_of plan) h.answers other 0 plan.steps (opened []) between
          (fewer (past_length between.own h.at.own (goes_goes plan h.answers (length plan.steps) h.steps (beginning plan between) stand h.goes).grows) agree) h.follows

      pub took : (new : Cluster D) → StepsTo port plan h.answers number step (change old new) h.at
          → (now : Place) × TookDue plan next place now × IsHealingAt false port plan between new now
      took new n =
          let now : Place = place_after plan place n.next.own in
          let moved : GoesTo h.at n.next = next_goes (cluster_of plan) n.other number step h.at n.next n.next_is in
          let alone : n.next.earlier ≡ [] = moved.earlier_is ∙ h.alone in
          let adds : Begins h.at.own n.next.own = next_adds (cluster_of plan) n.other number step h.at n.next n.next_is in (
            now,
            record {
              next = ap (λ k. k + 1) is_due.0 ∙ sym next_is;
              now_is = refl;
              later = adds.later;
              items_are = adds.items_are ∙ ap (λ own. adds.later ++ own) h.items_are;
            },
            record {
              answers = n.other;
              follows = follows_with n.other n.agree;
              steps = h.steps ++ step ∷ [];
              at = n.next;
              goes =
                  subst (λ stage. Goes (moving_with plan n.other) (length plan.steps) (h.steps ++ step ∷ []) (beginning plan between) (record { stage = stage; at = n.next }))
                  (λ i. stage_after (cluster_of plan) place.stage (past_is false between old place h i) (whole_alone n.next alone i))
                  (law.step plan n.other (length plan.steps) h.steps (beginning plan between) stand step n.next (goes_with n.other n.agree) due_here
                  (subst (λ k. IsNext (cluster_of plan) n.other k step h.at n.next) numbered n.next_is));
              numbered = ap (λ k. k + 1) h.numbered ∙ more (length plan.steps) h.steps;
              items_are = refl;
              alone = alone;
              stands = n.stands;
            },
          )
        where
          more : (from : ℕ) (steps : List Step) → from + length steps + 1 ≡ from + length (steps ++ step ∷ [])
          more from steps = omega (arith, length-append steps (step ∷ []))

      pub ended : (which : Which) (most : ℕ) → EndsIn plan h.answers number step h.at which most → LimitEndsOver false plan which most
      ended which most e =
          let ends = e.ends e.other (λ place less. (refl, refl)) in
          let f = ends.front in (
            e.other,
            e.items,
            record {
              next = ends.next;
              front =
                  inr (record {
                    between = between;
                    follows = follows_with e.other e.agree;
                    reached = f.0;
                    reaches =
                        record {
                          steps = h.steps;
                          stand = stand;
                          goes = goes_with e.other e.agree;
                          step = step;
                          due = due_here;
                          comes = subst (λ k. ComesTo (cluster_of plan) e.other k step h.at f.0) numbered f.1;
                        };
                    begins = f.2;
                  });
              within = ends.within;
              passed = ends.passed;
            },
          )

    -- ---- strict disks

    module _ (between : StrictSituation) (h : IsHealingAt true port plan between old place) where
      abbrev strict_stand : Standing StrictSituation
      strict_stand = record { stage = place.stage; at = h.at }

      strictly_due_here : due_at (moving_strictly plan) strict_stand ≡ Some step
      strictly_due_here = ap (due (cluster_of plan) place.stage) (past_is true between old place h) ∙ is_due.1

      strictly_numbered : number ≡ length plan.steps + length h.steps
      strictly_numbered = sym is_due.0 ∙ h.numbered

      pub took_strictly : (new : Cluster D) → StepsStrictly port plan number step new h.at
          → (now : Place) × TookDue plan next place now × IsHealingAt true port plan between new now
      took_strictly new n =
          let now : Place = place_after plan place n.next.found.own in
          let found = next_answered (cluster_of plan) no_faults number h.at n.next step n.next_is in
          let moved : GoesTo h.at.found n.next.found = next_goes (cluster_of plan) found.0 number step h.at.found n.next.found found.2 in
          let alone : n.next.found.earlier ≡ [] = moved.earlier_is ∙ h.alone in
          let adds : Begins h.at.found.own n.next.found.own = next_adds (cluster_of plan) found.0 number step h.at.found n.next.found found.2 in (
            now,
            record {
              next = ap (λ k. k + 1) is_due.0 ∙ sym next_is;
              now_is = refl;
              later = adds.later;
              items_are = adds.items_are ∙ ap (λ own. adds.later ++ own) h.items_are;
            },
            record {
              answers = h.answers;
              follows = h.follows;
              steps = h.steps ++ step ∷ [];
              at = n.next;
              goes =
                  subst (λ stage. Goes (moving_strictly plan) (length plan.steps) (h.steps ++ step ∷ []) (beginning_strictly plan between) (record { stage = stage; at = n.next }))
                  (λ i. stage_after (cluster_of plan) place.stage (past_is true between old place h i) (whole_alone n.next.found alone i))
                  (law.strictly plan (length plan.steps) h.steps (beginning_strictly plan between) strict_stand step n.next h.goes strictly_due_here
                  (subst (λ k. IsStrictNext (cluster_of plan) k step h.at n.next) strictly_numbered n.next_is));
              numbered = ap (λ k. k + 1) h.numbered ∙ more (length plan.steps) h.steps;
              items_are = refl;
              alone = alone;
              stands = n.stands;
            },
          )
        where
          more : (from : ℕ) (steps : List Step) → from + length steps + 1 ≡ from + length (steps ++ step ∷ [])
          more from steps = omega (arith, length-append steps (step ∷ []))

      pub ended_strictly : (which : Which) (most : ℕ) → EndsStrictlyIn plan number step h.at which most → LimitEndsOver true plan which most
      ended_strictly which most e =
          let f = e.ends.front in (
            e.items,
            record {
              next = e.ends.next;
              front =
                  inr (record {
                    between = between;
                    follows = h.follows;
                    reached = f.0;
                    reaches =
                        record {
                          steps = h.steps;
                          stand = strict_stand;
                          goes = h.goes;
                          step = step;
                          due = strictly_due_here;
                          comes = subst (λ k. StrictlyComesTo (cluster_of plan) k step h.at f.0) strictly_numbered f.1;
                        };
                    begins = f.2;
                  });
              within = e.ends.within;
              passed = e.ends.passed;
            },
          )

  -- ---- both

  module _ (law : StepByStep) (number next : ℕ) (step : Step) (next_is : next ≡ number + 1) (old new : Cluster D) where
    -- what the cluster says of a limit that it meets
    abbrev IfMet : RunError → Type 0
    IfMet = IfLimit (λ which most. (s : Situation) (answers : Answers) → StandsFor port plan old s → EndsHere port plan number step old new s which most answers)

    abbrev IfMetStrictly : RunError → Type 0
    IfMetStrictly = IfLimit (λ which most. (s : StrictSituation) → StandsStrictly port plan old s → EndsStrictlyHere plan number step new s which most)

    pub one_step_leads : ((s : Situation) (answers : Answers) → StandsFor port plan old s → StepsTo port plan answers number step (change old new) s)
        → ((s : StrictSituation) → StandsStrictly port plan old s → StepsStrictly port plan number step new s)
        → Leads port plan old new (IsDue plan number step) (TookDue plan next)
    one_step_leads ok strict false between place is_due h = took law number next step next_is old place is_due between h new (ok h.at h.answers h.stands)
    one_step_leads ok strict true between place is_due h = took_strictly law number next step next_is old place is_due between h new (strict h.at h.stands)

    ends_by : (which : Which) (most : ℕ) → IfMet (Limit which most) → IfMetStrictly (Limit which most) → EndsWithin port plan old (IsDue plan number step) which most
    ends_by which most limit strict false between place is_due h =
        ended law number next step next_is old place is_due between h which most (limit h.at h.answers h.stands).0
    ends_by which most limit strict true between place is_due h =
        ended_strictly law number next step next_is old place is_due between h which most (strict h.at h.stands).0

    pub if_step_ends : (error : RunError) → IfMet error → IfMetStrictly error → IfLimit (EndsWithin port plan old (IsDue plan number step)) error
    if_step_ends (Limit which most) limit strict = ends_by which most limit strict
    if_step_ends OutOfMemory limit strict = tt

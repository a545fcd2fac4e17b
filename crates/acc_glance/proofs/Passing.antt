-- From one moment to the next: the visits of the looks, and a step of the plan or none.
use Rattle.std.proofs.Common.{◌≡◌, ℕ, suc, ◌+◌, ◌<◌, ◌≤◌, Bool, true, false, List, [], ◌∷◌, ◌++◌, length, map, take, take_all, get_or, length-append, refl, sym, ◌∙◌, ap, subst, arith}
use Rattle.std.specs.Prelude.{nat_le}
use Rattle.std.specs.List.{AllByRecursion}
use Rattle.std.proofs.lemmas.List.{length-map, take_more}
use Rattle.acc_ports.specs.declared.disk.Disk.{Ghosts}
use Rattle.acc_message.specs.declared.item.Item.{Item}
use Rattle.acc_message.specs.Run.{Cluster as Of}
use Rattle.acc_schedule.specs.Content.{Content}
use Rattle.acc_schedule.specs.declared.plan.Step.{Step}
use Rattle.acc_schedule_runs.specs.Situations.{Situation, opened}
use Rattle.acc_schedule_runs.specs.Moves.{Answers, IsNext}
use Rattle.acc_schedule_runs.specs.Schedules.{cluster_of, Follows}
use Rattle.acc_schedule_runs.specs.Laws.{AgreeBelow}
use Rattle.acc_schedule_runs.specs.Fronts.{Begins}
use Rattle.acc_schedule_runs.specs.StrictMoves.{StrictSituation, opened_strictly, IsStrictNext}
use Rattle.acc_schedule_runs.specs.StrictSchedules.{FollowsStrictly}
use Rattle.acc_schedule_runs.specs.StrictLaws.{no_faults}
use Rattle.acc_schedule_runs.proofs.Answered.{fewer}
use Rattle.acc_schedule_runs.proofs.Reached.{next_adds}
use Rattle.acc_cluster.specs.declared.cluster.Cluster.{Cluster}
use Rattle.acc_cluster.specs.Stands.{StandsFor}
use Rattle.acc_cluster.specs.Steps.{change, StepsTo, StepsStrictly}
use Rattle.acc_run.proofs.Taking.{GoOn, GoOnStrictly, place_is}
use Rattle.acc_glance.specs.declared.visits.Visitor.{Visitor}
use Rattle.acc_glance.specs.Visits.{IsLed}
use Rattle.acc_glance.specs.Runs.{At, found_in, ArePassed, LeadsTo, RunsTo, StandsOver, beginning}
use Rattle.acc_glance.specs.UnderWay.{GrowTo, IsUnderWay}

-- the law that a run over strict disks is one with some answers
abbrev pub Answering : Type 0
Answering =
    (cluster : Of) (number : ℕ) (steps : List Step) (s last : StrictSituation) → FollowsStrictly cluster number steps s last
    → (answers : Answers) × Follows cluster answers number steps s.found last.found

-- ---- fronts

begins_itself : (own : List Item) → Begins own own
begins_itself own = record { later = []; items_are = refl }

begins_shorter : (a b : List Item) → Begins a b → length a ≤ length b
begins_shorter a b begins = subst (λ n. length a ≤ n) (sym (ap length begins.items_are ∙ length-append begins.later a)) (more (length a) (length begins.later))
  where
    more : (n k : ℕ) → n ≤ k + n
    more n k = omega arith

module _ {D : Type 0} (port : Ghosts D) (plan : Content) where
  pub begins_under_way : (strictly : Bool) (cluster : Cluster D) (visitors : List Visitor) → StandsOver strictly port plan cluster (beginning strictly)
      → AllByRecursion (IsLed plan []) visitors → IsUnderWay strictly port plan cluster visitors 0
  begins_under_way false cluster visitors stands led =
      record { answers = no_faults; moments = []; now = opened []; passed = (refl, tt); count_is = refl; goes_on = tt; stands = stands; led = led }
  begins_under_way true cluster visitors stands led =
      record { answers = no_faults; moments = []; now = opened_strictly []; passed = (refl, tt); count_is = refl; goes_on = tt; stands = stands; led = led }

  pub stands_found : (strictly : Bool) (cluster : Cluster D) (s : At strictly) → StandsOver strictly port plan cluster s → StandsFor port plan cluster (found_in strictly s)
  stands_found false cluster s stands = stands
  stands_found true cluster s stands = stands.stands

  -- what the visits of a moment promise of the looks
  abbrev pub Visits : Cluster D → ℕ → Bool → List Visitor → List Visitor → Type 0
  Visits cluster number over old new =
      (s : Situation) (moments : List Situation) → StandsFor port plan cluster s → number ≡ length moments → over ≡ nat_le (length plan.steps) (length moments)
      → AllByRecursion (IsLed plan moments) old → AllByRecursion (IsLed plan (s ∷ moments)) new

  pub led_further : (strictly : Bool) (cluster : Cluster D) (old new : List Visitor) (count number : ℕ) (over : Bool) (h : IsUnderWay strictly port plan cluster old count)
      → number ≡ count → over ≡ nat_le (length plan.steps) count → Visits cluster number over old new
      → AllByRecursion (IsLed plan (map (found_in strictly) (h.now ∷ h.moments))) new
  led_further strictly cluster old new count number over h number_is over_is visits =
      visits (found_in strictly h.now) (map (found_in strictly) h.moments) (stands_found strictly cluster h.now h.stands) (number_is ∙ sym long)
      (over_is ∙ ap (nat_le (length plan.steps)) (sym long)) h.led
    where
      long : length (map (found_in strictly) h.moments) ≡ count
      long = length-map h.moments (found_in strictly) ∙ h.count_is

  -- ---- a step

  passed_with : (law : GoOn) (answers other : Answers) (own : List Item) (moments : List Situation) → AgreeBelow answers other (length own) → GrowTo false own moments
      → ArePassed false plan answers moments → ArePassed false plan other moments
  passed_with law answers other own [] agree grow passed = tt
  passed_with law answers other own (s ∷ moments) agree grow passed =
      let below : AgreeBelow answers other (length s.own) = fewer (begins_shorter s.own own grow.0) agree in (
        law.answers (cluster_of plan) answers other 0 (take (length moments) plan.steps) (opened []) s below passed.0,
        passed_with law answers other s.own moments below grow.1 passed.1,
      )

  passed_anyway : (answers other : Answers) (moments : List StrictSituation) → ArePassed true plan answers moments → ArePassed true plan other moments
  passed_anyway answers other [] passed = tt
  passed_anyway answers other (s ∷ moments) passed = (passed.0, passed_anyway answers other moments passed.1)

  -- a step over strict disks is one with some answers, so it only adds items
  strict_adds : Answering → (number : ℕ) (step : Step) (s next : StrictSituation) → IsStrictNext (cluster_of plan) number step s next → Begins s.found.own next.found.own
  strict_adds answering number step s next is =
      let f = answering (cluster_of plan) number (step ∷ []) s next (next, is, refl) in by f.0 f.1
    where
      by : (answers : Answers) → Follows (cluster_of plan) answers number (step ∷ []) s.found next.found → Begins s.found.own next.found.own
      by answers (between, goes, same) =
          subst (λ (t : Situation). Begins s.found.own t.own) (sym same) (next_adds (cluster_of plan) answers number step s.found between goes)

  module _ (count number : ℕ) (step d : Step) (within : count < length plan.steps) (step_is : step ≡ get_or plan.steps count d) (number_is : number ≡ count) (old new : Cluster D)
      (before visitors : List Visitor) where
    one_more_step : take count plan.steps ++ step ∷ [] ≡ take (count + 1) plan.steps
    one_more_step = ap (λ (x : Step). take count plan.steps ++ x ∷ []) step_is ∙ sym (take_more plan.steps count d within)

    pub stepped : (law : GoOn) (h : IsUnderWay false port plan old before count) → StepsTo port plan h.answers number step (change old new) h.now
        → AllByRecursion (IsLed plan (map (found_in false) (h.now ∷ h.moments))) visitors → IsUnderWay false port plan new visitors (count + 1)
    stepped law h n led =
        let adds = next_adds (cluster_of plan) n.other number step h.now n.next n.next_is in
        record {
          answers = n.other;
          moments = h.now ∷ h.moments;
          now = n.next;
          passed = (
            subst (λ (k : ℕ). Follows (cluster_of plan) n.other 0 (take k plan.steps) (opened []) n.next) (counted (length h.moments) count h.count_is)
                (subst (λ steps. Follows (cluster_of plan) n.other 0 steps (opened []) n.next) one_more_step
                (law.step (cluster_of plan) n.other 0 (take count plan.steps) step (opened []) h.now n.next
                (subst (λ (k : ℕ). Follows (cluster_of plan) n.other 0 (take k plan.steps) (opened []) h.now) h.count_is
                (law.answers (cluster_of plan) h.answers n.other 0 (take (length h.moments) plan.steps) (opened []) h.now n.agree h.passed.0))
                (subst (λ (k : ℕ). IsNext (cluster_of plan) n.other k step h.now n.next) (place_is plan.steps count number number_is within) n.next_is))),
            (
              law.answers (cluster_of plan) h.answers n.other 0 (take (length h.moments) plan.steps) (opened []) h.now n.agree h.passed.0,
              passed_with law h.answers n.other h.now.own h.moments n.agree h.goes_on h.passed.1,
            ),
          );
          count_is = longer (length h.moments) count h.count_is;
          goes_on = (adds, h.goes_on);
          stands = n.stands;
          led = led;
        }
      where
        counted : (a b : ℕ) → a ≡ b → b + 1 ≡ suc a
        counted a b is = omega (arith, is)

        longer : (a b : ℕ) → a ≡ b → suc a ≡ b + 1
        longer a b is = omega (arith, is)

    pub stepped_strictly : (law : GoOnStrictly) → Answering → (h : IsUnderWay true port plan old before count) → StepsStrictly port plan number step new h.now
        → AllByRecursion (IsLed plan (map (found_in true) (h.now ∷ h.moments))) visitors → IsUnderWay true port plan new visitors (count + 1)
    stepped_strictly law answering h n led =
        let more = strict_adds answering number step h.now n.next n.next_is in
        record {
          answers = h.answers;
          moments = h.now ∷ h.moments;
          now = n.next;
          passed = (
            subst (λ (k : ℕ). FollowsStrictly (cluster_of plan) 0 (take k plan.steps) (opened_strictly []) n.next) (counted (length h.moments) count h.count_is)
                (subst (λ steps. FollowsStrictly (cluster_of plan) 0 steps (opened_strictly []) n.next) one_more_step
                (law.step (cluster_of plan) 0 (take count plan.steps) step (opened_strictly []) h.now n.next
                (subst (λ (k : ℕ). FollowsStrictly (cluster_of plan) 0 (take k plan.steps) (opened_strictly []) h.now) h.count_is h.passed.0)
                (subst (λ (k : ℕ). IsStrictNext (cluster_of plan) k step h.now n.next) (place_is plan.steps count number number_is within) n.next_is))),
            h.passed,
          );
          count_is = longer (length h.moments) count h.count_is;
          goes_on = (more, h.goes_on);
          stands = n.stands;
          led = led;
        }
      where
        counted : (a b : ℕ) → a ≡ b → b + 1 ≡ suc a
        counted a b is = omega (arith, is)

        longer : (a b : ℕ) → a ≡ b → suc a ≡ b + 1
        longer a b is = omega (arith, is)

  -- ---- no step

  leads_on : (strictly : Bool) (answers : Answers) (count other : ℕ) (s : At strictly) → take count plan.steps ≡ take other plan.steps → LeadsTo strictly plan answers count s
      → LeadsTo strictly plan answers other s
  leads_on false answers count other s same leads = subst (λ steps. Follows (cluster_of plan) answers 0 steps (opened []) s) same leads
  leads_on true answers count other s same leads = subst (λ steps. FollowsStrictly (cluster_of plan) 0 steps (opened_strictly []) s) same leads

  pub still : (strictly : Bool) (cluster : Cluster D) (before visitors : List Visitor) (count : ℕ) → length plan.steps ≤ count → (h : IsUnderWay strictly port plan cluster before count)
      → AllByRecursion (IsLed plan (map (found_in strictly) (h.now ∷ h.moments))) visitors → IsUnderWay strictly port plan cluster visitors (count + 1)
  still strictly cluster before visitors count past h led =
      record {
        answers = h.answers;
        moments = h.now ∷ h.moments;
        now = h.now;
        passed = (
          leads_on strictly h.answers (length h.moments) (suc (length h.moments)) h.now
              (take_all (length h.moments) plan.steps (reached (length h.moments) count h.count_is past)
              ∙ sym (take_all (suc (length h.moments)) plan.steps (reached_more (length h.moments) count h.count_is past))) h.passed.0,
          h.passed,
        );
        count_is = longer (length h.moments) count h.count_is;
        goes_on = (begins_itself (found_in strictly h.now).own, h.goes_on);
        stands = h.stands;
        led = led;
      }
    where
      longer : (a b : ℕ) → a ≡ b → suc a ≡ b + 1
      longer a b is = omega (arith, is)

      reached : (a b : ℕ) → a ≡ b → length plan.steps ≤ b → length plan.steps ≤ a
      reached a b is le = omega (arith, is, le)

      reached_more : (a b : ℕ) → a ≡ b → length plan.steps ≤ b → length plan.steps ≤ suc a
      reached_more a b is le = omega (arith, is, le)

  -- all steps lead there
  pub all_led : (strictly : Bool) (cluster : Cluster D) (visitors : List Visitor) (count : ℕ) → length plan.steps ≤ count → (h : IsUnderWay strictly port plan cluster visitors count)
      → RunsTo strictly plan h.answers h.now
  all_led strictly cluster visitors count past h =
      by strictly h.answers (length h.moments) h.now (take_all (length h.moments) plan.steps (reached (length h.moments) count h.count_is past)) h.passed.0
    where
      reached : (a b : ℕ) → a ≡ b → length plan.steps ≤ b → length plan.steps ≤ a
      reached a b is le = omega (arith, is, le)

      by : (strictly : Bool) (answers : Answers) (n : ℕ) (s : At strictly) → take n plan.steps ≡ plan.steps → LeadsTo strictly plan answers n s → RunsTo strictly plan answers s
      by false answers n s all leads = subst (λ steps. Follows (cluster_of plan) answers 0 steps (opened []) s) all leads
      by true answers n s all leads = subst (λ steps. FollowsStrictly (cluster_of plan) 0 steps (opened_strictly []) s) all leads

-- Fronts and limits of healings: they are those of schedules that have the steps of the healing after the plan's.
use Rattle.std.proofs.Common.{◌≡◌, ℕ, ◌+◌, ◌≤◌, ◌⊎◌, inl, inr, List, [], ◌∷◌, ◌++◌, length, None, refl, sym, subst, arith}
use Rattle.std.proofs.lemmas.List.{append_assoc, length-append}
use Rattle.acc_message.specs.declared.error.Which.{Which}
use Rattle.acc_message.specs.declared.item.Item.{Item}
use Rattle.acc_message.specs.Run.{Cluster}
use Rattle.acc_schedule.specs.declared.plan.Step.{Step}
use Rattle.acc_schedule.specs.Content.{Content}
use Rattle.acc_schedule_runs.specs.Situations.{Situation, opened, whole}
use Rattle.acc_schedule_runs.specs.Moves.{Answers}
use Rattle.acc_schedule_runs.specs.Schedules.{Follows, cluster_of, Obeys}
use Rattle.acc_schedule_runs.specs.Limits.{IsWithin}
use Rattle.acc_schedule_runs.specs.Fronts.{ComesTo, Reaches, Begins, IsFront, LimitEnds}
use Rattle.acc_schedule_runs.proofs.Beginnings.{begins_itself, begins_chain}
use Rattle.acc_schedule_runs.proofs.OneRun.{one_next, one_last}
use Rattle.acc_schedule_runs.proofs.Reached.{comes_adds}
use Rattle.acc_heal_laws.specs.Healings.{Standing, Goes, due_at, moving_with, beginning, IsHealing}
use Rattle.acc_heal_laws.specs.HealingFronts.{HealingReaches, IsHealingFront, IsFrontWithHealing, LimitEndsWithHealing}
use Rattle.acc_heal_laws.specs.Stages.{reopening}
use Rattle.acc_heal_laws.specs.FrontLaws.{StandInLine, IsLongest, LimitOrWhole}
use Rattle.acc_heal_laws.proofs.Reopened.{goes_goes}
use Rattle.acc_heal_laws.proofs.GoesOn.{goes_follows, follows_both}
use Rattle.acc_heal_laws.proofs.HealingTurns.{past_begins}
use Rattle.acc_heal_laws.proofs.SameGoing.{begins_due, common, whole_has, ends_reach}
use Rattle.acc_heal_laws.proofs.Stepwise.{next_comes}

-- the plan with other steps
abbrev pub with_steps : Content → List Step → Content
with_steps plan steps =
    record {
      version = plan.version;
      topology = plan.topology;
      starts = plan.starts;
      names = plan.names;
      homes = plan.homes;
      bodies = plan.bodies;
      steps = steps;
      print = plan.print;
    }

-- what is known of the fronts of plans, over disks with given answers
pub record FrontFacts : Type 0 where
  pub step :
      (cluster : Cluster) (answers : Answers) (number : ℕ) (steps more : List Step) (step : Step) (s between reached : Situation)
      → Follows cluster answers number steps s between → ComesTo cluster answers (number + length steps) step between reached
      → Reaches cluster answers number (steps ++ step ∷ more) s reached
  pub line :
      (plan : Content) (answers : Answers) (one other : List Item) → IsFront plan answers one → IsFront plan answers other
      → length one ≤ length other → Begins one other
  pub whole : (plan : Content) (answers : Answers) (items : List Item) → Obeys plan answers items → IsFront plan answers items
  pub longest :
      (plan : Content) (answers : Answers) (items front : List Item) → Obeys plan answers items → IsFront plan answers front → Begins front items
  pub one :
      (plan : Content) (answers : Answers) (one other : List Item) (which which_other : Which) (number number_other : ℕ)
      → LimitEnds plan answers one which number → LimitEnds plan answers other which_other number_other
      → (one ≡ other) × (which ≡ which_other) × (number ≡ number_other)
  pub either :
      (plan : Content) (answers : Answers) (items : List Item) → Obeys plan answers items
      → IsWithin items ⊎ ((front : List Item) × (which : Which) × (number : ℕ) × LimitEnds plan answers front which number)
  pub not_both :
      (plan : Content) (answers : Answers) (items front : List Item) (which : Which) (number : ℕ) → Obeys plan answers items → IsWithin items
      → LimitEnds plan answers front which number → ⊥

module _ (facts : FrontFacts) (plan : Content) (answers : Answers) where
  abbrev cluster : Cluster
  cluster = cluster_of plan

  none_plus : (n : ℕ) → n ≡ 0 + n
  none_plus n = omega arith

  follows_on : (steps : List Step) (between : Situation) (to : Standing Situation) → Follows cluster answers 0 plan.steps (opened []) between
      → Goes (moving_with plan answers) (length plan.steps) steps (beginning plan between) to → Follows cluster answers 0 (plan.steps ++ steps) (opened []) to.at
  follows_on steps between to follows goes =
      follows_both cluster answers 0 plan.steps steps (opened []) between to.at follows
      (subst (λ k. Follows cluster answers k steps between to.at) (none_plus (length plan.steps))
      (goes_follows plan answers (length plan.steps) steps (beginning plan between) to goes))

  -- ---- fronts of healings are fronts of schedules

  reach : (between reached : Situation) → Follows cluster answers 0 plan.steps (opened []) between
      → (h : HealingReaches (moving_with plan answers) (length plan.steps) (beginning plan between) reached) (more : List Step)
      → Reaches cluster answers 0 (plan.steps ++ (h.steps ++ h.step ∷ more)) (opened []) reached
  reach between reached follows h more =
      subst (λ l. Reaches cluster answers 0 l (opened []) reached) (append_assoc plan.steps h.steps (h.step ∷ more))
      (facts.step cluster answers 0 (plan.steps ++ h.steps) more h.step (opened []) h.stand.at reached (follows_on h.steps between h.stand follows h.goes)
      (subst (λ n. ComesTo cluster answers n h.step h.stand.at reached)
      (places (length plan.steps) (length h.steps) (length (plan.steps ++ h.steps)) (length-append plan.steps h.steps)) h.comes))
    where
      places : (i j k : ℕ) → k ≡ i + j → i + j ≡ 0 + k
      places i j k e = omega (arith, e)

  begins_reached : (between reached : Situation) → HealingReaches (moving_with plan answers) (length plan.steps) (beginning plan between) reached
      → Begins between.own reached.own
  begins_reached between reached h =
      begins_chain between.own h.stand.at.own reached.own
      (past_begins between.own h.stand.at.own (goes_goes plan answers (length plan.steps) h.steps (beginning plan between) h.stand h.goes).grows)
      (comes_adds cluster answers (length plan.steps + length h.steps) h.step h.stand.at reached h.comes)

  record BothFronts (one other : List Item) : Type 0 where
    steps : List Step
    one_is : IsFront (with_steps plan steps) answers one
    other_is : IsFront (with_steps plan steps) answers other

  mixed : (one other : List Item) → IsFront plan answers one → IsHealingFront plan answers other → BothFronts one other
  mixed one other a b =
      let reaches = reach b.between b.reached b.follows b.reaches [] in
      let before =
      facts.longest plan answers b.between.own one (record { last = b.between; follows = b.follows; items_are = refl }) a in
      record {
        steps = plan.steps ++ (b.reaches.steps ++ b.reaches.step ∷ []);
        one_is = record {
          reached = b.reached;
          reaches = reaches;
          begins = begins_chain one b.between.own b.reached.own before (begins_reached b.between b.reached b.reaches);
        };
        other_is = record { reached = b.reached; reaches = reaches; begins = b.begins };
      }

  healings : (one other : List Item) → IsHealingFront plan answers one → IsHealingFront plan answers other → BothFronts one other
  healings one other a b =
      let same : b.between ≡ a.between = one_last cluster answers 0 plan.steps (opened []) b.between a.between b.follows a.follows in
      let rb : HealingReaches (moving_with plan answers) (length plan.steps) (beginning plan a.between) b.reached =
      subst (λ k. HealingReaches (moving_with plan answers) (length plan.steps) (beginning plan k) b.reached) same b.reaches in
      let c =
      common (moving_with plan answers) (one_next cluster answers) (length plan.steps) a.reaches.steps rb.steps (beginning plan a.between) a.reaches.stand
      rb.stand a.reaches.step rb.step a.reaches.goes rb.goes a.reaches.due rb.due in
      record {
        steps = plan.steps ++ (a.reaches.steps ++ a.reaches.step ∷ c.more);
        one_is = record { reached = a.reached; reaches = reach a.between a.reached a.follows a.reaches c.more; begins = a.begins };
        other_is = record {
          reached = b.reached;
          reaches =
              subst (λ l. Reaches cluster answers 0 (plan.steps ++ l) (opened []) b.reached) (sym c.same)
              (reach a.between b.reached a.follows rb c.other_more);
          begins = b.begins;
        };
      }

  both : (one other : List Item) → IsFrontWithHealing plan answers one → IsFrontWithHealing plan answers other → BothFronts one other
  both one other (inl a) (inl b) =
      record {
        steps = plan.steps;
        one_is = record { reached = a.reached; reaches = a.reaches; begins = a.begins };
        other_is = record { reached = b.reached; reaches = b.reaches; begins = b.begins };
      }
  both one other (inl a) (inr b) = mixed one other a b
  both one other (inr a) (inl b) = let m = mixed other one b a in record { steps = m.steps; one_is = m.other_is; other_is = m.one_is }
  both one other (inr a) (inr b) = healings one other a b

  pub in_line : StandInLine (IsFrontWithHealing plan answers)
  in_line one other a b less = let k = both one other a b in facts.line (with_steps plan k.steps) answers one other k.one_is k.other_is less

  pub one_limit : (one other : List Item) (which which_other : Which) (number number_other : ℕ) → LimitEndsWithHealing plan answers one which number
      → LimitEndsWithHealing plan answers other which_other number_other → (one ≡ other) × (which ≡ which_other) × (number ≡ number_other)
  one_limit one other which which_other number number_other a b =
      let k = both (a.next ∷ one) (b.next ∷ other) a.front b.front in
      facts.one (with_steps plan k.steps) answers one other which which_other number number_other
      (record { next = a.next; front = k.one_is; within = a.within; passed = a.passed })
      (record { next = b.next; front = k.other_is; within = b.within; passed = b.passed })

  -- ---- healings that come to an end

  module _ (steps : List Step) (between last : Situation) (h : IsHealing plan answers steps between last) where
    abbrev to : Standing Situation
    to = record { stage = h.heals.stage; at = last }

    obeys : Obeys (with_steps plan (plan.steps ++ steps)) answers last.own
    obeys = record { last = last; follows = follows_on steps between to h.follows h.heals.goes; items_are = refl }

    last_reaches : HealingReaches (moving_with plan answers) (length plan.steps) (beginning plan between) last
    last_reaches = by steps h.heals.goes
      where
        by : (l : List Step) → Goes (moving_with plan answers) (length plan.steps) l (beginning plan between) to
            → HealingReaches (moving_with plan answers) (length plan.steps) (beginning plan between) last
        by [] g =
            absurd
            (begins_due cluster (reopening plan (whole between)) (whole between)
            (subst (λ (k : Standing Situation). due_at (moving_with plan answers) k ≡ None) g h.heals.done))
        by (step ∷ l) g = ends_reach (moving_with plan answers) (next_comes cluster answers) (length plan.steps) step l (beginning plan between) to g

    part : (front : List Item) → Begins front last.own → IsFrontWithHealing plan answers front
    part front begins = inr (record { between = between; follows = h.follows; reached = last; reaches = last_reaches; begins = begins })

    longest : (front : List Item) → IsFrontWithHealing plan answers front → Begins front last.own
    longest front (inl a) =
        begins_chain front between.own last.own
        (facts.longest plan answers between.own front (record { last = between; follows = h.follows; items_are = refl }) a)
        (begins_reached between last last_reaches)
    longest front (inr b) =
        let same : b.between ≡ between = one_last cluster answers 0 plan.steps (opened []) b.between between b.follows h.follows in
        let rb : HealingReaches (moving_with plan answers) (length plan.steps) (beginning plan between) b.reached =
        subst (λ k. HealingReaches (moving_with plan answers) (length plan.steps) (beginning plan k) b.reached) same b.reaches in
        let all =
        whole_has (moving_with plan answers) (one_next cluster answers) (length plan.steps) rb.steps steps (beginning plan between) rb.stand to rb.step rb.goes
        h.heals.goes rb.due h.heals.done in
        facts.longest (with_steps plan (plan.steps ++ steps)) answers last.own front obeys
        (record {
          reached = b.reached;
          reaches =
              subst (λ l. Reaches cluster answers 0 (plan.steps ++ l) (opened []) b.reached) (sym all.1) (reach between b.reached h.follows rb all.0);
          begins = b.begins;
        })

    pub is_longest : IsLongest (IsFrontWithHealing plan answers) last.own
    is_longest = record { is_front = part last.own (begins_itself last.own); longest = longest }

    pub limit_or_whole : LimitOrWhole (LimitEndsWithHealing plan answers) last.own
    limit_or_whole = record { one = by (facts.either (with_steps plan (plan.steps ++ steps)) answers last.own obeys); not_both = never }
      where
        by : IsWithin last.own ⊎ ((front : List Item) × (which : Which) × (number : ℕ) × LimitEnds (with_steps plan (plan.steps ++ steps)) answers front which number)
            → IsWithin last.own ⊎ ((front : List Item) × (which : Which) × (number : ℕ) × LimitEndsWithHealing plan answers front which number)
        by (inl within) = inl within
        by (inr e) =
            let l = e.3 in
            inr (
              e.0,
              e.1,
              e.2,
              record {
                next = l.next;
                front =
                    part (l.next ∷ e.0)
                    (facts.longest (with_steps plan (plan.steps ++ steps)) answers last.own (l.next ∷ e.0) obeys l.front);
                within = l.within;
                passed = l.passed;
              },
            )

        never : (front : List Item) (which : Which) (number : ℕ) → IsWithin last.own → LimitEndsWithHealing plan answers front which number → ⊥
        never front which number within ends =
            let w = facts.whole (with_steps plan (plan.steps ++ steps)) answers last.own obeys in
            facts.not_both (with_steps plan (plan.steps ++ steps)) answers last.own front which number obeys within
            (record {
              next = ends.next;
              front = record {
                reached = w.reached;
                reaches = w.reaches;
                begins = begins_chain (ends.next ∷ front) last.own w.reached.own (longest (ends.next ∷ front) ends.front) w.begins;
              };
              within = ends.within;
              passed = ends.passed;
            })

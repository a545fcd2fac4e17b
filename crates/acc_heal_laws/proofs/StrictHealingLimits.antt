-- Fronts and limits of healings over strict disks: they are those of schedules that have the steps of the healing after the plan's.
use Rattle.std.proofs.Common.{◌≡◌, ℕ, ◌+◌, ◌≤◌, ◌⊎◌, inl, inr, List, [], ◌∷◌, ◌++◌, length, Some, None, refl, sym, ◌∙◌, ap, subst, arith}
use Rattle.std.proofs.lemmas.List.{append_assoc, length-append}
use Rattle.acc_message.specs.declared.error.Which.{Which}
use Rattle.acc_message.specs.declared.item.Item.{Item}
use Rattle.acc_message.specs.Run.{Cluster}
use Rattle.acc_schedule.specs.declared.plan.Step.{Step}
use Rattle.acc_schedule.specs.Content.{Content}
use Rattle.acc_schedule_runs.specs.Situations.{whole}
use Rattle.acc_schedule_runs.specs.Moves.{Answers}
use Rattle.acc_schedule_runs.specs.Schedules.{cluster_of}
use Rattle.acc_schedule_runs.specs.StrictMoves.{StrictSituation, opened_strictly}
use Rattle.acc_schedule_runs.specs.StrictSchedules.{FollowsStrictly, ObeysStrictly}
use Rattle.acc_schedule_runs.specs.StrictLaws.{no_faults}
use Rattle.acc_schedule_runs.specs.Limits.{IsWithin}
use Rattle.acc_schedule_runs.specs.Fronts.{Begins, LimitEnds}
use Rattle.acc_schedule_runs.specs.StrictFronts.{StrictlyComesTo, StrictlyReaches, IsStrictFront, StrictLimitEnds}
use Rattle.acc_schedule_runs.proofs.Beginnings.{begins_itself, begins_chain}
use Rattle.acc_schedule_runs.proofs.OneStrictRun.{one_next, one_last}
use Rattle.acc_schedule_runs.proofs.Reached.{comes_adds}
use Rattle.acc_heal_laws.specs.Stages.{reopening}
use Rattle.acc_heal_laws.specs.Healings.{Standing, Goes, due_at, moving_strictly, beginning, beginning_strictly, IsStrictHealing}
use Rattle.acc_heal_laws.specs.HealingFronts.{HealingReaches, LimitEndsWithHealing, IsStrictHealingFront, IsStrictFrontWithHealing, StrictLimitEndsWithHealing}
use Rattle.acc_heal_laws.specs.FrontLaws.{StandInLine, IsLongest, LimitOrWhole, StrictLimitsAreAnswered, OneStrictEnd}
use Rattle.acc_heal_laws.proofs.Reopened.{goes_goes}
use Rattle.acc_heal_laws.proofs.HealingTurns.{past_begins}
use Rattle.acc_heal_laws.proofs.SameGoing.{begins_due, common, whole_has, ends_reach}
use Rattle.acc_heal_laws.proofs.HealingLimits.{with_steps}
use Rattle.acc_heal_laws.proofs.Alike.{one_strict_healing}
use Rattle.acc_heal_laws.proofs.StrictGoing.{found_standing, goes_answered, comes_answered, front_answered, strict_next_comes, goes_strictly, strictly_both}

-- what is known of the fronts of plans, over strict disks
pub record StrictFrontFacts : Type 0 where
  pub step :
      (cluster : Cluster) (number : ℕ) (steps more : List Step) (step : Step) (s between reached : StrictSituation)
      → FollowsStrictly cluster number steps s between → StrictlyComesTo cluster (number + length steps) step between reached
      → StrictlyReaches cluster number (steps ++ step ∷ more) s reached
  pub line :
      (plan : Content) (one other : List Item) → IsStrictFront plan one → IsStrictFront plan other
      → length one ≤ length other → Begins one other
  pub whole : (plan : Content) (items : List Item) → ObeysStrictly plan items → IsStrictFront plan items
  pub longest :
      (plan : Content) (items front : List Item) → ObeysStrictly plan items → IsStrictFront plan front → Begins front items
  pub one :
      (plan : Content) (one other : List Item) (which which_other : Which) (number number_other : ℕ)
      → StrictLimitEnds plan one which number → StrictLimitEnds plan other which_other number_other
      → (one ≡ other) × (which ≡ which_other) × (number ≡ number_other)
  pub either :
      (plan : Content) (items : List Item) → ObeysStrictly plan items
      → IsWithin items ⊎ ((front : List Item) × (which : Which) × (number : ℕ) × StrictLimitEnds plan front which number)
  pub not_both :
      (plan : Content) (items front : List Item) (which : Which) (number : ℕ) → ObeysStrictly plan items → IsWithin items
      → StrictLimitEnds plan front which number → ⊥

module _ (facts : StrictFrontFacts) (plan : Content) where
  abbrev cluster : Cluster
  cluster = cluster_of plan

  none_plus : (n : ℕ) → n ≡ 0 + n
  none_plus n = omega arith

  follows_on : (steps : List Step) (between : StrictSituation) (to : Standing StrictSituation) → FollowsStrictly cluster 0 plan.steps (opened_strictly []) between
      → Goes (moving_strictly plan) (length plan.steps) steps (beginning_strictly plan between) to → FollowsStrictly cluster 0 (plan.steps ++ steps) (opened_strictly []) to.at
  follows_on steps between to follows goes =
      strictly_both cluster 0 plan.steps steps (opened_strictly []) between to.at follows
      (subst (λ k. FollowsStrictly cluster k steps between to.at) (none_plus (length plan.steps))
      (goes_strictly plan (length plan.steps) steps (beginning_strictly plan between) to goes))

  -- ---- fronts of healings are fronts of schedules

  reach : (between reached : StrictSituation) → FollowsStrictly cluster 0 plan.steps (opened_strictly []) between
      → (h : HealingReaches (moving_strictly plan) (length plan.steps) (beginning_strictly plan between) reached) (more : List Step)
      → StrictlyReaches cluster 0 (plan.steps ++ (h.steps ++ h.step ∷ more)) (opened_strictly []) reached
  reach between reached follows h more =
      subst (λ l. StrictlyReaches cluster 0 l (opened_strictly []) reached) (append_assoc plan.steps h.steps (h.step ∷ more))
      (facts.step cluster 0 (plan.steps ++ h.steps) more h.step (opened_strictly []) h.stand.at reached (follows_on h.steps between h.stand follows h.goes)
      (subst (λ n. StrictlyComesTo cluster n h.step h.stand.at reached)
      (places (length plan.steps) (length h.steps) (length (plan.steps ++ h.steps)) (length-append plan.steps h.steps)) h.comes))
    where
      places : (i j k : ℕ) → k ≡ i + j → i + j ≡ 0 + k
      places i j k e = omega (arith, e)

  begins_reached : (between reached : StrictSituation) → HealingReaches (moving_strictly plan) (length plan.steps) (beginning_strictly plan between) reached
      → Begins between.found.own reached.found.own
  begins_reached between reached h =
      let number : ℕ = length plan.steps in
      let one = goes_answered plan no_faults number h.steps (beginning_strictly plan between) h.stand h.goes in
      let two = comes_answered plan one.0 (number + length h.steps) h.stand.at reached h.step h.comes in
      begins_chain between.found.own h.stand.at.found.own reached.found.own
      (past_begins between.found.own h.stand.at.found.own
      (goes_goes plan one.0 number h.steps (beginning plan between.found) (found_standing h.stand) one.2).grows)
      (comes_adds cluster two.0 (number + length h.steps) h.step h.stand.at.found reached.found two.2)

  record BothFronts (one other : List Item) : Type 0 where
    steps : List Step
    one_is : IsStrictFront (with_steps plan steps) one
    other_is : IsStrictFront (with_steps plan steps) other

  mixed : (one other : List Item) → IsStrictFront plan one → IsStrictHealingFront plan other → BothFronts one other
  mixed one other a b =
      let reaches = reach b.between b.reached b.follows b.reaches [] in
      let before =
      facts.longest plan b.between.found.own one (record { last = b.between; follows = b.follows; items_are = refl }) a in
      record {
        steps = plan.steps ++ (b.reaches.steps ++ b.reaches.step ∷ []);
        one_is = record {
          reached = b.reached;
          reaches = reaches;
          begins = begins_chain one b.between.found.own b.reached.found.own before (begins_reached b.between b.reached b.reaches);
        };
        other_is = record { reached = b.reached; reaches = reaches; begins = b.begins };
      }

  healings : (one other : List Item) → IsStrictHealingFront plan one → IsStrictHealingFront plan other → BothFronts one other
  healings one other a b =
      let same : b.between ≡ a.between = one_last cluster 0 plan.steps (opened_strictly []) b.between a.between b.follows a.follows in
      let rb : HealingReaches (moving_strictly plan) (length plan.steps) (beginning_strictly plan a.between) b.reached =
      subst (λ k. HealingReaches (moving_strictly plan) (length plan.steps) (beginning_strictly plan k) b.reached) same b.reaches in
      let c =
      common (moving_strictly plan) (one_next cluster) (length plan.steps) a.reaches.steps rb.steps (beginning_strictly plan a.between) a.reaches.stand
      rb.stand a.reaches.step rb.step a.reaches.goes rb.goes a.reaches.due rb.due in
      record {
        steps = plan.steps ++ (a.reaches.steps ++ a.reaches.step ∷ c.more);
        one_is = record { reached = a.reached; reaches = reach a.between a.reached a.follows a.reaches c.more; begins = a.begins };
        other_is = record {
          reached = b.reached;
          reaches =
              subst (λ l. StrictlyReaches cluster 0 (plan.steps ++ l) (opened_strictly []) b.reached) (sym c.same)
              (reach a.between b.reached a.follows rb c.other_more);
          begins = b.begins;
        };
      }

  both : (one other : List Item) → IsStrictFrontWithHealing plan one → IsStrictFrontWithHealing plan other → BothFronts one other
  both one other (inl a) (inl b) =
      record {
        steps = plan.steps;
        one_is = record { reached = a.reached; reaches = a.reaches; begins = a.begins };
        other_is = record { reached = b.reached; reaches = b.reaches; begins = b.begins };
      }
  both one other (inl a) (inr b) = mixed one other a b
  both one other (inr a) (inl b) = let m = mixed other one b a in record { steps = m.steps; one_is = m.other_is; other_is = m.one_is }
  both one other (inr a) (inr b) = healings one other a b

  pub in_line : StandInLine (IsStrictFrontWithHealing plan)
  in_line one other a b less = let k = both one other a b in facts.line (with_steps plan k.steps) one other k.one_is k.other_is less

  pub one_limit : (one other : List Item) (which which_other : Which) (number number_other : ℕ) → StrictLimitEndsWithHealing plan one which number
      → StrictLimitEndsWithHealing plan other which_other number_other → (one ≡ other) × (which ≡ which_other) × (number ≡ number_other)
  one_limit one other which which_other number number_other a b =
      let k = both (a.next ∷ one) (b.next ∷ other) a.front b.front in
      facts.one (with_steps plan k.steps) one other which which_other number number_other
      (record { next = a.next; front = k.one_is; within = a.within; passed = a.passed })
      (record { next = b.next; front = k.other_is; within = b.within; passed = b.passed })

  -- ---- healings that come to an end

  module _ (steps : List Step) (between last : StrictSituation) (h : IsStrictHealing plan steps between last) where
    abbrev to : Standing StrictSituation
    to = record { stage = h.heals.stage; at = last }

    obeys : ObeysStrictly (with_steps plan (plan.steps ++ steps)) last.found.own
    obeys = record { last = last; follows = follows_on steps between to h.follows h.heals.goes; items_are = refl }

    last_reaches : HealingReaches (moving_strictly plan) (length plan.steps) (beginning_strictly plan between) last
    last_reaches = by steps h.heals.goes
      where
        by : (l : List Step) → Goes (moving_strictly plan) (length plan.steps) l (beginning_strictly plan between) to
            → HealingReaches (moving_strictly plan) (length plan.steps) (beginning_strictly plan between) last
        by [] g =
            absurd
            (begins_due cluster (reopening plan (whole between.found)) (whole between.found)
            (subst (λ (k : Standing StrictSituation). due_at (moving_strictly plan) k ≡ None) g h.heals.done))
        by (step ∷ l) g = ends_reach (moving_strictly plan) (strict_next_comes cluster) (length plan.steps) step l (beginning_strictly plan between) to g

    part : (front : List Item) → Begins front last.found.own → IsStrictFrontWithHealing plan front
    part front begins = inr (record { between = between; follows = h.follows; reached = last; reaches = last_reaches; begins = begins })

    longest : (front : List Item) → IsStrictFrontWithHealing plan front → Begins front last.found.own
    longest front (inl a) =
        begins_chain front between.found.own last.found.own
        (facts.longest plan between.found.own front (record { last = between; follows = h.follows; items_are = refl }) a)
        (begins_reached between last last_reaches)
    longest front (inr b) =
        let same : b.between ≡ between = one_last cluster 0 plan.steps (opened_strictly []) b.between between b.follows h.follows in
        let rb : HealingReaches (moving_strictly plan) (length plan.steps) (beginning_strictly plan between) b.reached =
        subst (λ k. HealingReaches (moving_strictly plan) (length plan.steps) (beginning_strictly plan k) b.reached) same b.reaches in
        let all =
        whole_has (moving_strictly plan) (one_next cluster) (length plan.steps) rb.steps steps (beginning_strictly plan between) rb.stand to rb.step rb.goes
        h.heals.goes rb.due h.heals.done in
        facts.longest (with_steps plan (plan.steps ++ steps)) last.found.own front obeys
        (record {
          reached = b.reached;
          reaches =
              subst (λ l. StrictlyReaches cluster 0 (plan.steps ++ l) (opened_strictly []) b.reached) (sym all.1) (reach between b.reached h.follows rb all.0);
          begins = b.begins;
        })

    pub is_longest : IsLongest (IsStrictFrontWithHealing plan) last.found.own
    is_longest = record { is_front = part last.found.own (begins_itself last.found.own); longest = longest }

    pub limit_or_whole : LimitOrWhole (StrictLimitEndsWithHealing plan) last.found.own
    limit_or_whole = record { one = by (facts.either (with_steps plan (plan.steps ++ steps)) last.found.own obeys); not_both = never }
      where
        by : IsWithin last.found.own ⊎ ((front : List Item) × (which : Which) × (number : ℕ) × StrictLimitEnds (with_steps plan (plan.steps ++ steps)) front which number)
            → IsWithin last.found.own ⊎ ((front : List Item) × (which : Which) × (number : ℕ) × StrictLimitEndsWithHealing plan front which number)
        by (inl within) = inl within
        by (inr e) =
            let l = e.3 in
            inr (
              e.0,
              e.1,
              e.2,
              record {
                next = l.next;
                front =
                    part (l.next ∷ e.0)
                    (facts.longest (with_steps plan (plan.steps ++ steps)) last.found.own (l.next ∷ e.0) obeys l.front);
                within = l.within;
                passed = l.passed;
              },
            )

        never : (front : List Item) (which : Which) (number : ℕ) → IsWithin last.found.own → StrictLimitEndsWithHealing plan front which number → ⊥
        never front which number within ends =
            let w = facts.whole (with_steps plan (plan.steps ++ steps)) last.found.own obeys in
            facts.not_both (with_steps plan (plan.steps ++ steps)) last.found.own front which number obeys within
            (record {
              next = ends.next;
              front = record {
                reached = w.reached;
                reaches = w.reaches;
                begins = begins_chain (ends.next ∷ front) last.found.own w.reached.found.own (longest (ends.next ∷ front) ends.front) w.begins;
              };
              within = ends.within;
              passed = ends.passed;
            })

-- ---- with some answers

pub strict_limits_are_answered :
    ((plan : Content) (items : List Item) (which : Which) (number : ℕ) → StrictLimitEnds plan items which number
    → (answers : Answers) × LimitEnds plan answers items which number)
    → StrictLimitsAreAnswered
strict_limits_are_answered answered plan items which number ends = by ends.front
  where
    by : IsStrictFrontWithHealing plan (ends.next ∷ items) → (answers : Answers) × LimitEndsWithHealing plan answers items which number
    by (inl a) =
        let k = answered plan items which number (record { next = ends.next; front = a; within = ends.within; passed = ends.passed }) in
        (k.0, record { next = k.1.next; front = inl k.1.front; within = k.1.within; passed = k.1.passed })
    by (inr b) =
        let k = front_answered plan (ends.next ∷ items) b in
        (k.0, record { next = ends.next; front = inr k.1; within = ends.within; passed = ends.passed })

-- ---- one end

pub one_strict_end : StrictFrontFacts → OneStrictEnd
one_strict_end facts plan one other None None a b =
    let same = one_strict_healing plan a.0 b.0 a.1 b.1 a.2 b.2 a.3 b.3 in
    (a.4 ∙ ap (λ (s : StrictSituation). s.found.own) same.2 ∙ sym b.4, refl)
one_strict_end facts plan one other None (Some limit) a b =
    absurd ((limit_or_whole facts plan a.0 a.1 a.2 a.3).not_both other limit.0 limit.1 (subst IsWithin a.4 a.5) b)
one_strict_end facts plan one other (Some limit) None a b =
    absurd ((limit_or_whole facts plan b.0 b.1 b.2 b.3).not_both one limit.0 limit.1 (subst IsWithin b.4 b.5) a)
one_strict_end facts plan one other (Some limit) (Some limit_other) a b =
    let same = one_limit facts plan one other limit.0 limit_other.0 limit.1 limit_other.1 a b in
    (same.0, limits limit limit_other same.1 same.2)
  where
    limits : (l k : Which × ℕ) → l.0 ≡ k.0 → l.1 ≡ k.1 → Some l ≡ Some k
    limits l k p q = λ i. Some (p i, q i)

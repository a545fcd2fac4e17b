-- Whole runs over strict disks among their fronts, and how a front goes on with a part of the next step.
use Rattle.std.proofs.Common.{◌≡◌, ℕ, suc, ◌+◌, ◌⊎◌, inl, inr, List, [], ◌∷◌, ◌++◌, length, sym, ◌∙◌, subst, arith}
use Rattle.acc_message.specs.declared.error.Which.{Which}
use Rattle.acc_message.specs.declared.item.Item.{Item}
use Rattle.acc_message.specs.Run.{Cluster}
use Rattle.acc_schedule.specs.Content.{Content}
use Rattle.acc_schedule.specs.declared.plan.Step.{Step}
use Rattle.acc_schedule_runs.specs.Schedules.{cluster_of}
use Rattle.acc_schedule_runs.specs.StrictMoves.{StrictSituation, opened_strictly}
use Rattle.acc_schedule_runs.specs.StrictSchedules.{FollowsStrictly, ObeysStrictly}
use Rattle.acc_schedule_runs.proofs.OneStrictRun.{one_next}
use Rattle.acc_schedule_runs.specs.Limits.{IsWithin}
use Rattle.acc_schedule_runs.specs.Fronts.{Begins}
use Rattle.acc_schedule_runs.specs.StrictFronts.{StrictlyComesTo, StrictlyReaches, IsStrictFront, StrictLimitEnds}
use Rattle.acc_schedule_runs.proofs.Beginnings.{begins_itself, begins_chain}
use Rattle.acc_schedule_runs.proofs.Ended.{within_part, not_within, Passes, within_or_passes}
use Rattle.acc_schedule_runs.proofs.StrictInLine.{reaches_adds, comes_within, part_is_strict_front}

module _ (cluster : Cluster) where
  follows_reaches : (number : ℕ) (steps : List Step) (s last : StrictSituation) → FollowsStrictly cluster number steps s last
      → StrictlyReaches cluster number steps s last
  follows_reaches number [] s last is = is
  follows_reaches number (step ∷ steps) s last follows =
      inr (follows.0, follows.1, follows_reaches (number + 1) steps follows.0 last follows.2)

  -- nothing is reached that the whole run doesn't begin with
  reached_within : (number : ℕ) (steps : List Step) (s reached last : StrictSituation) → StrictlyReaches cluster number steps s reached
      → FollowsStrictly cluster number steps s last → Begins reached.found.own last.found.own
  reached_within number [] s reached last a b =
      subst (λ (t : StrictSituation). Begins reached.found.own t.found.own) (a ∙ sym b) (begins_itself reached.found.own)
  reached_within number (step ∷ steps) s reached last (inl part) follows =
      begins_chain reached.found.own follows.0.found.own last.found.own (comes_within cluster number step s reached follows.0 part follows.1)
      (reaches_adds cluster (number + 1) steps follows.0 last (follows_reaches (number + 1) steps follows.0 last follows.2))
  reached_within number (step ∷ steps) s reached last (inr more) follows =
      reached_within (number + 1) steps follows.0 reached last
      (subst (λ next. StrictlyReaches cluster (number + 1) steps next reached)
      (one_next cluster number step s more.0 follows.0 more.1 follows.1) more.2) follows.2

  pub strictly_goes_on : (number : ℕ) (steps more : List Step) (step : Step) (s between reached : StrictSituation)
      → FollowsStrictly cluster number steps s between → StrictlyComesTo cluster (number + length steps) step between reached
      → StrictlyReaches cluster number (steps ++ step ∷ more) s reached
  strictly_goes_on number [] more step s between reached is part =
      let none : number + 0 ≡ number = omega arith in
      inl
      (subst (λ n. StrictlyComesTo cluster n step s reached) none
      (subst (λ t. StrictlyComesTo cluster (number + 0) step t reached) is part))
  strictly_goes_on number (first ∷ steps) more step s between reached follows part =
      let moved : number + suc (length steps) ≡ number + 1 + length steps = omega arith in
      inr (
        follows.0,
        follows.1,
        strictly_goes_on (number + 1) steps more step follows.0 between reached follows.2
            (subst (λ n. StrictlyComesTo cluster n step between reached) moved part),
      )

-- ---- the run of a plan

module _ (plan : Content) where
  pub whole_is_strict_front : (items : List Item) → ObeysStrictly plan items → IsStrictFront plan items
  whole_is_strict_front items obeys =
      record {
        reached = obeys.last;
        reaches = follows_reaches (cluster_of plan) 0 plan.steps (opened_strictly []) obeys.last obeys.follows;
        begins = subst (λ (own : List Item). Begins own obeys.last.found.own) (sym obeys.items_are) (begins_itself obeys.last.found.own);
      }

  pub whole_is_longest_strict : (items front : List Item) → ObeysStrictly plan items → IsStrictFront plan front → Begins front items
  whole_is_longest_strict items front obeys is =
      subst (Begins front) (sym obeys.items_are)
      (begins_chain front is.reached.found.own obeys.last.found.own is.begins
      (reached_within (cluster_of plan) 0 plan.steps (opened_strictly []) is.reached obeys.last is.reaches obeys.follows))

  pub strict_limit_or_whole : (items : List Item) → ObeysStrictly plan items
      → IsWithin items ⊎ ((front : List Item) × (which : Which) × (number : ℕ) × StrictLimitEnds plan front which number)
  strict_limit_or_whole items obeys = by (within_or_passes items)
    where
      by : IsWithin items ⊎ Passes items
          → IsWithin items ⊎ ((front : List Item) × (which : Which) × (number : ℕ) × StrictLimitEnds plan front which number)
      by (inl within) = inl within
      by (inr passes) =
          inr (
            passes.front,
            passes.which,
            passes.number,
            record {
              next = passes.next;
              front = part_is_strict_front plan (passes.next ∷ passes.front) items passes.begins (whole_is_strict_front items obeys);
              within = passes.within;
              passed = passes.passed;
            },
          )

  pub never_both_strictly : (items front : List Item) (which : Which) (number : ℕ) → ObeysStrictly plan items → IsWithin items
      → StrictLimitEnds plan front which number → ⊥
  never_both_strictly items front which number obeys within ends =
      not_within front ends.next which number ends.passed
      (within_part (ends.next ∷ front) items (whole_is_longest_strict items (ends.next ∷ front) obeys ends.front) within)

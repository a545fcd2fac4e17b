-- A healing over strict disks is one with some answers of the disks, and goes on from the plan's schedule there.
use Rattle.std.proofs.Common.{◌≡◌, ℕ, suc, ◌+◌, ◌≤◌, ◌<◌, List, [], ◌∷◌, ◌++◌, length, refl, sym, ◌∙◌, ap, subst, arith}
use Rattle.acc_stamp.specs.declared.actors.Actor.{Actor}
use Rattle.acc_message.specs.declared.entry.Event.TheVariants.{Message as MessageEvent}
use Rattle.acc_message.specs.declared.item.Item.{Item}
use Rattle.acc_message.specs.Run.{Cluster}
use Rattle.acc_schedule.specs.declared.plan.Step.{Step}
use Rattle.acc_schedule.specs.declared.plan.Step.TheVariants.{Begin, Deliver, Drop, Recover, Slow, Restart, Fail, Drain}
use Rattle.acc_schedule.specs.Content.{Content}
use Rattle.acc_schedule_runs.specs.Situations.{Situation, opened, receiver_in}
use Rattle.acc_schedule_runs.specs.Moves.{Answers, tried}
use Rattle.acc_schedule_runs.specs.Schedules.{Follows, cluster_of}
use Rattle.acc_schedule_runs.specs.Laws.{AgreeBelow}
use Rattle.acc_schedule_runs.specs.Disks.{step_answers}
use Rattle.acc_schedule_runs.specs.StrictMoves.{StrictSituation, opened_strictly, tried_strictly, StrictDrains, stops as ends, delivers as takes, IsStrictNext}
use Rattle.acc_schedule_runs.specs.StrictSchedules.{FollowsStrictly}
use Rattle.acc_schedule_runs.specs.Fronts.{DrainsTo, comes as arrives, goes_on as delivers, ComesTo}
use Rattle.acc_schedule_runs.specs.StrictFronts.{StrictlyDrainsTo, comes, goes_on, StrictlyComesTo}
use Rattle.acc_schedule_runs.proofs.Answered.{tried_length, next_grows, next_same, answers_so_far}
use Rattle.acc_schedule_runs.proofs.Answering.{behind, agree_behind, fails_behind, agree_on, tried_with, next_answered, some_answers}
use Rattle.acc_heal_laws.specs.Healings.{Standing, Goes, standing_after, moving_with, moving_strictly, beginning, beginning_strictly}
use Rattle.acc_heal_laws.specs.HealingFronts.{IsHealingFront, IsStrictHealingFront}
use Rattle.acc_heal_laws.specs.Laws.{StrictHealingsAreAnswered, StrictHealingGoesOn}
use Rattle.acc_heal_laws.specs.FrontLaws.{DueStepsAreKnown, StrictDueStepsAreKnown}
use Rattle.acc_heal_laws.proofs.Stepwise.{goes_longer, goes_same}

-- the same place without the disks
abbrev pub found_standing : Standing StrictSituation → Standing Situation
found_standing s = record { stage = s.stage; at = s.at.found }

module _ (plan : Content) where
  abbrev cluster : Cluster
  cluster = cluster_of plan

  pub goes_answered : (before : Answers) (number : ℕ) (steps : List Step) (from to : Standing StrictSituation) → Goes (moving_strictly plan) number steps from to
      → (answers : Answers) × AgreeBelow before answers (length from.at.found.own)
      × Goes (moving_with plan answers) number steps (found_standing from) (found_standing to)
  goes_answered before number [] from to g = (before, λ place low. (refl, refl), ap found_standing g)
  goes_answered before number (step ∷ steps) from to g =
      let next : StrictSituation = g.0 in
      let one = next_answered cluster before number from.at next step g.2 in
      let more = goes_answered one.0 (number + 1) steps (standing_after (moving_strictly plan) from next) to g.3 in (
        more.0,
        agree_on before one.0 more.0 (length from.at.found.own) (length next.found.own)
            (next_grows cluster one.0 number step from.at.found next.found one.2) one.1 more.1,
        (next.found, g.1, next_same cluster one.0 more.0 number step from.at.found next.found more.1 one.2, more.2),
      )

  -- the plan's schedule and so much of its healing, with one choice of answers
  pub both_answered : (steps : List Step) (between : StrictSituation) (to : Standing StrictSituation) → FollowsStrictly cluster 0 plan.steps (opened_strictly []) between
      → Goes (moving_strictly plan) (length plan.steps) steps (beginning_strictly plan between) to
      → (answers : Answers) × Follows cluster answers 0 plan.steps (opened []) between.found
      × Goes (moving_with plan answers) (length plan.steps) steps (beginning plan between.found) (found_standing to)
  both_answered steps between to follows goes =
      let first = some_answers cluster 0 plan.steps (opened_strictly []) between follows in
      let more = goes_answered first.0 (length plan.steps) steps (beginning_strictly plan between) to goes in
      (more.0, answers_so_far cluster first.0 more.0 0 plan.steps (opened []) between.found more.1 first.1, more.2)

  -- ---- what is reached

  drained_answered : (reached : StrictSituation) (before : Answers) (s : StrictSituation) → StrictlyDrainsTo cluster reached s
      → (answers : Answers) × AgreeBelow before answers (length s.found.own) × DrainsTo cluster answers reached.found s.found
  drained_answered reached before s (comes _ is) =
      (before, λ place low. (refl, refl), arrives s.found (ap (λ (t : StrictSituation). t.found) is))
  drained_answered reached before s (goes_on _ n oldest rest) =
      let a : Actor = receiver_in s.found n in
      let now : Answers = step_answers s.disks a in
      let count : ℕ = length s.found.own in
      let first : Answers = behind count before now in
      let more = drained_answered reached first (tried_strictly cluster s a (MessageEvent n)) rest in
      let adds : length (tried cluster now s.found a (MessageEvent n)).own ≡ suc count = tried_length cluster now s.found a (MessageEvent n) in
      let here = more.1 count (next_below adds) in (
        more.0,
        agree_on before first more.0 count (length (tried cluster now s.found a (MessageEvent n)).own) (next_most adds)
            (agree_behind count before now) more.1,
        delivers s.found n oldest
            (subst (DrainsTo cluster more.0 reached.found)
            (tried_with cluster now more.0 s.found a (MessageEvent n) (sym (fails_behind count before now) ∙ here.0)) more.2),
      )
    where
      next_below : {n k : ℕ} → k ≡ suc n → n < k
      next_below h = omega arith

      next_most : {n k : ℕ} → k ≡ suc n → n ≤ k
      next_most h = omega arith

  pub comes_answered : (before : Answers) (number : ℕ) (s reached : StrictSituation) (step : Step) → StrictlyComesTo cluster number step s reached
      → (answers : Answers) × AgreeBelow before answers (length s.found.own) × ComesTo cluster answers number step s.found reached.found
  comes_answered before number s reached (Begin txn) is = next_answered cluster before number s reached (Begin txn) is
  comes_answered before number s reached (Deliver message) is = next_answered cluster before number s reached (Deliver message) is
  comes_answered before number s reached (Drop message) is = next_answered cluster before number s reached (Drop message) is
  comes_answered before number s reached (Recover txn node) is = next_answered cluster before number s reached (Recover txn node) is
  comes_answered before number s reached (Slow txn) is = next_answered cluster before number s reached (Slow txn) is
  comes_answered before number s reached (Restart actor choice) is = next_answered cluster before number s reached (Restart actor choice) is
  comes_answered before number s reached (Fail actor calls) is = next_answered cluster before number s reached (Fail actor calls) is
  comes_answered before number s reached Drain drains = drained_answered reached before s drains

  pub front_answered : (items : List Item) → IsStrictHealingFront plan items → (answers : Answers) × IsHealingFront plan answers items
  front_answered items h =
      let r = h.reaches in
      let number : ℕ = length plan.steps in
      let first = some_answers cluster 0 plan.steps (opened_strictly []) h.between h.follows in
      let one = goes_answered first.0 number r.steps (beginning_strictly plan h.between) r.stand r.goes in
      let two = comes_answered one.0 (number + length r.steps) r.stand.at h.reached r.step r.comes in
      let longer = goes_longer plan one.0 number r.steps (beginning plan h.between.found) (found_standing r.stand) one.2 in
      let agree = agree_on first.0 one.0 two.0 (length h.between.found.own) (length r.stand.at.found.own) longer one.1 two.1 in (
        two.0,
        record {
          between = h.between.found;
          follows = answers_so_far cluster first.0 two.0 0 plan.steps (opened []) h.between.found agree first.1;
          reached = h.reached.found;
          reaches = record {
            steps = r.steps;
            stand = found_standing r.stand;
            goes = goes_same plan one.0 two.0 number r.steps (beginning plan h.between.found) (found_standing r.stand) two.1 one.2;
            step = r.step;
            due = r.due;
            comes = two.2;
          };
          begins = h.begins;
        },
      )

-- ---- a step comes to its end

strict_drain_comes : (c : Cluster) (next s : StrictSituation) → StrictDrains c next s → StrictlyDrainsTo c next s
strict_drain_comes c next s (ends _ none is) = comes s is
strict_drain_comes c next s (takes _ n oldest rest) =
    goes_on s n oldest (strict_drain_comes c next (tried_strictly c s (receiver_in s.found n) (MessageEvent n)) rest)

pub strict_next_comes : (c : Cluster) (number : ℕ) (step : Step) (s next : StrictSituation) → IsStrictNext c number step s next
    → StrictlyComesTo c number step s next
strict_next_comes c number (Begin txn) s next is = is
strict_next_comes c number (Deliver message) s next is = is
strict_next_comes c number (Drop message) s next is = is
strict_next_comes c number (Recover txn node) s next is = is
strict_next_comes c number (Slow txn) s next is = is
strict_next_comes c number (Restart actor choice) s next is = is
strict_next_comes c number (Fail actor calls) s next is = is
strict_next_comes c number Drain s next is = strict_drain_comes c next s is

-- ---- laws

pub strict_healings_are_answered : StrictHealingsAreAnswered
strict_healings_are_answered plan steps between last h =
    let a = both_answered plan steps between (record { stage = h.heals.stage; at = last }) h.follows h.heals.goes in
    (a.0, record { follows = a.1; heals = record { stage = h.heals.stage; goes = a.2; done = h.heals.done } })

pub strict_due_steps_are_known : DueStepsAreKnown → StrictDueStepsAreKnown
strict_due_steps_are_known known plan steps between stand step is_plan follows goes due =
    let a = both_answered plan steps between stand follows goes in
    known plan a.0 steps between.found (found_standing stand) step is_plan a.1 a.2 due

pub goes_strictly : (plan : Content) (number : ℕ) (steps : List Step) (from to : Standing StrictSituation) → Goes (moving_strictly plan) number steps from to
    → FollowsStrictly (cluster_of plan) number steps from.at to.at
goes_strictly plan number [] from to g = ap (λ (k : Standing StrictSituation). k.at) g
goes_strictly plan number (step ∷ steps) from to g =
    (g.0, g.2, goes_strictly plan (number + 1) steps (standing_after (moving_strictly plan) from g.0) to g.3)

pub strictly_both : (cluster : Cluster) (number : ℕ) (steps more : List Step) (s between last : StrictSituation)
    → FollowsStrictly cluster number steps s between → FollowsStrictly cluster (number + length steps) more between last
    → FollowsStrictly cluster number (steps ++ more) s last
strictly_both cluster number [] more s between last f g =
    subst (λ k. FollowsStrictly cluster k more s last) (plus_none number) (subst (λ k. FollowsStrictly cluster (number + 0) more k last) f g)
  where
    plus_none : (n : ℕ) → n + 0 ≡ n
    plus_none n = omega arith
strictly_both cluster number (step ∷ steps) more s between last f g = (
  f.0,
  f.1,
  strictly_both cluster (number + 1) steps more f.0 between last f.2
      (subst (λ k. FollowsStrictly cluster k more between last) (moved number (length steps)) g),
)
  where
    moved : (n k : ℕ) → n + suc k ≡ (n + 1) + k
    moved n k = omega arith

pub strict_healing_goes_on : StrictHealingGoesOn
strict_healing_goes_on plan steps between last h =
    let to : Standing StrictSituation = record { stage = h.heals.stage; at = last } in
    strictly_both (cluster_of plan) 0 plan.steps steps (opened_strictly []) between last h.follows
    (subst (λ k. FollowsStrictly (cluster_of plan) k steps between last) (none_plus (length plan.steps))
    (goes_strictly plan (length plan.steps) steps (beginning_strictly plan between) to h.heals.goes))
  where
    none_plus : (n : ℕ) → n ≡ 0 + n
    none_plus n = omega arith

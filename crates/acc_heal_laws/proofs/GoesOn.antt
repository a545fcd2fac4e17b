-- A healing goes on from the plan's schedule.
use Rattle.std.proofs.Common.{◌≡◌, ℕ, suc, ◌+◌, List, [], ◌∷◌, ◌++◌, length, refl, ap, subst, arith}
use Rattle.acc_message.specs.declared.item.Item.{Item}
use Rattle.acc_message.specs.Run.{Cluster, IsRun}
use Rattle.acc_safety.specs.Places.{IsPast, Whole, Behind}
use Rattle.acc_safety.specs.Valid.{IsValidCluster}
use Rattle.acc_schedule.specs.declared.plan.Step.{Step}
use Rattle.acc_schedule.specs.Content.{Content}
use Rattle.acc_schedule.specs.Plan.{IsPlan}
use Rattle.acc_schedule_runs.specs.Situations.{Situation, opened}
use Rattle.acc_schedule_runs.specs.Moves.{Answers}
use Rattle.acc_schedule_runs.specs.Schedules.{Follows, cluster_of}
use Rattle.acc_schedule_runs.proofs.GivesRuns.{sound_run, sound_earlier}
use Rattle.acc_pasts.proofs.Situations.{whole_alone}
use Rattle.acc_heal_laws.specs.Healings.{Standing, Goes, standing_after, moving_with, beginning}
use Rattle.acc_heal_laws.specs.Laws.{HealingGoesOn}
use Rattle.acc_heal_laws.proofs.Reopened.{goes_goes}
use Rattle.acc_heal_laws.proofs.HealingTurns.{healing_comes}

pub goes_follows : (plan : Content) (answers : Answers) (number : ℕ) (steps : List Step) (from to : Standing Situation) → Goes (moving_with plan answers) number steps from to
    → Follows (cluster_of plan) answers number steps from.at to.at
goes_follows plan answers number [] from to g = ap (λ (k : Standing Situation). k.at) g
goes_follows plan answers number (step ∷ steps) from to g =
    (g.0, g.2, goes_follows plan answers (number + 1) steps (standing_after (moving_with plan answers) from g.0) to g.3)

pub follows_both : (cluster : Cluster) (answers : Answers) (number : ℕ) (steps more : List Step) (s between last : Situation)
    → Follows cluster answers number steps s between → Follows cluster answers (number + length steps) more between last
    → Follows cluster answers number (steps ++ more) s last
follows_both cluster answers number [] more s between last f g =
    subst (λ k. Follows cluster answers k more s last) (plus_none number) (subst (λ k. Follows cluster answers (number + 0) more k last) f g)
  where
    plus_none : (n : ℕ) → n + 0 ≡ n
    plus_none n = omega arith
follows_both cluster answers number (step ∷ steps) more s between last f g = (
  f.0,
  f.1,
  follows_both cluster answers (number + 1) steps more f.0 between last f.2
      (subst (λ k. Follows cluster answers k more between last) (moved number (length steps)) g),
)
  where
    moved : (n k : ℕ) → n + suc k ≡ (n + 1) + k
    moved n k = omega arith

later_of : (past items : List Item) → IsPast past items → (later : List Item) × (items ≡ later ++ past)
later_of past items (Whole ys) = ([], refl)
later_of past items (Behind item ys zs there) = let rest = later_of ys zs there in (item ∷ rest.0, ap (λ k. item ∷ k) rest.1)

pub healing_goes_on : ((plan : Content) → IsPlan plan → IsValidCluster (cluster_of plan)) → HealingGoesOn
healing_goes_on valid_of plan answers steps between last is_plan h =
    let cluster : Cluster = cluster_of plan in
    let comes = healing_comes plan answers steps between last is_plan (valid_of plan is_plan) h in
    let to : Standing Situation = record { stage = h.heals.stage; at = last } in
    let grown = goes_goes plan answers (length plan.steps) steps (beginning plan between) to h.heals.goes in
    let more = later_of between.own last.own grown.grows in
    record {
      run = subst (IsRun cluster) (whole_alone last (sound_earlier cluster [] last comes.ends)) (sound_run cluster [] last comes.ends);
      later = more.0;
      items_are = more.1;
      follows =
          follows_both cluster answers 0 plan.steps steps (opened []) between last h.follows
          (subst (λ k. Follows cluster answers k steps between last) (none_plus (length plan.steps))
          (goes_follows plan answers (length plan.steps) steps (beginning plan between) to h.heals.goes));
    }
  where
    none_plus : (n : ℕ) → n ≡ 0 + n
    none_plus n = omega arith

-- One healing: what is due where it stands is one step, and a step takes a situation to one next one.
use Rattle.std.proofs.Common.{◌≡◌, ℕ, ◌+◌, List, [], ◌∷◌, length, None, Some, refl, sym, ◌∙◌, ap, subst}
use Rattle.acc_schedule.specs.declared.plan.Step.{Step}
use Rattle.acc_schedule_runs.specs.Situations.{Situation, opened}
use Rattle.acc_schedule_runs.specs.Schedules.{cluster_of}
use Rattle.acc_schedule_runs.proofs.OneRun.{one_next, one_last}
use Rattle.acc_schedule_runs.specs.StrictMoves.{StrictSituation, opened_strictly}
use Rattle.acc_schedule_runs.proofs.OneStrictRun.{one_next as one_strict_next, one_last as one_strict_last}
use Rattle.acc_heal_laws.specs.Healings.{Standing, Moving, Goes, due_at, standing_after, moving_with, beginning, moving_strictly, beginning_strictly}
use Rattle.acc_heal_laws.specs.Laws.{OneHealing, OneStrictHealing}

no_step : {T : Type 0} (x : T) → Some x ≡ None → ⊥
no_step x e = cc

same_step : {T : Type 0} (x y : T) → Some x ≡ Some y → x ≡ y
same_step x y e = cc

module _ {S : Type 0} (moving : Moving S)
    (alike : (number : ℕ) (step : Step) (s next other : S) → moving.next number step s next → moving.next number step s other → next ≡ other) where
  pub record Alike (steps others : List Step) (to end : Standing S) : Type 0 where
    pub steps_are : steps ≡ others
    pub to_is : to ≡ end

  pub goes_alike : (number : ℕ) (steps others : List Step) (from to end : Standing S) → Goes moving number steps from to → Goes moving number others from end
      → due_at moving to ≡ None → due_at moving end ≡ None → Alike steps others to end
  goes_alike number [] [] from to end one two done over = record { steps_are = refl; to_is = one ∙ sym two }
  goes_alike number [] (other ∷ others) from to end one two done over =
      absurd (no_step other (sym two.1 ∙ subst (λ k. due_at moving k ≡ None) one done))
  goes_alike number (step ∷ steps) [] from to end one two done over =
      absurd (no_step step (sym one.1 ∙ subst (λ k. due_at moving k ≡ None) two over))
  goes_alike number (step ∷ steps) (other ∷ others) from to end one two done over =
      let same : other ≡ step = same_step other step (sym two.1 ∙ one.1) in
      let next_is : two.0 ≡ one.0 =
      alike number step from.at two.0 one.0 (subst (λ k. moving.next number k from.at two.0) same two.2) one.2 in
      let rest =
      goes_alike (number + 1) steps others (standing_after moving from one.0) to end one.3
      (subst (λ k. Goes moving (number + 1) others (standing_after moving from k) end) next_is two.3) done over in
      record { steps_are = ap (λ k. step ∷ k) rest.steps_are ∙ ap (λ k. k ∷ others) (sym same); to_is = rest.to_is }

pub one_healing : OneHealing
one_healing plan answers steps others between other last end one two =
    let same : other ≡ between = one_last (cluster_of plan) answers 0 plan.steps (opened []) other between two.follows one.follows in
    let a =
    goes_alike (moving_with plan answers) (one_next (cluster_of plan) answers) (length plan.steps) steps others (beginning plan between)
    (record { stage = one.heals.stage; at = last }) (record { stage = two.heals.stage; at = end }) one.heals.goes
    (subst (λ k. Goes (moving_with plan answers) (length plan.steps) others (beginning plan k) (record { stage = two.heals.stage; at = end })) same two.heals.goes)
    one.heals.done two.heals.done in
    (a.steps_are, sym same, ap (λ (k : Standing Situation). k.at) a.to_is)

pub one_strict_healing : OneStrictHealing
one_strict_healing plan steps others between other last end one two =
    let same : other ≡ between = one_strict_last (cluster_of plan) 0 plan.steps (opened_strictly []) other between two.follows one.follows in
    let a =
    goes_alike (moving_strictly plan) (one_strict_next (cluster_of plan)) (length plan.steps) steps others (beginning_strictly plan between)
    (record { stage = one.heals.stage; at = last }) (record { stage = two.heals.stage; at = end }) one.heals.goes
    (subst (λ k. Goes (moving_strictly plan) (length plan.steps) others (beginning_strictly plan k) (record { stage = two.heals.stage; at = end })) same two.heals.goes)
    one.heals.done two.heals.done in
    (a.steps_are, sym same, ap (λ (k : Standing StrictSituation). k.at) a.to_is)

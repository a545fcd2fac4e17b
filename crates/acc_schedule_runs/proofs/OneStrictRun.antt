-- Over strict disks each situation and step have one next situation at most, and a run goes on with one step more.
use Rattle.std.proofs.Common.{◌≡◌, ℕ, ◌+◌, List, [], ◌∷◌, ◌++◌, length, refl, sym, ◌∙◌, ap, subst, arith}
use Rattle.std.proofs.lemmas.Bool.{true≢false}
use Rattle.acc_message.specs.declared.item.Item.{Item}
use Rattle.acc_message.specs.declared.entry.Event.TheVariants.{Message as MessageEvent}
use Rattle.acc_message.specs.Run.{Cluster}
use Rattle.acc_schedule.specs.Content.{Content}
use Rattle.acc_schedule.specs.declared.plan.Step.{Step}
use Rattle.acc_schedule.specs.declared.plan.Step.TheVariants.{Begin, Deliver, Drop, Recover, Slow, Restart, Fail, Drain}
use Rattle.acc_schedule_runs.specs.Situations.{receiver_in}
use Rattle.acc_schedule_runs.specs.Schedules.{cluster_of}
use Rattle.acc_schedule_runs.proofs.OneRun.{one_oldest}
use Rattle.acc_schedule_runs.specs.StrictMoves.{StrictSituation, tried_strictly, opened_strictly, StrictDrains, stops, delivers, IsStrictNext}
use Rattle.acc_schedule_runs.specs.StrictSchedules.{FollowsStrictly, ObeysStrictly}

module _ (cluster : Cluster) where
  one_drain : (one other s : StrictSituation) → StrictDrains cluster one s → StrictDrains cluster other s → one ≡ other
  one_drain one other s (stops _ none is) (stops _ none' is') = is ∙ sym is'
  one_drain one other s (stops _ none is) (delivers _ n oldest rest) = absurd (true≢false (sym oldest.0 ∙ none n))
  one_drain one other s (delivers _ n oldest rest) (stops _ none is) = absurd (true≢false (sym oldest.0 ∙ none n))
  one_drain one other s (delivers _ n oldest rest) (delivers _ k oldest' rest') =
      one_drain one other (tried_strictly cluster s (receiver_in s.found n) (MessageEvent n)) rest
      (subst (λ m. StrictDrains cluster other (tried_strictly cluster s (receiver_in s.found m) (MessageEvent m)))
      (one_oldest s.found k n oldest' oldest) rest')

pub one_next : (cluster : Cluster) (number : ℕ) (step : Step) (s one other : StrictSituation) → IsStrictNext cluster number step s one
    → IsStrictNext cluster number step s other → one ≡ other
one_next cluster number (Begin txn) s one other a b = a ∙ sym b
one_next cluster number (Deliver message) s one other a b = a ∙ sym b
one_next cluster number (Drop message) s one other a b = a ∙ sym b
one_next cluster number (Recover txn node) s one other a b = a ∙ sym b
one_next cluster number (Slow txn) s one other a b = a ∙ sym b
one_next cluster number (Restart actor choice) s one other a b = a ∙ sym b
one_next cluster number (Fail actor calls) s one other a b = a ∙ sym b
one_next cluster number Drain s one other a b = one_drain cluster one other s a b

pub one_last : (cluster : Cluster) (number : ℕ) (steps : List Step) (s one other : StrictSituation)
    → FollowsStrictly cluster number steps s one → FollowsStrictly cluster number steps s other → one ≡ other
one_last cluster number [] s one other a b = a ∙ sym b
one_last cluster number (step ∷ steps) s one other a b =
    one_last cluster (number + 1) steps a.0 one other a.2
    (subst (λ next. FollowsStrictly cluster (number + 1) steps next other) (one_next cluster number step s b.0 a.0 b.1 a.1) b.2)

pub one_list : (plan : Content) (one other : List Item) → ObeysStrictly plan one → ObeysStrictly plan other → one ≡ other
one_list plan one other a b =
    a.items_are
    ∙ ap (λ (s : StrictSituation). s.found.own) (one_last (cluster_of plan) 0 plan.steps (opened_strictly []) a.last b.last a.follows b.follows)
    ∙ sym b.items_are

pub one_step_more : (cluster : Cluster) (number : ℕ) (steps : List Step) (step : Step) (s between last : StrictSituation)
    → FollowsStrictly cluster number steps s between → IsStrictNext cluster (number + length steps) step between last
    → FollowsStrictly cluster number (steps ++ step ∷ []) s last
one_step_more cluster number [] step s between last is next =
    let here : number + 0 ≡ number = omega arith in
    (last, subst (λ t. IsStrictNext cluster number step t last) is (subst (λ n. IsStrictNext cluster n step between last) here next), refl)
one_step_more cluster number (first ∷ steps) step s between last follows next =
    let there : number + length (first ∷ steps) ≡ (number + 1) + length steps = omega arith in (
      follows.0,
      follows.1,
      one_step_more cluster (number + 1) steps step follows.0 between last follows.2
          (subst (λ n. IsStrictNext cluster n step between last) there next),
    )

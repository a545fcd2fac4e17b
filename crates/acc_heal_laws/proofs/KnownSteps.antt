-- Steps of a reopening speak of actors of the layout.
use Rattle.std.proofs.Common.{◌≡◌, Bool, true, false, cond, List, [], ◌∷◌, None, Some, sym, subst, length, arith, ◌⊎◌, inl, inr, ⊎_elim}
use Rattle.std.specs.List.{AllByRecursion}
use Rattle.std.specs.Prelude.{Contains, if◌then◌else◌}
use Rattle.acc_stamp.specs.declared.actors.Actor.{Actor}
use Rattle.acc_stamp.specs.Rising.{rising_with, rising_union}
use Rattle.acc_message.specs.declared.item.Item.{Item}
use Rattle.acc_message.specs.Run.{is_node, is_down}
use Rattle.acc_safety.specs.Places.{IsIn, First, Later}
use Rattle.acc_safety.proofs.PlaceOrder.{IsIn-cases, IsIn-filter_map, IsIn-Contains}
use Rattle.acc_schedule.specs.declared.plan.Step.{Step}
use Rattle.acc_schedule.specs.declared.plan.Step.TheVariants.{Restart, Fail}
use Rattle.acc_schedule.specs.Actors.{actors}
use Rattle.acc_schedule.specs.Content.{Content}
use Rattle.acc_schedule.specs.Plan.{IsStep}
use Rattle.acc_heal_laws.specs.Stages.{actor_lt, actors_rising, is_armed, calls_let_pass, step_of_armed, reopening_step, reopening}

-- ---- a rising union has nothing else

with_only : (a b : Actor) (xs : List Actor) → IsIn a (rising_with actor_lt b xs) → (a ≡ b) ⊎ IsIn a xs
with_only a b [] there = ⊎_elim (λ is. inl is) (λ never. elim never [ ]) (IsIn-cases a b [] there)
with_only a b (x ∷ xs) there = by (actor_lt b x) (actor_lt x b) (with_only a b xs) there
  where
    by : (o p : Bool) → (IsIn a (rising_with actor_lt b xs) → (a ≡ b) ⊎ IsIn a xs)
        → IsIn a (if o then b ∷ x ∷ xs else (if p then x ∷ rising_with actor_lt b xs else x ∷ xs)) → (a ≡ b) ⊎ IsIn a (x ∷ xs)
    by true p rest h = ⊎_elim (λ is. inl is) (λ more. inr more) (IsIn-cases a b (x ∷ xs) h)
    by false true rest h =
        ⊎_elim (λ is. inr (subst (λ k. IsIn k (x ∷ xs)) (sym is) (First x xs)))
        (λ more. ⊎_elim (λ is. inl is) (λ in_xs. inr (Later a x xs in_xs)) (rest more)) (IsIn-cases a x (rising_with actor_lt b xs) h)
    by false false rest h = inr h

union_only : (a : Actor) (ys : List Actor) → IsIn a (rising_union actor_lt [] ys) → IsIn a ys
union_only a [] there = there
union_only a (y ∷ ys) there =
    ⊎_elim (λ is. subst (λ k. IsIn k (y ∷ ys)) (sym is) (First y ys)) (λ more. Later a y ys (union_only a ys more))
    (with_only a y (rising_union actor_lt [] ys) there)

-- ---- steps

module _ (plan : Content) where
  -- the step speaks of transactions, nodes and actors of the plan
  abbrev pub IsKnown : Step → Type 0
  IsKnown step = IsStep (length plan.names) plan.topology step

  some_step : {j k : Step} → Some j ≡ Some k → j ≡ k
  some_step e = cc

  none_step : {k : Step} → None ≡ Some k → ⊥
  none_step e = cc

  armed_known : (a : Actor) → Contains (actors plan.topology) a → IsKnown (step_of_armed a)
  armed_known a there = by (is_node a)
    where
      by : (o : Bool) → IsKnown (cond o (Fail a calls_let_pass) (Restart a 0))
      by true = (there, omega arith)
      by false = (there, omega arith)

  step_known : (items : List Item) (a : Actor) (step : Step) → Contains (actors plan.topology) a → reopening_step plan.steps items a ≡ Some step → IsKnown step
  step_known items a step there is = by (is_down a items) (is_armed plan.steps a) is
    where
      restart : IsKnown (Restart a 0)
      restart = (there, omega arith)

      by : (o p : Bool) → cond o (Some (Restart a 0)) (cond p (Some (step_of_armed a)) None) ≡ Some step → IsKnown step
      by true p e = subst IsKnown (some_step e) restart
      by false true e = subst IsKnown (some_step e) (armed_known a there)
      by false false e = absurd (none_step e)

  pub each_known : (items : List Item) (step : Step) → IsIn step (reopening plan items) → IsKnown step
  each_known items step there =
      let k = IsIn-filter_map (reopening_step plan.steps items) step (actors_rising plan.topology) there in
      step_known items k.source step
      (IsIn-Contains k.source (actors plan.topology) (union_only k.source (actors plan.topology) k.there)) k.gives

  all_known : (steps : List Step) → ((step : Step) → IsIn step steps → IsKnown step) → AllByRecursion IsKnown steps
  all_known [] each = tt
  all_known (step ∷ steps) each = (each step (First step steps), all_known steps (λ k there. each k (Later k step steps there)))

  pub reopening_known : (items : List Item) → AllByRecursion IsKnown (reopening plan items)
  reopening_known items = all_known (reopening plan items) (each_known items)

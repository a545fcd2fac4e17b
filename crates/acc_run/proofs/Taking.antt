-- A cluster has taken the steps so far, and takes one more.
use Rattle.std.proofs.Common.{◌≡◌, ◌⊎◌, ℕ, ◌+◌, ◌<◌, ◌≤◌, List, [], ◌∷◌, ◌++◌, length, take, drop, get_or, length-append, length-take-le, take_all, Result, Err, refl, sym, ◌∙◌, ap, subst, inl, inr, ⊎_elim, arith}
use Rattle.std.specs.Prelude.{IfErr, IsErrAnd}
use Rattle.std.proofs.lemmas.List.{append_assoc, take-append-drop, take_more}
use Rattle.std.proofs.lemmas.Result.{err_from_is_err_and}
use Rattle.acc_ports.specs.declared.disk.Disk.{Ghosts}
use Rattle.acc_message.specs.declared.error.Which.{Which}
use Rattle.acc_message.specs.declared.error.RunError.{RunError}
use Rattle.acc_message.specs.declared.error.RunError.TheVariants.{Limit, OutOfMemory}
use Rattle.acc_message.specs.declared.item.Item.{Item}
use Rattle.acc_message.specs.Run.{Cluster as Of}
use Rattle.acc_schedule.specs.Content.{Content}
use Rattle.acc_schedule.specs.declared.plan.Step.{Step}
use Rattle.acc_schedule_runs.specs.Situations.{Situation, opened}
use Rattle.acc_schedule_runs.specs.Moves.{Answers, IsNext}
use Rattle.acc_schedule_runs.specs.Schedules.{cluster_of, Follows}
use Rattle.acc_schedule_runs.specs.Laws.{AgreeBelow}
use Rattle.acc_schedule_runs.specs.StrictMoves.{StrictSituation, opened_strictly, IsStrictNext}
use Rattle.acc_schedule_runs.specs.StrictSchedules.{FollowsStrictly}
use Rattle.acc_schedule_runs.specs.StrictLaws.{no_faults}
use Rattle.acc_schedule_runs.proofs.Reached.{comes_adds}
use Rattle.acc_schedule_runs.specs.Fronts.{ComesTo, Reaches}
use Rattle.acc_schedule_runs.specs.StrictFronts.{StrictlyComesTo, StrictlyReaches, StrictLimitEnds}
use Rattle.acc_cluster.specs.declared.cluster.Cluster.{Cluster}
use Rattle.acc_cluster.specs.Stands.{StandsFor, StandsStrictly}
use Rattle.acc_cluster.specs.Limits.{HasEntered}
use Rattle.acc_cluster.specs.Steps.{change, StepsTo, StepsStrictly, IfLimit}
use Rattle.acc_cluster.proofs.Next.{EndsHere, EndsStrictlyHere}
use Rattle.acc_run.specs.Taken.{HasTaken, HasTakenStrictly, IsStopped}

-- the laws of runs and fronts that are made step by step
pub record GoOn : Type 0 where
  pub answers : (cluster : Of) (answers other : Answers) (number : ℕ) (steps : List Step) (s last : Situation) → AgreeBelow answers other (length last.own)
      → Follows cluster answers number steps s last → Follows cluster other number steps s last
  pub step : (cluster : Of) (answers : Answers) (number : ℕ) (steps : List Step) (step : Step) (s between last : Situation) → Follows cluster answers number steps s between
      → IsNext cluster answers (number + length steps) step between last → Follows cluster answers number (steps ++ step ∷ []) s last
  pub front : (cluster : Of) (answers : Answers) (number : ℕ) (steps more : List Step) (step : Step) (s between reached : Situation) → Follows cluster answers number steps s between
      → ComesTo cluster answers (number + length steps) step between reached → Reaches cluster answers number (steps ++ step ∷ more) s reached

pub record GoOnStrictly : Type 0 where
  pub step : (cluster : Of) (number : ℕ) (steps : List Step) (step : Step) (s between last : StrictSituation) → FollowsStrictly cluster number steps s between
      → IsStrictNext cluster (number + length steps) step between last → FollowsStrictly cluster number (steps ++ step ∷ []) s last
  pub front : (cluster : Of) (number : ℕ) (steps more : List Step) (step : Step) (s between reached : StrictSituation) → FollowsStrictly cluster number steps s between
      → StrictlyComesTo cluster (number + length steps) step between reached → StrictlyReaches cluster number (steps ++ step ∷ more) s reached

-- what was reached has the items before it
on_to : (place first second : ℕ) → place < first → first ≤ second → place < second
on_to place first second less more = omega (arith, less, more)

added : (n k : ℕ) → n ≤ k + n
added n k = omega arith

as_long : (n : ℕ) → n ≤ n
as_long n = omega arith

led_longer : (cluster : Of) (answers : Answers) (number : ℕ) (step : Step) (s reached : Situation) → (reached ≡ s) ⊎ ComesTo cluster answers number step s reached
    → length s.own ≤ length reached.own
led_longer cluster answers number step s reached (inl is) = subst (λ (t : Situation). length s.own ≤ length t.own) (sym is) (as_long (length s.own))
led_longer cluster answers number step s reached (inr comes) =
    let begins = comes_adds cluster answers number step s reached comes in
    subst (λ n. length s.own ≤ n) (sym (ap length begins.items_are ∙ length-append begins.later s.own)) (added (length s.own) (length begins.later))

module _ {D : Type 0} (port : Ghosts D) (plan : Content) where
  pub none_taken : (cluster : Cluster D) → StandsFor port plan cluster (opened []) → HasTaken port plan cluster []
  none_taken cluster stands = record { answers = no_faults; last = opened []; follows = refl; stands = stands }

  module _ (law : GoOn) (steps : List Step) (step : Step) (number : ℕ) (numbered : number ≡ 0 + length steps) where
    pub one_more : (old new : Cluster D) → HasTaken port plan old steps
        → ((s : Situation) (answers : Answers) → StandsFor port plan old s → StepsTo port plan answers number step (change old new) s)
        → HasTaken port plan new (steps ++ step ∷ [])
    one_more old new taken steps_to =
        let n = steps_to taken.last taken.answers taken.stands in
        record {
          answers = n.other;
          last = n.next;
          follows =
              law.step (cluster_of plan) n.other 0 steps step (opened []) taken.last n.next
              (law.answers (cluster_of plan) taken.answers n.other 0 steps (opened []) taken.last n.agree taken.follows)
              (subst (λ k. IsNext (cluster_of plan) n.other k step taken.last n.next) numbered n.next_is);
          stands = n.stands;
        }

    -- a limit inside the step ends the plan's run
    pub limit_ends : (more : List Step) → plan.steps ≡ steps ++ step ∷ more → (cluster new : Cluster D) → HasTaken port plan cluster steps → (which : Which) (most : ℕ)
        → ((s : Situation) (answers : Answers) → StandsFor port plan cluster s → EndsHere port plan number step cluster new s which most answers)
        → (items : List Item) × IsStopped port plan new items which most
    limit_ends more whole cluster new taken which most ends_in =
        let here = ends_in taken.last taken.answers taken.stands in
        let e = here.0 in
        let follows : Follows (cluster_of plan) e.other 0 steps (opened []) taken.last =
        law.answers (cluster_of plan) taken.answers e.other 0 steps (opened []) taken.last e.agree taken.follows in (
          e.items,
          record {
            answers = e.other;
            reached = e.reached;
            is_reached =
                ⊎_elim (λ is. inl (steps, step ∷ more, whole, subst (λ (s : Situation). Follows (cluster_of plan) e.other 0 steps (opened []) s) (sym is) follows))
                (λ comes. inr (reaches e.other e.reached follows comes)) e.led;
            ends = λ answers agree.
                let ends = e.ends answers agree in
                let f = ends.front in
                record {
                  next = ends.next;
                  front = record {
                    reached = f.0;
                    reaches =
                        reaches answers f.0
                        (law.answers (cluster_of plan) e.other answers 0 steps (opened []) taken.last
                        (λ place less. agree place (on_to place (length taken.last.own) (length e.reached.own) less (led_longer (cluster_of plan) e.other number step taken.last e.reached e.led))) follows) f.1;
                    begins = f.2;
                  };
                  within = ends.within;
                  passed = ends.passed;
                };
            stops = here.1.stops;
          },
        )
      where
        reaches : (answers : Answers) (reached : Situation) → Follows (cluster_of plan) answers 0 steps (opened []) taken.last → ComesTo (cluster_of plan) answers number step taken.last reached
            → Reaches (cluster_of plan) answers 0 plan.steps (opened []) reached
        reaches answers reached follows comes =
            subst (λ all. Reaches (cluster_of plan) answers 0 all (opened []) reached) (sym whole)
            (law.front (cluster_of plan) answers 0 steps more step (opened []) taken.last reached follows
            (subst (λ k. ComesTo (cluster_of plan) answers k step taken.last reached) numbered comes))

    pub if_limit_ends : (more : List Step) → plan.steps ≡ steps ++ step ∷ more → (cluster new : Cluster D) → HasTaken port plan cluster steps → (error : RunError)
        → IfLimit (λ which most. (s : Situation) (answers : Answers) → StandsFor port plan cluster s → EndsHere port plan number step cluster new s which most answers) error
        → IfLimit (λ which most. (items : List Item) × IsStopped port plan new items which most) error
    if_limit_ends more whole cluster new taken (Limit which most) ends_in = limit_ends more whole cluster new taken which most ends_in
    if_limit_ends more whole cluster new taken OutOfMemory ends_in = tt

  pub none_taken_strictly : (cluster : Cluster D) → StandsStrictly port plan cluster (opened_strictly [])
      → HasTakenStrictly port plan cluster []
  none_taken_strictly cluster stands = record { last = opened_strictly []; follows = refl; stands = stands }

  module _ (law : GoOnStrictly) (steps : List Step) (step : Step) (number : ℕ) (numbered : number ≡ 0 + length steps) where
    pub one_more_strictly : (old new : Cluster D) → HasTakenStrictly port plan old steps
        → ((s : StrictSituation) → StandsStrictly port plan old s → StepsStrictly port plan number step new s)
        → HasTakenStrictly port plan new (steps ++ step ∷ [])
    one_more_strictly old new taken steps_to =
        let n = steps_to taken.last taken.stands in
        record {
          last = n.next;
          follows =
              law.step (cluster_of plan) 0 steps step (opened_strictly []) taken.last n.next taken.follows
              (subst (λ k. IsStrictNext (cluster_of plan) k step taken.last n.next) numbered n.next_is);
          stands = n.stands;
        }

    pub if_limit_ends_strictly : (more : List Step) → plan.steps ≡ steps ++ step ∷ more → (cluster new : Cluster D) → HasTakenStrictly port plan cluster steps
        → (error : RunError)
        → IfLimit (λ which most. (s : StrictSituation) → StandsStrictly port plan cluster s → EndsStrictlyHere plan number step new s which most) error
        → IfLimit (λ which most. (items : List Item) × StrictLimitEnds plan items which most × HasEntered new items) error
    if_limit_ends_strictly more whole cluster new taken OutOfMemory ends_in = tt
    if_limit_ends_strictly more whole cluster new taken (Limit which most) ends_in =
        let here = ends_in taken.last taken.stands in
        let e = here.0 in
        let f = e.ends.front in (
          e.items,
          record {
            next = e.ends.next;
            front =
                record {
                  reached = f.0;
                  reaches =
                      subst (λ all. StrictlyReaches (cluster_of plan) 0 all (opened_strictly []) f.0) (sym whole)
                      (law.front (cluster_of plan) 0 steps more step (opened_strictly []) taken.last f.0 taken.follows
                      (subst (λ k. StrictlyComesTo (cluster_of plan) k step taken.last f.0) numbered f.1));
                  begins = f.2;
                };
            within = e.ends.within;
            passed = e.ends.passed;
          },
          here.1,
        )

-- ---- the steps

pub at_most : (xs ys : List Step) (most : ℕ) → xs ≡ ys → length ys ≤ most → length xs ≤ most
at_most xs ys most same le = subst (λ (l : List Step). length l ≤ most) (sym same) le

pub place_is : (xs : List Step) (i number : ℕ) → number ≡ i → i < length xs → number ≡ 0 + length (take i xs)
place_is xs i number same lt = same ∙ sym (plus (length (take i xs)) i (length-take-le i xs (less i (length xs) lt)))
  where
    less : (n m : ℕ) → n < m → n ≤ m
    less n m lt = omega (arith, lt)

    plus : (n m : ℕ) → n ≡ m → 0 + n ≡ m
    plus n m e = omega (arith, e)

pub split_at : (xs : List Step) (i : ℕ) (d : Step) → i < length xs → xs ≡ take i xs ++ get_or xs i d ∷ drop (i + 1) xs
split_at xs i d lt =
    sym (take-append-drop (i + 1) xs) ∙ ap (λ front. front ++ drop (i + 1) xs) (take_more xs i d lt) ∙ append_assoc (take i xs) (get_or xs i d ∷ []) (drop (i + 1) xs)

pub all_taken : (xs ys : List Step) (i : ℕ) → xs ≡ ys → length xs ≤ i → take i xs ≡ ys
all_taken xs ys i same le = take_all i xs le ∙ same

-- an error that is handed on
pub handed_on : {X : Type 0} (P : RunError → Type 0) (result : Result X RunError) (error : RunError) → IsErrAnd result (λ e. e ≡ error) → P error → IfErr result P
handed_on P result error is p =
    let e = err_from_is_err_and result is in
    subst (λ r. IfErr r P) (sym (e.1 ∙ ap Err e.2)) p

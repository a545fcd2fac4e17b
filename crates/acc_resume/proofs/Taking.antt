-- A cluster that was opened after an earlier run has taken the steps so far, and takes one more.
use Rattle.std.proofs.Common.{◌≡◌, ℕ, ◌+◌, List, [], ◌∷◌, ◌++◌, length, refl, sym, subst}
use Rattle.acc_ports.specs.declared.disk.Disk.{Ghosts}
use Rattle.acc_message.specs.declared.error.Which.{Which}
use Rattle.acc_message.specs.declared.error.RunError.{RunError}
use Rattle.acc_message.specs.declared.error.RunError.TheVariants.{Limit, OutOfMemory}
use Rattle.acc_message.specs.declared.item.Item.{Item}
use Rattle.acc_schedule.specs.Content.{Content}
use Rattle.acc_schedule.specs.declared.plan.Step.{Step}
use Rattle.acc_schedule_runs.specs.Schedules.{cluster_of}
use Rattle.acc_schedule_runs.specs.StrictMoves.{StrictSituation, opened_strictly, IsStrictNext}
use Rattle.acc_schedule_runs.specs.StrictFronts.{StrictlyComesTo, StrictlyReaches}
use Rattle.acc_cluster.specs.declared.cluster.Cluster.{Cluster}
use Rattle.acc_cluster.specs.Stands.{StandsStrictly}
use Rattle.acc_cluster.specs.Limits.{HasEntered}
use Rattle.acc_cluster.specs.Steps.{EndsStrictlyIn, StepsStrictly, IfLimit}
use Rattle.acc_run.proofs.Taking.{GoOnStrictly}
use Rattle.acc_resume.specs.Resumed.{ALimitEndsAfter}
use Rattle.acc_resume.specs.Taken.{HasTakenAfter}

-- a limit inside a step, as the cluster tells of it
abbrev pub EndsHere : {D : Type 0} → Ghosts D → Content → ℕ → Step → Cluster D → Cluster D → Which → ℕ → Type 0
EndsHere port plan number step old new which most =
    (s : StrictSituation) → StandsStrictly port plan old s → (ends : EndsStrictlyIn plan number step s which most) × HasEntered new ends.items

module _ {D : Type 0} (port : Ghosts D) (plan : Content) (earlier : List Item) where
  pub none_taken : (cluster : Cluster D) → StandsStrictly port plan cluster (opened_strictly earlier) → HasTakenAfter port plan earlier cluster []
  none_taken cluster stands = record { last = opened_strictly earlier; follows = refl; stands = stands }

  module _ (law : GoOnStrictly) (steps : List Step) (step : Step) (number : ℕ) (numbered : number ≡ 0 + length steps) where
    pub one_more : (old new : Cluster D) → HasTakenAfter port plan earlier old steps
        → ((s : StrictSituation) → StandsStrictly port plan old s → StepsStrictly port plan number step new s)
        → HasTakenAfter port plan earlier new (steps ++ step ∷ [])
    one_more old new taken steps_to =
        let n = steps_to taken.last taken.stands in
        record {
          last = n.next;
          follows =
              law.step (cluster_of plan) 0 steps step (opened_strictly earlier) taken.last n.next taken.follows
              (subst (λ k. IsStrictNext (cluster_of plan) k step taken.last n.next) numbered n.next_is);
          stands = n.stands;
        }

    pub limit_ends : (more : List Step) → plan.steps ≡ steps ++ step ∷ more → (old new : Cluster D) → HasTakenAfter port plan earlier old steps → (error : RunError)
        → IfLimit (λ which most. EndsHere port plan number step old new which most) error
        → IfLimit (λ which most. ALimitEndsAfter plan earlier which most) error
    limit_ends more all_are old new taken OutOfMemory ends_in = tt
    limit_ends more all_are old new taken (Limit which most) ends_in =
        let e = (ends_in taken.last taken.stands).0 in
        let f = e.ends.front in (
          e.items,
          record {
            next = e.ends.next;
            front =
                record {
                  reached = f.0;
                  reaches =
                      subst (λ all. StrictlyReaches (cluster_of plan) 0 all (opened_strictly earlier) f.0) (sym all_are)
                      (law.front (cluster_of plan) 0 steps more step (opened_strictly earlier) taken.last f.0 taken.follows
                      (subst (λ k. StrictlyComesTo (cluster_of plan) k step taken.last f.0) numbered f.1));
                  begins = f.2;
                };
            within = e.ends.within;
            passed = e.ends.passed;
          },
        )

-- whatever run stood before
module _ {D : Type 0} (port : Ghosts D) (plan : Content) (law : GoOnStrictly) (steps : List Step) (step : Step) (number : ℕ) (numbered : number ≡ 0 + length steps) where
  pub limits_end : (more : List Step) → plan.steps ≡ steps ++ step ∷ more → (first old new : Cluster D)
      → ((earlier : List Item) → StandsStrictly port plan first (opened_strictly earlier) → HasTakenAfter port plan earlier old steps) → (error : RunError)
      → IfLimit (λ which most. EndsHere port plan number step old new which most) error
      → IfLimit (λ which most. (earlier : List Item) → StandsStrictly port plan first (opened_strictly earlier) → ALimitEndsAfter plan earlier which most) error
  limits_end more all_are first old new taken OutOfMemory ends_in = tt
  limits_end more all_are first old new taken (Limit which most) ends_in = λ earlier stands.
      limit_ends port plan earlier law steps step number numbered more all_are old new (taken earlier stands) (Limit which most) ends_in

-- The items and the disks at the end of a run with its healing, and limits of the run as those of both.
use Rattle.std.proofs.Common.{◌≡◌, ℕ, List, ◌++◌, map, reverse, refl, sym, ◌∙◌, ap, subst, inl}
use Rattle.std.proofs.lemmas.List.{reverse-reverse}
use Rattle.acc_ports.specs.declared.disk.Disk.{Ghosts}
use Rattle.acc_message.specs.declared.error.Which.{Which}
use Rattle.acc_message.specs.declared.error.RunError.{RunError}
use Rattle.acc_message.specs.declared.error.RunError.TheVariants.{Limit, OutOfMemory}
use Rattle.acc_message.specs.declared.item.Item.{Item}
use Rattle.acc_schedule.specs.Content.{Content}
use Rattle.acc_schedule_runs.specs.Situations.{Situation}
use Rattle.acc_schedule_runs.specs.Moves.{Answers}
use Rattle.acc_schedule_runs.specs.Limits.{IsWithin}
use Rattle.acc_schedule_runs.specs.Fronts.{LimitEnds}
use Rattle.acc_schedule_runs.specs.StrictFronts.{StrictLimitEnds}
use Rattle.acc_cluster.specs.declared.cluster.Cluster.{Cluster}
use Rattle.acc_cluster.specs.declared.ending.Ended.{Ended}
use Rattle.acc_cluster.specs.Stands.{StandsFor}
use Rattle.acc_cluster.specs.Limits.{HasEntered}
use Rattle.acc_cluster.specs.Steps.{IfLimit}
use Rattle.acc_cluster.specs.Ends.{IsEndOf}
use Rattle.acc_run.specs.Taken.{HasTakenStrictly, IsStopped}
use Rattle.acc_run.specs.Given.{numbered}
use Rattle.acc_heal_laws.specs.HealingFronts.{LimitEndsWithHealing, StrictLimitEndsWithHealing}
use Rattle.acc_heal.specs.Healed.{HasHealed, HasHealedStrictly, HasRunHealing, HealsStrictlyTo}

module _ {D : Type 0} (port : Ghosts D) (plan : Content) where
  turned : (items own : List Item) → items ≡ reverse own → reverse items ≡ own
  turned items own is = ap reverse is ∙ reverse-reverse own

  module _ (healed : Cluster D) (ended : Ended D) (ends : (plan : Content) (s : Situation) → StandsFor port plan healed s → IsEndOf port plan s.own s ended) where
    pub ran_healing : (between : Situation) (before after : List (ℕ × D)) → HasHealed port plan between healed → after ≡ before ++ map numbered ended.disks.items
        → HasRunHealing port plan (reverse ended.items) before after
    ran_healing between before after h given =
        let end = ends plan h.last h.stands in
        record {
          answers = h.answers;
          heals = record { steps = h.steps; between = between; last = h.last; healing = h.healing; items_are = turned ended.items h.last.own end.items_are };
          back = record { disks = ended.disks.items; given = given; disks_are = end.disks_are; kept = end.kept };
        }

    pub ended_within : (between : Situation) → HasHealed port plan between healed → IsWithin (reverse ended.items)
    ended_within between h = subst IsWithin (sym (turned ended.items h.last.own (ends plan h.last h.stands).items_are)) h.stands.past.within

    pub healed_strictly : (cluster : Cluster D) (taken : HasTakenStrictly port plan cluster plan.steps) → HasHealedStrictly port plan taken.last healed
        → HealsStrictlyTo plan (reverse ended.items)
    healed_strictly cluster taken h =
        record {
          steps = h.steps;
          between = taken.last;
          last = h.last;
          healing = h.healing;
          items_are = turned ended.items h.last.found.own (ends plan h.last.found h.stands.stands).items_are;
        }

  -- ---- a limit of the run is one of the run with its healing

  with_healing : (answers : Answers) (items : List Item) (which : Which) (most : ℕ) → LimitEnds plan answers items which most → LimitEndsWithHealing plan answers items which most
  with_healing answers items which most e = record { next = e.next; front = inl e.front; within = e.within; passed = e.passed }

  pub run_limit : (cluster : Cluster D) (error : RunError) → IfLimit (λ which most. (items : List Item) × IsStopped port plan cluster items which most) error
      → IfLimit (λ which most. (answers : Answers) × (front : List Item) × LimitEndsWithHealing plan answers front which most) error
  run_limit cluster OutOfMemory h = tt
  run_limit cluster (Limit which most) h =
      (h.1.answers, h.0, with_healing h.1.answers h.0 which most (h.1.ends h.1.answers (λ place less. (refl, refl))))

  pub run_limit_strictly : (cluster : Cluster D) (error : RunError)
      → IfLimit (λ which most. (items : List Item) × StrictLimitEnds plan items which most × HasEntered cluster items) error
      → IfLimit (λ which most. (front : List Item) × StrictLimitEndsWithHealing plan front which most) error
  run_limit_strictly cluster OutOfMemory h = tt
  run_limit_strictly cluster (Limit which most) h =
      let e = h.1 in (h.0, record { next = e.next; front = inl e.front; within = e.within; passed = e.passed })

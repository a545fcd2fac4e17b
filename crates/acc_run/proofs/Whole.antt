-- The items and the disks at the end of a run.
use Rattle.std.proofs.Common.{◌≡◌, ℕ, Bool, List, ◌++◌, reverse, map, IsTrue, Result, sym, ◌∙◌, ap, subst}
use Rattle.std.specs.Prelude.{IfErr, IsErrAnd}
use Rattle.std.proofs.lemmas.List.{reverse-reverse}
use Rattle.acc_ports.specs.declared.disk.Disk.{Ghosts}
use Rattle.acc_message.specs.declared.error.Which.{Which}
use Rattle.acc_message.specs.declared.error.RunError.{RunError}
use Rattle.acc_message.specs.declared.error.RunError.TheVariants.{Limit, OutOfMemory}
use Rattle.acc_message.specs.declared.item.Item.{Item}
use Rattle.acc_schedule.specs.Content.{Content}
use Rattle.acc_schedule_runs.specs.Situations.{Situation}
use Rattle.acc_schedule_runs.specs.StrictSchedules.{ObeysStrictly}
use Rattle.acc_schedule_runs.specs.StrictFronts.{StrictLimitEnds}
use Rattle.acc_cluster.specs.declared.cluster.Cluster.{Cluster}
use Rattle.acc_cluster.specs.declared.ending.Ended.{Ended}
use Rattle.acc_cluster.specs.Stands.{StandsFor}
use Rattle.acc_cluster.specs.Limits.{StopsAt, HasEntered}
use Rattle.acc_cluster.specs.Steps.{IfLimit}
use Rattle.acc_cluster.specs.Ends.{IsEndOf}
use Rattle.acc_cluster.proofs.Limited.{entered_there}
use Rattle.acc_run.specs.Taken.{HasTaken, HasTakenStrictly, IsStopped}
use Rattle.acc_run.specs.Given.{HasRun, HasStopped, numbered}
use Rattle.acc_run.proofs.Taking.{handed_on}

module _ {D : Type 0} (port : Ghosts D) (plan : Content) where
  turned : (items own : List Item) → items ≡ reverse own → reverse items ≡ own
  turned items own is = ap reverse is ∙ reverse-reverse own

  pub ran : (cluster : Cluster D) (ended : Ended D) (before after : List (ℕ × D)) → HasTaken port plan cluster plan.steps
      → ((plan : Content) (s : Situation) → StandsFor port plan cluster s → IsEndOf port plan s.own s ended)
      → after ≡ before ++ map numbered ended.disks.items
      → HasRun port plan (reverse ended.items) before after
  ran cluster ended before after taken ends given =
      let end = ends plan taken.last taken.stands in
      record {
        answers = taken.answers;
        obeys = record { last = taken.last; follows = taken.follows; items_are = turned ended.items taken.last.own end.items_are };
        back = record { disks = ended.disks.items; given = given; disks_are = end.disks_are; kept = end.kept };
      }

  pub obeys_strictly : (cluster : Cluster D) (ended : Ended D)
      → HasTakenStrictly port plan cluster plan.steps
      → ((plan : Content) (s : Situation) → StandsFor port plan cluster s → IsEndOf port plan s.own s ended)
      → ObeysStrictly plan (reverse ended.items)
  obeys_strictly cluster ended taken ends =
      record {
        last = taken.last;
        follows = taken.follows;
        items_are = turned ended.items taken.last.found.own (ends plan taken.last.found taken.stands.stands).items_are;
      }

  -- ---- a limit

  same_entered : (cluster : Cluster D) (items other : List Item) → HasEntered cluster items → HasEntered cluster other → items ≡ other
  same_entered cluster items other is also = sym (reverse-reverse items) ∙ ap reverse (sym is ∙ also) ∙ reverse-reverse other

  pub stopped : (cluster : Cluster D) (ended : Ended D) (before after : List (ℕ × D)) (strict : Bool) (which : Which) (number : ℕ)
      → (items : List Item) × IsStopped port plan cluster items which number
      → (IsTrue strict → (items : List Item) × StrictLimitEnds plan items which number × HasEntered cluster items)
      → ((plan : Content) (items : List Item) (s : Situation) → StopsAt port plan cluster items s → IsEndOf port plan items s ended)
      → after ≡ before ++ map numbered ended.disks.items
      → (front : List Item) × HasStopped port plan front which number before after × (IsTrue strict → StrictLimitEnds plan front which number)
  stopped cluster ended before after strict which number found strictly ends given =
      let is = found.1 in
      let end = ends plan found.0 is.reached is.stops in (
        found.0,
        record {
          answers = is.answers;
          reached = is.reached;
          is_reached = is.is_reached;
          ends = is.ends;
          ahead = is.stops.ahead;
          back = record { disks = ended.disks.items; given = given; disks_are = end.disks_are; kept = end.kept };
        },
        λ on.
            let other = strictly on in
            subst (λ (items : List Item). StrictLimitEnds plan items which number)
            (same_entered cluster other.0 found.0 other.2 (entered_there port plan cluster found.0 is.reached is.stops)) other.1,
      )

pub limit_told : {X : Type 0} (P : Which → ℕ → Type 0) (e : RunError) (result : Result X RunError) → IsErrAnd result (λ x. x ≡ e) → IfLimit P e
    → IfErr result (λ x. (which : Which) (number : ℕ) → x ≡ Limit which number → P which number)
limit_told P e result is holds = handed_on (λ x. (which : Which) (number : ℕ) → x ≡ Limit which number → P which number) result e is (λ which number same. subst (IfLimit P) same holds)

-- as it is told of an error that is passed on
pub limit_stopped : {X D : Type 0} (port : Ghosts D) (plan : Content) (cluster : Cluster D) (ended : Ended D) (before after : List (ℕ × D)) (strict : Bool) (e : RunError)
    (result : Result X RunError) → IsErrAnd result (λ x. x ≡ e)
    → IfLimit (λ which most. (items : List Item) × IsStopped port plan cluster items which most) e
    → (IsTrue strict → IfLimit (λ which most. (items : List Item) × StrictLimitEnds plan items which most × HasEntered cluster items) e)
    → ((plan : Content) (items : List Item) (s : Situation) → StopsAt port plan cluster items s → IsEndOf port plan items s ended)
    → after ≡ before ++ map numbered ended.disks.items
    → IfErr result (λ x. (which : Which) (number : ℕ) → x ≡ Limit which number
    → (front : List Item) × HasStopped port plan front which number before after × (IsTrue strict → StrictLimitEnds plan front which number))
limit_stopped port plan cluster ended before after strict e result is found strictly ends given =
    limit_told (λ which number. (front : List Item) × HasStopped port plan front which number before after × (IsTrue strict → StrictLimitEnds plan front which number)) e result is
    (by e found strictly)
  where
    by : (e : RunError) → IfLimit (λ which most. (items : List Item) × IsStopped port plan cluster items which most) e
        → (IsTrue strict → IfLimit (λ which most. (items : List Item) × StrictLimitEnds plan items which most × HasEntered cluster items) e)
        → IfLimit (λ which number. (front : List Item) × HasStopped port plan front which number before after × (IsTrue strict → StrictLimitEnds plan front which number)) e
    by (Limit which number) found strictly = stopped port plan cluster ended before after strict which number found strictly ends given
    by OutOfMemory found strictly = tt

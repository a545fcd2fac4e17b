-- The items that a resumed cluster gives, and where a limit ends them.
use Rattle.std.proofs.Common.{◌≡◌, ℕ, List, reverse, Result, sym, ◌∙◌, ap, subst}
use Rattle.std.specs.Prelude.{IfErr, IsErrAnd}
use Rattle.std.proofs.lemmas.List.{reverse-reverse}
use Rattle.acc_ports.specs.declared.disk.Disk.{Ghosts}
use Rattle.acc_message.specs.declared.error.Which.{Which}
use Rattle.acc_message.specs.declared.error.RunError.{RunError}
use Rattle.acc_message.specs.declared.error.RunError.TheVariants.{Limit, OutOfMemory}
use Rattle.acc_message.specs.declared.item.Item.{Item}
use Rattle.acc_message.specs.Run.{Cluster as Of, IsRun}
use Rattle.acc_safety.specs.Agreement.{Agreement}
use Rattle.acc_safety.specs.Coverage.{Coverage}
use Rattle.acc_safety.specs.SerialOutcomes.{SerialOutcomes}
use Rattle.acc_schedule.specs.Content.{Content}
use Rattle.acc_schedule.specs.declared.plan.Step.{Step}
use Rattle.acc_schedule_runs.specs.Situations.{Situation, joined}
use Rattle.acc_schedule_runs.specs.Limits.{IsWithin}
use Rattle.acc_schedule_runs.specs.Moves.{Answers}
use Rattle.acc_schedule_runs.specs.Schedules.{cluster_of, Follows}
use Rattle.acc_schedule_runs.specs.StrictMoves.{StrictSituation, opened_strictly}
use Rattle.acc_schedule_runs.specs.StrictSchedules.{FollowsStrictly}
use Rattle.acc_cluster.specs.declared.cluster.Cluster.{Cluster}
use Rattle.acc_cluster.specs.declared.tested.TestedCluster.{TestedCluster}
use Rattle.acc_cluster.specs.declared.ending.Ended.{Ended}
use Rattle.acc_cluster.specs.Ends.{IsEndOf}
use Rattle.acc_cluster.specs.Stands.{StandsFor, StandsStrictly}
use Rattle.acc_cluster.specs.Steps.{IfLimit}
use Rattle.acc_left.specs.declared.image.Image.{Image}
use Rattle.acc_left_laws.specs.Left.{reopened_run}
use Rattle.acc_run.proofs.Earlier.{same_earlier}
use Rattle.acc_run.proofs.Whole.{limit_told}
use Rattle.acc_resume.specs.Resumed.{ALimitEndsAfter, GoesOnTo, OfEachRun}
use Rattle.acc_resume.specs.Taken.{HasTakenAfter}

-- what holds of every run of a cluster
pub record AreSafe (cluster : Of) : Type 0 where
  pub agreement : (items : List Item) → IsRun cluster items → Agreement items
  pub coverage : (items : List Item) → IsRun cluster items → Coverage cluster items
  pub serial : (items : List Item) → IsRun cluster items → SerialOutcomes cluster items

-- some answers of disks lead from the first situation to the last
abbrev pub HasAnswers : Type 0
HasAnswers =
    (cluster : Of) (number : ℕ) (steps : List Step) (s last : StrictSituation) → FollowsStrictly cluster number steps s last
    → (answers : Answers) × Follows cluster answers number steps s.found last.found

module _ {D : Type 0} (port : Ghosts D) (plan : Content) (law : HasAnswers) (safe : AreSafe (cluster_of plan)) where
  turned : (items own : List Item) → items ≡ reverse own → reverse items ≡ own
  turned items own is = ap reverse is ∙ reverse-reverse own

  pub goes_on_to : (earlier : List Item) (cluster : Cluster D) (ended : Ended D) → HasTakenAfter port plan earlier cluster plan.steps
      → ((plan : Content) (s : Situation) → StandsFor port plan cluster s → IsEndOf port plan s.own s ended) → GoesOnTo plan earlier (reverse ended.items)
  goes_on_to earlier cluster ended taken ends =
      let s = taken.last.found in
      let items : reverse ended.items ≡ s.own = turned ended.items s.own (ends plan s taken.stands.stands).items_are in
      let answered = law (cluster_of plan) 0 plan.steps (opened_strictly earlier) taken.last taken.follows in
      let before : s.earlier ≡ earlier = same_earlier (cluster_of plan) answered.0 0 plan.steps (opened_strictly earlier).found s answered.1 in
      let both : joined s.earlier s.own ≡ joined earlier (reverse ended.items) = λ i. joined (before i) (sym items i) in
      let run : IsRun (cluster_of plan) (joined earlier (reverse ended.items)) = subst (IsRun (cluster_of plan)) both taken.stands.stands.sound.run in
      record {
        last = taken.last;
        follows = taken.follows;
        items_are = items;
        within = subst IsWithin (sym items) taken.stands.stands.past.within;
        run = run;
        agreement = safe.agreement (joined earlier (reverse ended.items)) run;
        coverage = safe.coverage (joined earlier (reverse ended.items)) run;
        serial = safe.serial (joined earlier (reverse ended.items)) run;
      }

-- ---- a limit

module _ {D : Type 0} (port : Ghosts D) (plan : Content) where
  pub limit_behind : {X : Type 0} (images : List Image) (cluster : TestedCluster D)
      → OfEachRun plan images (λ earlier. StandsStrictly port plan cluster.cluster (opened_strictly earlier)) → (e : RunError) (result : Result X RunError)
      → IsErrAnd result (λ x. x ≡ e)
      → IfLimit (λ which most. (earlier : List Item) → StandsStrictly port plan cluster.cluster (opened_strictly earlier) → ALimitEndsAfter plan earlier which most) e
      → IfErr result (λ x. (which : Which) (number : ℕ) → x ≡ Limit which number → OfEachRun plan images (λ earlier. ALimitEndsAfter plan earlier which number))
  limit_behind images cluster stands e result is limit =
      limit_told (λ which number. OfEachRun plan images (λ earlier. ALimitEndsAfter plan earlier which number)) e result is (by e limit)
    where
      by : (e : RunError)
          → IfLimit (λ which most. (earlier : List Item) → StandsStrictly port plan cluster.cluster (opened_strictly earlier) → ALimitEndsAfter plan earlier which most) e
          → IfLimit (λ which number. OfEachRun plan images (λ earlier. ALimitEndsAfter plan earlier which number)) e
      by (Limit which number) limit = λ s keeps has room. limit (reopened_run plan s keeps) (stands s keeps has room)
      by OutOfMemory limit = tt

-- A calm plan begins as many transactions as it has begins, and each has one reply.
use Rattle.std.proofs.Common.{◌≡◌, ℕ, ◌+◌, ◌-◌, ◌<◌, ◌≤◌, false, List, [], ◌∷◌, length, refl, sym, ◌∙◌, ap, ap₂, subst, arith}
use Rattle.std.specs.List.{AllByRecursion}
use Rattle.acc_topology.specs.Layout.{Layout}
use Rattle.acc_message.specs.declared.item.Item.{Item}
use Rattle.acc_message.specs.Items.{notes_of}
use Rattle.acc_message.specs.Run.{Cluster}
use Rattle.acc_schedule.specs.Content.{Content}
use Rattle.acc_schedule.specs.Plan.{IsPlan, IsStep}
use Rattle.acc_schedule.specs.declared.plan.Step.{Step}
use Rattle.acc_schedule.specs.declared.plan.Step.TheVariants.{Begin, Deliver, Drop, Recover, Slow, Restart, Fail, Drain}
use Rattle.acc_schedule_runs.specs.Laws.{NeverFails, IsCalmStep, EndsWithDrain}
use Rattle.acc_schedule_runs.specs.Moves.{Answers}
use Rattle.acc_schedule_runs.specs.Schedules.{cluster_of, Obeys}
use Rattle.acc_schedule_runs.specs.Situations.{opened}
use Rattle.acc_schedule_runs.proofs.GivesRuns.{obeys_a_run}
use Rattle.acc_schedule_runs.proofs.NobodyDown.{clean_opened}
use Rattle.acc_schedule_runs.specs.StrictLaws.{ArmsNothing, no_faults}
use Rattle.acc_schedule_runs.specs.StrictSchedules.{ObeysStrictly}
use Rattle.acc_schedule_runs.proofs.Unarmed.{obeys_without_faults}
use Rattle.acc_report_line.specs.declared.line.Line.{Line}
use Rattle.acc_report_line.specs.declared.line.Line.TheVariants.{Begin as BeginLine, Recover as RecoverLine, Blocked, Ended, Decide, Outcome, Reply, SkipNoMessage, SkipDown, SkipBegun, SkipUnknown, SkipNoQuorum, Down, Restart as RestartLine, Decided, End}
use Rattle.acc_report.specs.Report.{last_line}
use Rattle.acc_command_alone.specs.Counts.{begun_by, AreApart, begins_in, replies_in, AreAnswered}
use Rattle.acc_command_alone.proofs.FewReplies.{replies_few}
use Rattle.acc_command_alone.proofs.Begun.{AreOf, begins_counted}

-- ---- the steps

calm_steps : (steps : List Step) → EndsWithDrain steps → AllByRecursion IsCalmStep steps
calm_steps [] ends = tt
calm_steps (step ∷ []) ends = (subst IsCalmStep (sym ends) tt, tt)
calm_steps (step ∷ other ∷ steps) ends = (ends.0, calm_steps (other ∷ steps) ends.1)

calm_arms_nothing : (steps : List Step) → AllByRecursion IsCalmStep steps → AllByRecursion ArmsNothing steps
calm_arms_nothing [] calm = tt
calm_arms_nothing (Begin txn ∷ steps) calm = (tt, calm_arms_nothing steps calm.1)
calm_arms_nothing (Drain ∷ steps) calm = (tt, calm_arms_nothing steps calm.1)
calm_arms_nothing (Deliver message ∷ steps) calm = absurd calm.0
calm_arms_nothing (Drop message ∷ steps) calm = absurd calm.0
calm_arms_nothing (Recover txn node ∷ steps) calm = absurd calm.0
calm_arms_nothing (Slow txn ∷ steps) calm = absurd calm.0
calm_arms_nothing (Restart actor choice ∷ steps) calm = absurd calm.0
calm_arms_nothing (Fail actor calls ∷ steps) calm = absurd calm.0

known : (count : ℕ) (layout : Layout) (steps : List Step) → AllByRecursion (IsStep count layout) steps → AllByRecursion (λ n. n < count) (begun_by steps)
known count layout [] of = tt
known count layout (Begin txn ∷ steps) of = (of.0, known count layout steps of.1)
known count layout (Deliver message ∷ steps) of = known count layout steps of.1
known count layout (Drop message ∷ steps) of = known count layout steps of.1
known count layout (Recover txn node ∷ steps) of = known count layout steps of.1
known count layout (Slow txn ∷ steps) of = known count layout steps of.1
known count layout (Restart actor choice ∷ steps) of = known count layout steps of.1
known count layout (Fail actor calls ∷ steps) of = known count layout steps of.1
known count layout (Drain ∷ steps) of = known count layout steps of.1

none_yet : (ns : List ℕ) → AllByRecursion (λ (n : ℕ). false ≡ false) ns
none_yet [] = tt
none_yet (n ∷ ns) = (refl, none_yet ns)

-- ---- the last line

abbrev more_in : Line → ℕ
more_in (End txns replied more) = more
more_in (BeginLine name id) = 0
more_in (RecoverLine name ballot) = 0
more_in (Blocked name ballot by) = 0
more_in (Ended name ballot by) = 0
more_in (Decide name t path deps) = 0
more_in (Outcome name reply) = 0
more_in (Reply name reply) = 0
more_in (SkipNoMessage step number sent) = 0
more_in (SkipDown step actor) = 0
more_in (SkipBegun step name) = 0
more_in (SkipUnknown step name) = 0
more_in (SkipNoQuorum step name) = 0
more_in (Down actor) = 0
more_in (RestartLine actor kept) = 0
more_in (Decided fast slow recovered adopted) = 0

-- the last line says that none is open
abbrev pub NoneOpen : List Item → Type 0
NoneOpen items = last_line (notes_of items) ≡ End (begins_in items) (replies_in items) 0

module _ (plan : Content) (h : IsPlan plan) (apart : AreApart (begun_by plan.steps)) where
  of_cluster : AreOf (cluster_of plan) (begun_by plan.steps)
  of_cluster =
      subst (λ n. AllByRecursion (λ k. k < n) (begun_by plan.steps)) (sym h.bodies_as_many)
      (known (length plan.names) plan.topology plan.steps h.steps_known)

  pub calm_answered : (answers : Answers) (items : List Item) → NeverFails answers → EndsWithDrain plan.steps → Obeys plan answers items → NoneOpen items
      → AreAnswered (length (begun_by plan.steps)) items
  calm_answered answers items never ends obeys none_open =
      let cluster : Cluster = cluster_of plan in
      let count : ℕ = length (begun_by plan.steps) in
      let own : begins_in obeys.last.own ≡ 0 + count =
      begins_counted cluster answers never 0 plan.steps (opened []) obeys.last (calm_steps plan.steps ends) of_cluster apart
      (none_yet (begun_by plan.steps)) (clean_opened [] refl) obeys.follows in
      let begun : begins_in items ≡ count = omega (arith, ap begins_in obeys.items_are, own) in
      let few : replies_in items ≤ begins_in items = replies_few cluster items (obeys_a_run plan answers items h obeys).stands in
      let many : begins_in items - replies_in items ≡ 0 = ap more_in none_open in
      let replied : replies_in items ≡ count = omega (arith, begun, few, many) in
      record { begun = begun; replied = replied; last = none_open ∙ ap₂ (λ b r. End b r 0) begun replied }

  pub strictly_answered : (items : List Item) → EndsWithDrain plan.steps → ObeysStrictly plan items → NoneOpen items
      → AreAnswered (length (begun_by plan.steps)) items
  strictly_answered items ends obeys none_open =
      calm_answered no_faults items (λ place. refl) ends
      (obeys_without_faults plan items (calm_arms_nothing plan.steps (calm_steps plan.steps ends)) obeys) none_open

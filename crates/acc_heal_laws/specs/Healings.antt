-- The healing: the steps that are due after a schedule, one after another, until none is. What a step does is given, so that one definition
-- serves all disks and strict ones.
use Rattle.std.specs.Prelude.{◌≡◌, ℕ, ◌+◌, List, [], ◌∷◌, None, Some, length, Option}
use Rattle.acc_message.specs.Run.{Cluster}
use Rattle.acc_schedule.specs.declared.plan.Step.{Step}
use Rattle.acc_schedule.specs.Content.{Content}
use Rattle.acc_schedule_runs.specs.Situations.{Situation, opened, whole}
use Rattle.acc_schedule_runs.specs.Moves.{Answers, IsNext}
use Rattle.acc_schedule_runs.specs.Schedules.{Follows, cluster_of}
use Rattle.acc_schedule_runs.specs.Fronts.{ComesTo}
use Rattle.acc_schedule_runs.specs.StrictMoves.{StrictSituation, IsStrictNext, opened_strictly}
use Rattle.acc_schedule_runs.specs.StrictSchedules.{FollowsStrictly}
use Rattle.acc_schedule_runs.specs.StrictFronts.{StrictlyComesTo}
use Rattle.acc_heal_laws.specs.Stages.{Stage, Reopens, reopening, due, stage_after}

-- ---- steps that are due

-- where a healing stands, and what it finds there
pub record Standing (S : Type 0) : Type 0 where
  pub stage : Stage
  pub at : S

-- A way to take steps: the situation that is found in each place, what the step with a number takes to what, and all that it comes to on
-- the way there.
pub record Moving (S : Type 0) : Type 1 where
  pub cluster : Cluster
  pub found : S → Situation
  pub next : ℕ → Step → S → S → Type 0
  pub comes : ℕ → Step → S → S → Type 0

abbrev pub due_at : {S : Type 0} → Moving S → Standing S → Option Step
due_at moving from = due moving.cluster from.stage (whole (moving.found from.at))

abbrev pub standing_after : {S : Type 0} → Moving S → Standing S → S → Standing S
standing_after moving from next =
    record { stage = stage_after moving.cluster from.stage (whole (moving.found from.at)) (whole (moving.found next)); at = next }

-- these steps, of which the first has this number, are each due where they come, and they take the healing from one place to another
abbrev pub Goes : {S : Type 0} → Moving S → ℕ → List Step → Standing S → Standing S → Type 0
Goes moving number [] from to = to ≡ from
Goes {S} moving number (step ∷ steps) from to =
    (next : S) × (due_at moving from ≡ Some step) × moving.next number step from.at next
    × Goes moving (number + 1) steps (standing_after moving from next) to

-- they do so until nothing is due
pub record Heals {S : Type 0} (moving : Moving S) (number : ℕ) (steps : List Step) (from : Standing S) (last : S) : Type 0 where
  pub stage : Stage
  pub goes : Goes moving number steps from (record { stage = stage; at = last })
  pub done : due moving.cluster stage (whole (moving.found last)) ≡ None

-- ---- with given answers of the disks

abbrev pub moving_with : Content → Answers → Moving Situation
moving_with plan answers =
    record { cluster = cluster_of plan; found = λ s. s; next = IsNext (cluster_of plan) answers; comes = ComesTo (cluster_of plan) answers }

-- a healing begins after the plan's schedule
abbrev pub beginning : Content → Situation → Standing Situation
beginning plan s = record { stage = Reopens (reopening plan (whole s)); at = s }

-- With these answers the plan's schedule comes to one situation, and the healing by these steps from there to the last one.
pub record IsHealing (plan : Content) (answers : Answers) (steps : List Step) (between last : Situation) : Type 0 where
  pub follows : Follows (cluster_of plan) answers 0 plan.steps (opened []) between
  pub heals : Heals (moving_with plan answers) (length plan.steps) steps (beginning plan between) last

-- ---- over strict disks

abbrev pub moving_strictly : Content → Moving StrictSituation
moving_strictly plan =
    record {
      cluster = cluster_of plan;
      found = λ (s : StrictSituation). s.found;
      next = IsStrictNext (cluster_of plan);
      comes = StrictlyComesTo (cluster_of plan);
    }

abbrev pub beginning_strictly : Content → StrictSituation → Standing StrictSituation
beginning_strictly plan s = record { stage = Reopens (reopening plan (whole s.found)); at = s }

pub record IsStrictHealing (plan : Content) (steps : List Step) (between last : StrictSituation) : Type 0 where
  pub follows : FollowsStrictly (cluster_of plan) 0 plan.steps (opened_strictly []) between
  pub heals : Heals (moving_strictly plan) (length plan.steps) steps (beginning_strictly plan between) last

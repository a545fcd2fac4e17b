-- A schedule is its steps one by one.
use Rattle.std.specs.Prelude.{◌≡◌, ℕ, ◌+◌, List, [], ◌∷◌}
use Rattle.acc_message.specs.declared.item.Item.{Item}
use Rattle.acc_message.specs.Run.{Cluster}
use Rattle.acc_schedule.specs.Content.{Content}
use Rattle.acc_schedule.specs.declared.plan.Step.{Step}
use Rattle.acc_schedule_runs.specs.Situations.{Situation, opened}
use Rattle.acc_schedule_runs.specs.Moves.{Answers, IsNext}

-- these steps, of which the first has this number, take the first situation to the last one
abbrev pub Follows : Cluster → Answers → ℕ → List Step → Situation → Situation → Type 0
Follows cluster answers number [] s last = last ≡ s
Follows cluster answers number (step ∷ steps) s last =
    (next : Situation) × IsNext cluster answers number step s next × Follows cluster answers (number + 1) steps next last

-- what the run of a plan is of
abbrev pub cluster_of : Content → Cluster
cluster_of plan = record { layout = plan.topology; starts = plan.starts; homes = plan.homes; bodies = plan.bodies }

-- the items, newest first, are those of the plan's schedule with these answers of the disks, from fresh actors
pub record Obeys (plan : Content) (answers : Answers) (items : List Item) : Type 0 where
  pub last : Situation
  pub follows : Follows (cluster_of plan) answers 0 plan.steps (opened []) last
  pub items_are : items ≡ last.own

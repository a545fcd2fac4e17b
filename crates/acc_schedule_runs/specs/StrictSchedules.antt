-- A schedule over strict disks.
use Rattle.std.specs.Prelude.{◌≡◌, ℕ, ◌+◌, List, [], ◌∷◌}
use Rattle.acc_message.specs.declared.item.Item.{Item}
use Rattle.acc_message.specs.Run.{Cluster}
use Rattle.acc_schedule.specs.Content.{Content}
use Rattle.acc_schedule.specs.declared.plan.Step.{Step}
use Rattle.acc_schedule_runs.specs.Schedules.{cluster_of}
use Rattle.acc_schedule_runs.specs.StrictMoves.{StrictSituation, opened_strictly, IsStrictNext}

-- these steps, of which the first has this number, take the first situation to the last one
abbrev pub FollowsStrictly : Cluster → ℕ → List Step → StrictSituation → StrictSituation → Type 0
FollowsStrictly cluster number [] s last = last ≡ s
FollowsStrictly cluster number (step ∷ steps) s last =
    (next : StrictSituation) × IsStrictNext cluster number step s next × FollowsStrictly cluster (number + 1) steps next last

-- the items, newest first, are those of the plan's schedule over strict disks, from fresh actors
pub record ObeysStrictly (plan : Content) (items : List Item) : Type 0 where
  pub last : StrictSituation
  pub follows : FollowsStrictly (cluster_of plan) 0 plan.steps (opened_strictly []) last
  pub items_are : items ≡ last.found.own

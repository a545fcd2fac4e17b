-- Fronts of the run of a schedule over strict disks, and where a limit ends it.
use Rattle.std.specs.Prelude.{◌≡◌, ◌⊎◌, ℕ, ◌+◌, List, [], ◌∷◌}
use Rattle.acc_message.specs.declared.entry.Event.TheVariants.{Message as MessageEvent}
use Rattle.acc_message.specs.declared.error.Which.{Which}
use Rattle.acc_message.specs.declared.item.Item.{Item}
use Rattle.acc_message.specs.Run.{Cluster}
use Rattle.acc_schedule.specs.Content.{Content}
use Rattle.acc_schedule.specs.declared.plan.Step.{Step}
use Rattle.acc_schedule.specs.declared.plan.Step.TheVariants.{Begin, Deliver, Drop, Recover, Slow, Restart, Fail, Drain}
use Rattle.acc_schedule_runs.specs.Situations.{IsOldestWaiting, receiver_in}
use Rattle.acc_schedule_runs.specs.Schedules.{cluster_of}
use Rattle.acc_schedule_runs.specs.StrictMoves.{StrictSituation, opened_strictly, tried_strictly, IsStrictNext}
use Rattle.acc_schedule_runs.specs.Limits.{EndsAt}
use Rattle.acc_schedule_runs.specs.Fronts.{Begins}

-- a drain comes to this situation
pub data StrictlyDrainsTo (cluster : Cluster) (reached : StrictSituation) : StrictSituation → Type 0 where
  comes : (s : StrictSituation) → reached ≡ s → StrictlyDrainsTo cluster reached s
  goes_on : (s : StrictSituation) (message : ℕ) → IsOldestWaiting s.found message
      → StrictlyDrainsTo cluster reached (tried_strictly cluster s (receiver_in s.found message) (MessageEvent message))
      → StrictlyDrainsTo cluster reached s

-- the step comes to this situation
abbrev pub StrictlyComesTo : Cluster → ℕ → Step → StrictSituation → StrictSituation → Type 0
StrictlyComesTo cluster number (Begin txn) s reached = IsStrictNext cluster number (Begin txn) s reached
StrictlyComesTo cluster number (Deliver message) s reached = IsStrictNext cluster number (Deliver message) s reached
StrictlyComesTo cluster number (Drop message) s reached = IsStrictNext cluster number (Drop message) s reached
StrictlyComesTo cluster number (Recover txn node) s reached = IsStrictNext cluster number (Recover txn node) s reached
StrictlyComesTo cluster number (Slow txn) s reached = IsStrictNext cluster number (Slow txn) s reached
StrictlyComesTo cluster number (Restart actor choice) s reached = IsStrictNext cluster number (Restart actor choice) s reached
StrictlyComesTo cluster number (Fail actor calls) s reached = IsStrictNext cluster number (Fail actor calls) s reached
StrictlyComesTo cluster number Drain s reached = StrictlyDrainsTo cluster reached s

-- the steps, of which the first has this number, come to this situation
abbrev pub StrictlyReaches : Cluster → ℕ → List Step → StrictSituation → StrictSituation → Type 0
StrictlyReaches cluster number [] s reached = reached ≡ s
StrictlyReaches cluster number (step ∷ steps) s reached =
    StrictlyComesTo cluster number step s reached
    ⊎ ((next : StrictSituation) × IsStrictNext cluster number step s next × StrictlyReaches cluster (number + 1) steps next reached)

-- the items are a front of those of the plan's run over strict disks
pub record IsStrictFront (plan : Content) (items : List Item) : Type 0 where
  pub reached : StrictSituation
  pub reaches : StrictlyReaches (cluster_of plan) 0 plan.steps (opened_strictly []) reached
  pub begins : Begins items reached.found.own

-- the limit ends the plan's run over strict disks after these items
abbrev pub StrictLimitEnds : Content → List Item → Which → ℕ → Type 0
StrictLimitEnds plan items which number = EndsAt (IsStrictFront plan) items which number

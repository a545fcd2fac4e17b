-- Fronts of the run of a schedule, up to somewhere inside a step, and where a limit ends it.
use Rattle.std.specs.Prelude.{◌≡◌, ◌⊎◌, ℕ, ◌+◌, List, [], ◌∷◌, ◌++◌}
use Rattle.acc_message.specs.declared.entry.Event.TheVariants.{Message as MessageEvent}
use Rattle.acc_message.specs.declared.error.Which.{Which}
use Rattle.acc_message.specs.declared.item.Item.{Item}
use Rattle.acc_message.specs.Run.{Cluster}
use Rattle.acc_schedule.specs.Content.{Content}
use Rattle.acc_schedule.specs.declared.plan.Step.{Step}
use Rattle.acc_schedule.specs.declared.plan.Step.TheVariants.{Begin, Deliver, Drop, Recover, Slow, Restart, Fail, Drain}
use Rattle.acc_schedule_runs.specs.Situations.{Situation, opened, IsOldestWaiting, receiver_in}
use Rattle.acc_schedule_runs.specs.Moves.{Answers, tried, IsNext}
use Rattle.acc_schedule_runs.specs.Schedules.{cluster_of}
use Rattle.acc_schedule_runs.specs.Limits.{EndsAt}

-- a drain comes to this situation: some deliveries, each of the oldest waiting message
pub data DrainsTo (cluster : Cluster) (answers : Answers) (reached : Situation) : Situation → Type 0 where
  comes : (s : Situation) → reached ≡ s → DrainsTo cluster answers reached s
  goes_on : (s : Situation) (message : ℕ) → IsOldestWaiting s message
      → DrainsTo cluster answers reached (tried cluster answers s (receiver_in s message) (MessageEvent message)) → DrainsTo cluster answers reached s

-- The step comes to this situation: a drain to each on its way, also if it never ends, and any other step to its next one.
abbrev pub ComesTo : Cluster → Answers → ℕ → Step → Situation → Situation → Type 0
ComesTo cluster answers number (Begin txn) s reached = IsNext cluster answers number (Begin txn) s reached
ComesTo cluster answers number (Deliver message) s reached = IsNext cluster answers number (Deliver message) s reached
ComesTo cluster answers number (Drop message) s reached = IsNext cluster answers number (Drop message) s reached
ComesTo cluster answers number (Recover txn node) s reached = IsNext cluster answers number (Recover txn node) s reached
ComesTo cluster answers number (Slow txn) s reached = IsNext cluster answers number (Slow txn) s reached
ComesTo cluster answers number (Restart actor choice) s reached = IsNext cluster answers number (Restart actor choice) s reached
ComesTo cluster answers number (Fail actor calls) s reached = IsNext cluster answers number (Fail actor calls) s reached
ComesTo cluster answers number Drain s reached = DrainsTo cluster answers reached s

-- the steps, of which the first has this number, come to this situation: some of them are whole, and one may be under way
abbrev pub Reaches : Cluster → Answers → ℕ → List Step → Situation → Situation → Type 0
Reaches cluster answers number [] s reached = reached ≡ s
Reaches cluster answers number (step ∷ steps) s reached =
    ComesTo cluster answers number step s reached
    ⊎ ((next : Situation) × IsNext cluster answers number step s next × Reaches cluster answers (number + 1) steps next reached)

-- the second items, newest first, begin with the first ones
pub record Begins (front items : List Item) : Type 0 where
  pub later : List Item
  pub items_are : items ≡ later ++ front

-- The items are a front of those of the plan's run, which a restart's or a drain's items may go on.
pub record IsFront (plan : Content) (answers : Answers) (items : List Item) : Type 0 where
  pub reached : Situation
  pub reaches : Reaches (cluster_of plan) answers 0 plan.steps (opened []) reached
  pub begins : Begins items reached.own

-- the limit ends the plan's run after these items
abbrev pub LimitEnds : Content → Answers → List Item → Which → ℕ → Type 0
LimitEnds plan answers items which number = EndsAt (IsFront plan answers) items which number

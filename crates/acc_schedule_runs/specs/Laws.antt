-- What the laws of schedules speak of.
use Rattle.std.specs.Prelude.{◌≡◌, ℕ, ◌<◌, false, not, IsTrue, List, [], ◌∷◌}
use Rattle.std.specs.List.{list_all}
use Rattle.acc_message.specs.declared.item.Item.{Item}
use Rattle.acc_message.specs.Run.{Cluster}
use Rattle.acc_topology.specs.Sets.{is_among}
use Rattle.acc_run_laws.specs.AskLaws.{HasTxn, is_no_down}
use Rattle.acc_schedule.specs.declared.plan.Step.{Step}
use Rattle.acc_schedule.specs.declared.plan.Step.TheVariants.{Begin, Deliver, Drop, Recover, Slow, Restart, Fail, Drain}
use Rattle.acc_schedule_runs.specs.Situations.{is_lost}
use Rattle.acc_schedule_runs.specs.Moves.{Answers}

-- both answer alike at the first places, so many
abbrev pub AgreeBelow : Answers → Answers → ℕ → Type 0
AgreeBelow answers other count =
    (place : ℕ) → place < count → (answers.fails place ≡ other.fails place) × (answers.keeps place ≡ other.keeps place)

-- no disk fails
abbrev pub NeverFails : Answers → Type 0
NeverFails answers = (place : ℕ) → answers.fails place ≡ false

abbrev pub NobodyIsDown : List Item → Type 0
NobodyIsDown items = IsTrue (list_all is_no_down items)

-- no entry is lost
abbrev pub NothingIsLost : List Item → Type 0
NothingIsLost items = IsTrue (list_all (λ item. not (is_lost item)) items)

-- a begin names a transaction of the cluster, and a recover a node of it
abbrev pub IsStepOf : Cluster → Step → Type 0
IsStepOf cluster (Begin txn) = HasTxn cluster txn
IsStepOf cluster (Deliver message) = Unit {0}
IsStepOf cluster (Drop message) = Unit {0}
IsStepOf cluster (Recover txn node) = IsTrue (is_among cluster.layout.nodes node)
IsStepOf cluster (Slow txn) = Unit {0}
IsStepOf cluster (Restart actor choice) = Unit {0}
IsStepOf cluster (Fail actor calls) = Unit {0}
IsStepOf cluster Drain = Unit {0}

-- begins and drains
abbrev pub IsCalmStep : Step → Type 0
IsCalmStep (Begin txn) = Unit {0}
IsCalmStep (Deliver message) = ⊥
IsCalmStep (Drop message) = ⊥
IsCalmStep (Recover txn node) = ⊥
IsCalmStep (Slow txn) = ⊥
IsCalmStep (Restart actor choice) = ⊥
IsCalmStep (Fail actor calls) = ⊥
IsCalmStep Drain = Unit {0}

-- begins and drains, of which the last is a drain
abbrev pub EndsWithDrain : List Step → Type 0
EndsWithDrain [] = ⊥
EndsWithDrain (step ∷ []) = step ≡ Drain
EndsWithDrain (step ∷ other ∷ steps) = IsCalmStep step × EndsWithDrain (other ∷ steps)

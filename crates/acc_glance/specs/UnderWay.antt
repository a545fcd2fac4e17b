-- A cluster on its way through the steps of a plan, with looks.
use Rattle.std.specs.Prelude.{◌≡◌, ℕ, Bool, List, [], ◌∷◌, length, map}
use Rattle.std.specs.List.{AllByRecursion}
use Rattle.acc_ports.specs.declared.disk.Disk.{Ghosts}
use Rattle.acc_message.specs.declared.item.Item.{Item}
use Rattle.acc_schedule.specs.Content.{Content}
use Rattle.acc_schedule_runs.specs.Moves.{Answers}
use Rattle.acc_schedule_runs.specs.Fronts.{Begins}
use Rattle.acc_cluster.specs.declared.cluster.Cluster.{Cluster}
use Rattle.acc_glance.specs.declared.visits.Visitor.{Visitor}
use Rattle.acc_glance.specs.Visits.{IsLed}
use Rattle.acc_glance.specs.Runs.{At, found_in, ArePassed, StandsOver}

-- the items of each of these situations, the newest first, go on from those of the one before it, and these items from all of them
abbrev pub GrowTo : (strictly : Bool) → List Item → List (At strictly) → Type 0
GrowTo strictly own [] = Unit {0}
GrowTo strictly own (s ∷ earlier) = Begins (found_in strictly s).own own × GrowTo strictly (found_in strictly s).own earlier

-- With some answers of the disks so many moments have passed, and the cluster stands for the situation in the next one, whose items go on
-- from those of each of them. The looks stand where the moments have led them.
pub record IsUnderWay {D : Type 0} (strictly : Bool) (port : Ghosts D) (plan : Content) (cluster : Cluster D) (visitors : List Visitor) (count : ℕ) : Type 0 where
  pub answers : Answers
  pub moments : List (At strictly)
  pub now : At strictly
  pub passed : ArePassed strictly plan answers (now ∷ moments)
  pub count_is : length moments ≡ count
  pub goes_on : GrowTo strictly (found_in strictly now).own moments
  pub stands : StandsOver strictly port plan cluster now
  pub led : AllByRecursion (IsLed plan (map (found_in strictly) moments)) visitors

-- The plan that a generated document says.
use Rattle.std.specs.Prelude.{ℕ, ◌%◌, ◌==◌, if◌then◌else◌, List, [], ◌∷◌, ◌++◌, Some, None, codes, flat_map, map}
use Rattle.acc_topology.specs.declared.given.NodeSpec.{NodeSpec}
use Rattle.acc_topology.specs.Layout.{Layout}
use Rattle.acc_schedule.specs.declared.plan.Print.TheVariants.{Summary}
use Rattle.acc_schedule.specs.declared.plan.Step.{Step}
use Rattle.acc_schedule.specs.declared.plan.Step.TheVariants.{Begin, Drain}
use Rattle.acc_schedule.specs.Content.{Content}
use Rattle.acc_generator.specs.Bodies.{body_of}
use Rattle.acc_generator.specs.Document.{home_of, name_of, numbers}

-- ---- the cluster

-- the clocks of all nodes start at 0
abbrev pub start : ℕ → NodeSpec
start id = record { id = id; clock = 0 }

abbrev pub all_nodes : List ℕ
all_nodes = 1 ∷ 2 ∷ 3 ∷ []

abbrev pub cluster : Layout
cluster = record {
  nodes = all_nodes;
  shards =
      record { end = Some (codes "k21"); replicas = all_nodes; electorate = all_nodes }
      ∷ record { end = Some (codes "k42"); replicas = all_nodes; electorate = all_nodes }
      ∷ record { end = None; replicas = all_nodes; electorate = all_nodes } ∷ [];
}

-- ---- steps

-- a transaction begins, and each sixteenth is drained
unfoldable pub steps_of : ℕ → List Step
steps_of number = if number % 16 == 15 then Begin number ∷ Drain ∷ [] else Begin number ∷ []

abbrev pub steps : ℕ → List Step
steps count = flat_map steps_of (numbers count) ++ Drain ∷ []

-- ---- the whole

abbrev pub plan : ℕ → ℕ → Content
plan seed count = record {
  version = 1;
  topology = cluster;
  starts = start 1 ∷ start 2 ∷ start 3 ∷ [];
  names = map name_of (numbers count);
  homes = map home_of (numbers count);
  bodies = map (body_of seed) (numbers count);
  steps = steps count;
  print = Summary;
}

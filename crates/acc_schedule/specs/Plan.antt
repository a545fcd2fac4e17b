-- What holds of the plan of every document that breaks no rule.
use Rattle.std.specs.Prelude.{◌≡◌, ℕ, ◌<◌, ◌≤◌, false, [], length, take, slice_index_or, Contains, IsTrue}
use Rattle.std.specs.List.{AllByRecursion}
use Rattle.acc_topology.specs.Faults.{ids}
use Rattle.acc_topology.specs.Layout.{Layout, IsLayout}
use Rattle.acc_topology.specs.Sets.{in_order, is_among}
use Rattle.acc_txn.specs.Rules.{IsBody}
use Rattle.acc_lang.specs.Texts.{has_text_value}
use Rattle.acc_schedule.specs.Content.{Content}
use Rattle.acc_schedule.specs.declared.plan.Step.{Step}
use Rattle.acc_schedule.specs.declared.plan.Step.TheVariants.{Begin, Deliver, Drop, Recover, Slow, Restart, Fail, Drain}
use Rattle.acc_schedule.specs.Actors.{actors}
use Rattle.acc_schedule.specs.Shards.{is_end}
use Rattle.acc_schedule.specs.Transactions.{is_name, is_new}

-- a step speaks of transactions below the count, and of nodes and actors of the cluster
abbrev pub IsStep : ℕ → Layout → Step → Type 0
IsStep count layout (Begin txn) = txn < count
IsStep count layout (Deliver number) = Unit {0}
IsStep count layout (Drop number) = Unit {0}
IsStep count layout (Recover txn node) = (txn < count) × IsTrue (is_among layout.nodes node)
IsStep count layout (Slow txn) = txn < count
IsStep count layout (Restart actor choice) = Contains (actors layout) actor × (choice ≤ 255)
IsStep count layout (Fail actor calls) = Contains (actors layout) actor × (calls ≤ 1000000)
IsStep count layout Drain = Unit {0}

-- a cluster of nodes with their clocks, transactions with names of their own at its nodes and bodies that keep their rules, and steps
-- of these
pub record IsPlan (plan : Content) : Type 0 where
  pub version : (1 ≤ plan.version) × (plan.version ≤ 2)
  pub layout : IsLayout plan.topology
  pub nodes : plan.topology.nodes ≡ in_order (ids plan.starts)
  pub nodes_once : length plan.starts ≡ length plan.topology.nodes
  pub ends : AllByRecursion (λ shard. IsTrue (is_end shard.end)) plan.topology.shards
  pub clocks : AllByRecursion (λ start. start.clock ≤ 1000000000000) plan.starts
  pub few : length plan.names ≤ 10000
  pub homes_as_many : length plan.homes ≡ length plan.names
  pub bodies_as_many : length plan.bodies ≡ length plan.names
  pub bodies : AllByRecursion IsBody plan.bodies
  pub numbers_alone : plan.version ≡ 1 → AllByRecursion (λ body. has_text_value body ≡ false) plan.bodies
  pub named : AllByRecursion (λ name. IsTrue (is_name name)) plan.names
  pub names_once : (number : ℕ) → number < length plan.names
      → IsTrue (is_new (take number plan.names) (slice_index_or plan.names number []))
  pub homes_known : AllByRecursion (λ home. IsTrue (is_among plan.topology.nodes home)) plan.homes
  pub few_steps : length plan.steps ≤ 200000
  pub steps_known : AllByRecursion (IsStep (length plan.names) plan.topology) plan.steps

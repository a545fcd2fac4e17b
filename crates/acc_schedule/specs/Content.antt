-- What contracts see of a plan.
use Rattle.std.specs.Prelude.{ℕ, List}
use Rattle.acc_topology.specs.Layout.{Layout}
use Rattle.acc_topology.specs.declared.given.NodeSpec.{NodeSpec}
use Rattle.acc_txn.specs.declared.parts.BodyParts.{BodyParts}
use Rattle.acc_schedule.specs.declared.plan.Print.{Print}
use Rattle.acc_schedule.specs.declared.plan.Step.{Step}

-- the version of the document, a cluster, where the clocks of its nodes start, transactions by their numbers, and the steps that they take
pub record Content : Type 0 where
  pub version : ℕ
  pub topology : Layout
  pub starts : List NodeSpec
  pub names : List (List ℕ)
  pub homes : List ℕ
  pub bodies : List BodyParts
  pub steps : List Step
  pub print : Print

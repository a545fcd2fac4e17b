-- What is kept of the payloads of a node that stand before some place, and which one may stand there.
use Rattle.std.specs.Prelude.{◌≡◌, ℕ, ◌&&◌, Bool, List}
use Rattle.std.specs.BTreeSet.{contains}
use Rattle.std.specs.List.{list_any}
use Rattle.std.specs.Ordering.{nat_cmp}
use Rattle.acc_payloads.specs.declared.node.NodePayload.{NodePayload}
use Rattle.acc_payloads.specs.Node.{begins, draws_in, greatest_drawn, has_mark, node_may}
use Rattle.acc_schedule.specs.Content.{Content}
use Rattle.acc_left.specs.declared.nodes.Told.{Told}
use Rattle.acc_left.specs.Rules.{is_of_plan}

-- the payload may stand after these, and is of the plan
abbrev pub follows : Content → ℕ → ℕ → List NodePayload → NodePayload → Bool
follows plan start node before p = node_may plan.version start before p && is_of_plan plan node p

pub record TellNode (start : ℕ) (items : List NodePayload) (told : Told) : Type 0 where
  pub marked : told.marked ≡ has_mark items
  pub greatest : told.greatest ≡ greatest_drawn start (draws_in items)
  pub begun : (txn : ℕ) → contains nat_cmp told.begun txn ≡ list_any (begins txn) (draws_in items)

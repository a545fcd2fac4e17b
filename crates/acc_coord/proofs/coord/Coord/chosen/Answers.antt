use Rattle.std.proofs.Common.{List, sym, subst}
use Rattle.std.specs.Prelude.{IfOk}
use Rattle.acc_topology.specs.Layout.{Layout}
use Rattle.acc_deps.specs.declared.records.Choice.{Choice}
use Rattle.acc_message.specs.declared.message.Message.{Message}
use Rattle.acc_message.specs.Coordinator.{go}
use Rattle.acc_coord.specs.Stands.{own_of, attempt_in, IsPlaced, Follows}
use Rattle.acc_coord.proofs.coord.Coord.chosen.Goals as goal

pub returns-in-Accept : goal.returns-in-Accept
returns-in-Accept c =
    let self = c.args.self.now in
    subst (λ (choice : Choice). IfOk c.propose.result (λ step. (layout : Layout) (answers : List Message) → IsPlaced layout self → Follows layout self answers step (go layout (own_of self) self.id (attempt_in self answers) choice))) (sym c.in-Accept.is) c.propose.ensures

pub returns-in-Commit : goal.returns-in-Commit
returns-in-Commit c =
    let self = c.args.self.now in
    subst (λ (choice : Choice). IfOk c.commit.result (λ step. (layout : Layout) (answers : List Message) → IsPlaced layout self → Follows layout self answers step (go layout (own_of self) self.id (attempt_in self answers) choice))) (sym c.in-Commit.is) c.commit.ensures

pub returns-in-Stable : goal.returns-in-Stable
returns-in-Stable c =
    let self = c.args.self.now in
    subst (λ (choice : Choice). IfOk c.decide.result (λ step. (layout : Layout) (answers : List Message) → IsPlaced layout self → Follows layout self answers step (go layout (own_of self) self.id (attempt_in self answers) choice))) (sym c.in-Stable.is) c.decide.ensures

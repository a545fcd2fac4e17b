use Rattle.std.proofs.Common.{sym, subst}
use Rattle.std.proofs.lemmas.Result.{IfOk-weaker}
use Rattle.acc_message.specs.declared.message.Message.{Message}
use Rattle.acc_message.specs.Coordinator.{on_message}
use Rattle.acc_coord.specs.Stands.{own_of, attempt_in, Follows}
use Rattle.acc_coord.proofs.coord.Coord.taken.Goals as goal

pub returns-in-Nack : goal.returns-in-Nack
returns-in-Nack c =
    let self = c.args.self.now in
    let layout = c.args.topology.now in
    IfOk-weaker c.on_nack.result _ _
    (λ step h. λ answers keeps. subst (λ (m : Message). Follows layout self answers step (on_message layout (own_of self) self.id (attempt_in self answers) m)) (sym c.in-Nack.is) (h layout answers))
    c.on_nack.ensures

use Rattle.std.proofs.Common.{◌≡◌, true, List, subst}
use Rattle.std.proofs.lemmas.Result.{IfOk-weaker}
use Rattle.acc_deps.specs.declared.shards.ShardDeps.{ShardDeps}
use Rattle.acc_message.specs.declared.note.Path.TheVariants.{Adopted}
use Rattle.acc_message.specs.Coordinator.{decide}
use Rattle.acc_coord.specs.Stands.{own_of, attempt_in, may_adopt_in, Follows}
use Rattle.acc_coord.proofs.Moves.{adopts}
use Rattle.acc_coord.proofs.coord.Coord.on_decided.Goals as goal

pub returns : goal.returns
returns c =
    let self = c.args.self.now in
    let may : may_adopt_in self ≡ true = cc in
    IfOk-weaker c.decide.result _ _
    (λ step h. λ layout answers placed.
    adopts layout self answers (record { t = c.args.t; deps = c.args.deps.now }) step may
    (subst (λ (deps : List ShardDeps). Follows layout self answers step (decide layout (own_of self) self.id (attempt_in self answers) Adopted (record { t = c.args.t; deps = deps }))) c.in_ok-deps.ensures (h layout answers placed)))
    c.decide.ensures

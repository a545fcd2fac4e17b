use Rattle.std.proofs.Common.{ap, subst, ◌∙◌}
use Rattle.std.specs.Prelude.{Option, unwrap_or}
use Rattle.std.proofs.lemmas.Result.{IfOk-weaker}
use Rattle.acc_stamp.specs.declared.stamps.Stamp.{Stamp}
use Rattle.acc_stamp.specs.Stamp.{zero_stamp}
use Rattle.acc_deps.specs.declared.records.Settled.{Settled}
use Rattle.acc_message.specs.Shares.{shards_used}
use Rattle.acc_message.specs.Attempts.{plainly}
use Rattle.acc_message.specs.Coordinator.{propose}
use Rattle.acc_coord.specs.Stands.{own_of, attempt_in, Follows}
use Rattle.acc_coord.proofs.Moves.{same_settled, unwrap-greatest_if}
use Rattle.acc_coord.proofs.coord.Coord.slow_down.Goals as goal

pub returns : goal.returns
returns c =
    let self = c.args.self.now in
    IfOk-weaker c.propose.result _ _
    (λ step h. λ layout answers more placed stands.
    let shards = shards_used layout self.body in
    let t_is = c.unwrap_or.ensures ∙ ap (λ (o : Option Stamp). unwrap_or o zero_stamp) (c.greatest.ensures shards (plainly self.id more) stands) ∙ unwrap-greatest_if (plainly self.id more) in
    let deps_are = c.in_ok-copy.ensures ∙ c.deps.ensures shards (plainly self.id more) stands in
    subst (λ (s : Settled). Follows layout self answers step (propose layout (own_of self) self.id (attempt_in self answers) s)) (same_settled t_is deps_are) (h layout answers placed))
    c.propose.ensures

use Rattle.std.proofs.Common.{ap, ◌∙◌}
use Rattle.acc_stamp.specs.Actor.{shard_of}
use Rattle.acc_message.specs.StoreRules.{read_here}
use Rattle.acc_opening.specs.Layer.{layered}
use Rattle.acc_execute.proofs.present.present_cells.Goals as goal

pub returns : goal.returns
returns c =
    let shelf = c.args.shelf.now in
    c.in_ok-read.ensures
    ∙ ap (λ shard. read_here c.args.topology.now shard c.args.body.now (layered shelf.cells c.new-none.result)) c.shard.ensures
    ∙ ap (λ writes. read_here c.args.topology.now (shard_of shelf.actor) c.args.body.now (layered shelf.cells writes)) c.new-none.ensures

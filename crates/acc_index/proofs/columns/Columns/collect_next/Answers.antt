use Rattle.std.proofs.Common.{◌++◌, ap, ◌∙◌}
use Rattle.acc_index.specs.Places.{ids_of}
use Rattle.acc_index.proofs.Steps.{both_told}
use Rattle.acc_index.proofs.columns.Columns.collect_next.Goals as goal

pub returns-clause-found : goal.returns-clause-found
returns-clause-found c =
    let own = c.args.self.now in
    c.in_ok-collect_in.ensures
    ∙ ap (λ zs. c.args.found.now.items ++ ids_of own zs)
    (both_told own c.args.places.now c.args.id c.block-block.result c.args.bound c.below_in-below.result c.block-block.ensures c.below_in-below.ensures)

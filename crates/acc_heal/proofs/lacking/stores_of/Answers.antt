use Rattle.std.proofs.Common.{◌∙◌, ap}
use Rattle.acc_topology.specs.Keys.{shards_of}
use Rattle.acc_topology.specs.Sets.{in_order}
use Rattle.acc_heal.proofs.lacking.stores_of.Goals as goal

pub returns : goal.returns
returns c =
    c.stores.ensures c.args.body.now
    (c.shards_of-shards.ensures.listed ∙ ap (λ (footprint : _). in_order (shards_of c.args.topology.now footprint)) c.uses.ensures)

use Rattle.std.proofs.Common.{◌≡◌, ℕ, List, [], refl, sym, ap, subst, ◌∙◌}
use Rattle.acc_topology.specs.Sets.{members}
use Rattle.acc_txn.specs.Uses.{footprint_of}
use Rattle.acc_message.specs.Shares.{shards_used, stores_used}
use Rattle.acc_tally.specs.Stands.{StandsFor as Tallies}
use Rattle.acc_tally.proofs.Exist.{shards_of-exist}
use Rattle.acc_topology.specs.Keys.{shards_of}
use Rattle.acc_topology.specs.Sets.{in_order}
use Rattle.acc_coord.proofs.coord.Coord.new.Goals as goal

pub returns : goal.returns
returns c =
    let layout = c.args.topology.now in
    let body = c.args.body.now in
    let same : body ≡ c.in_ok-body.body = sym c.in_ok-body.ensures in
    let listed : members c.shards_of-shards.result ≡ shards_used layout body = c.shards_of-shards.ensures.listed ∙ ap (λ (footprint : _). in_order (shards_of layout footprint)) c.uses.ensures in
    let stores_are = c.in_ok-stores.ensures body listed in
    record {
      id = refl;
      ballot_is = refl;
      body_is = c.in_ok-body.ensures;
      voting = refl;
      keeps = record {
        placed = record {
          stores = stores_are ∙ ap (stores_used layout) same;
          shards = listed ∙ ap (shards_used layout) same;
          exist = shards_of-exist layout c.shards.ensures.valid (footprint_of c.in_ok-body.body);
        };
        stage = subst (λ (ns : List ℕ). Tallies c.in_ok-tally.tally ns []) (listed ∙ ap (shards_used layout) same) c.in_ok-tally.ensures;
      };
    }

use Rattle.std.proofs.Common.{length, sym}
use Rattle.std.proofs.lemmas.Bool.{ltb-true}
use Rattle.acc_world.proofs.Homes.{home_low, home_is, no_home}
use Rattle.acc_world.proofs.setup.Setup.home_of.Goals as goal

pub actor-requires-clause-node_in_range : goal.actor-requires-clause-node_in_range
actor-requires-clause-node_in_range c =
    home_low c.args.self.now c.requires c.as_slice.result.now c.args.txn c.in-Some.node.now c.as_slice.ensures
    (ltb-true c.args.txn (length c.as_slice.result.now) (sym c.in-Some.ensures.lookup.0)) c.in-Some.ensures.lookup.1

pub returns-in-Some : goal.returns-in-Some
returns-in-Some c =
    home_is c.args.self.now c.as_slice.result.now c.args.txn c.in-Some.node.now c.as_slice.ensures
    (ltb-true c.args.txn (length c.as_slice.result.now) (sym c.in-Some.ensures.lookup.0)) c.in-Some.ensures.lookup.1 c.actor.result c.actor.ensures.number

pub returns-in-None : goal.returns-in-None
returns-in-None c = no_home c.args.self.now c.as_slice.result.now c.args.txn c.as_slice.ensures c.in-None.ensures.lookup.3

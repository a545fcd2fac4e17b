use Rattle.std.proofs.Common.{length, sym}
use Rattle.std.proofs.lemmas.Bool.{ltb-true}
use Rattle.acc_schedule.proofs.ClusterFacts.{twice_there, twice_past}
use Rattle.acc_schedule.proofs.cluster.stands_twice.Goals as goal

pub returns-in-Some : goal.returns-in-Some
returns-in-Some c =
    twice_there c.args.nodes.now c.args.place c.in-Some.node.now c.is_among.result c.is_among.ensures
    (ltb-true c.args.place (length c.args.nodes.now) (sym c.in-Some.ensures.lookup.0)) c.in-Some.ensures.lookup.1

pub returns-in-None : goal.returns-in-None
returns-in-None c = twice_past c.args.nodes.now c.args.place c.in-None.ensures.lookup.3

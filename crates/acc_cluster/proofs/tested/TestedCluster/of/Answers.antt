use Rattle.acc_cluster.proofs.tested.TestedCluster.of.Goals as goal

pub returns-clause-tested : goal.returns-clause-tested
returns-clause-tested g c = c.in_ok-cluster.ensures.tested c.requires.pasts

use Rattle.acc_store.proofs.Heights.{stepped_low}
use Rattle.acc_store.proofs.Refused.{as_before}
use Rattle.acc_store.proofs.store.Store.take.Goals as goal

pub returns-clause-low : goal.returns-clause-low
returns-clause-low c =
    stepped_low c.args.topology.now c.args.self.now.shelf c.take.new.shelf c.args.m.now c.requires.stands.0 c.requires.stands.1 c.take.result c.take.ensures.ok

pub returns-clause-err : goal.returns-clause-err
returns-clause-err c = as_before c.args.self.now (record { shelf = c.take.new.shelf }) c.take.result c.take.ensures.err

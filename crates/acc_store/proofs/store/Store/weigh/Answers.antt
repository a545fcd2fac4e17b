use Rattle.std.proofs.Common.{◌∙◌}
use Rattle.acc_store.proofs.Weighed.{short_plan, fitting_plan, weighs}
use Rattle.acc_store.proofs.store.Store.weigh.Goals as goal

pub length_of-requires-clause-short : goal.length_of-requires-clause-short
length_of-requires-clause-short c = short_plan c.args.topology.now c.args.self.now c.args.m.now c.requires.short c.args.prepared.now c.requires.prepared _ c.sent.ensures

pub length_of-requires-clause-fits : goal.length_of-requires-clause-fits
length_of-requires-clause-fits c = fitting_plan c.args.topology.now c.args.self.now c.args.m.now c.requires.short c.args.prepared.now c.requires.prepared _ c.sent.ensures

pub returns : goal.returns
returns c messages stands =
    c.length_of.ensures
    ∙ weighs c.args.topology.now c.args.self.now c.args.m.now c.requires.short c.args.prepared.now c.requires.prepared _ c.sent.ensures messages stands

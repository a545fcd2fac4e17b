use Rattle.std.proofs.Common.{ap, ◌∙◌}
use Rattle.acc_store.specs.Queries.{stable_in}
use Rattle.acc_store.proofs.Unapplied.{told_stable}
use Rattle.acc_store.proofs.store.Store.stable_of.Goals as goal

pub returns : goal.returns
returns c layout messages stands =
    c.stable_in.ensures ∙ ap stable_in c.find.ensures ∙ told_stable layout c.args.self.now.shelf messages stands c.args.id

use Rattle.std.proofs.Common.{ap, ◌∙◌}
use Rattle.acc_store.specs.Queries.{body_in}
use Rattle.acc_store.proofs.Unapplied.{told_body}
use Rattle.acc_store.proofs.store.Store.body_of.Goals as goal

pub returns : goal.returns
returns c layout messages stands =
    c.body_in.ensures ∙ ap body_in c.find.ensures ∙ told_body layout c.args.self.now.shelf messages stands c.args.id

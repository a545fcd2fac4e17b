use Rattle.std.proofs.Common.{true, false, Some, sym, ap, ◌∙◌}
use Rattle.acc_store.specs.Queries.{all_applied_at}
use Rattle.acc_store.proofs.Applied.{told_if_applied}
use Rattle.acc_store.proofs.store.Store.read_if_applied.Goals as goal

pub returns-then-not-are_applied : goal.returns-then-not-are_applied
returns-then-not-are_applied c layout messages stands =
    told_if_applied layout c.args.self.now.shelf messages stands c.args.ids.now c.args.key.now false
    (sym c.if-not-are_applied.true ∙ c.are_applied.ensures ∙ ap (all_applied_at c.args.self.now.shelf) c.as_slice.ensures)

pub returns : goal.returns
returns c layout messages stands =
    ap Some c.get.ensures
    ∙ told_if_applied layout c.args.self.now.shelf messages stands c.args.ids.now c.args.key.now true
    (sym c.if-not-are_applied.false ∙ c.are_applied.ensures ∙ ap (all_applied_at c.args.self.now.shelf) c.as_slice.ensures)

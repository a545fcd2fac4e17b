-- A list that is taken away is one of which nothing is left.
use Rattle.std.proofs.Common.{[], ◌++◌, cond, sym, ap, ◌∙◌}
use Rattle.acc_record.specs.Shelf.{watches_in, watchers}
use Rattle.acc_execute.proofs.waits.change_list_of.Goals as goal

pub returns-then-is_emptied-clause-changed : goal.returns-then-is_emptied-clause-changed
returns-then-is_emptied-clause-changed c =
    let before = watchers c.args.waits.now c.args.id in
    ap watches_in c.remove_list.ensures.gone
    ∙ sym (ap (λ drained. cond drained [] before ++ c.args.change.added.items) (c.is_emptied.ensures.drained c.if-is_emptied.true) ∙ c.is_emptied.ensures.none c.if-is_emptied.true)

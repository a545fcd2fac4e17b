use Rattle.std.proofs.Common.{◌≡◌, [], ◌++◌, sym, ap, ◌∙◌}
use Rattle.std.specs.Map.Iter.{deref_pair}
use Rattle.std.proofs.lemmas.List.{append-nil}
use Rattle.std.proofs.lemmas.Map.Iter.{rest_all}
use Rattle.acc_stamp.specs.Rising.{id_among}
use Rattle.acc_store.specs.Queries.{unapplied_among}
use Rattle.acc_store.proofs.Unapplied.{same_entries}
use Rattle.acc_store.proofs.queries.unapplied_of.Goals as goal

pub returns : goal.returns
returns c y =
    let found = c.loop-id.found.items in
    let none : c.loop-id.id-iterator ≡ [] = rest_all deref_pair c.loop-id.id-iterator c.next.new.self c.next.result c.in-None.is c.next.ensures.steps in
    let all : found ≡ unapplied_among c.args.records.now.entries =
    sym (append-nil found) ∙ ap (λ left. found ++ unapplied_among left) (sym none) ∙ c.loop-id.invariant in
    ap (id_among y) all ∙ same_entries c.args.records.now c.iter-id-items.ensures.unique y

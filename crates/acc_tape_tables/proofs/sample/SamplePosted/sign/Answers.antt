-- The item at the place is the one whose name is told.
use Rattle.std.proofs.Common.{Some, sym, ap, ◌∙◌}
use Rattle.std.proofs.lemmas.Option.{slice_get-get_or}
use Rattle.acc_tape_tables.proofs.sample.SamplePosted.sign.Goals as goal

pub returns : goal.returns
returns c =
    let item = c.index.result.now in
    let items = c.args.list.now.items.items in
    (item, slice_get-get_or items c.args.place item c.requires ∙ ap (λ i. Some i) (sym c.index.ensures), c.name_of.ensures)

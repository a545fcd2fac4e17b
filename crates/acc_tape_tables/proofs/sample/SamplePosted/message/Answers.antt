-- The item at the place is the one whose name is told.
use Rattle.std.proofs.Common.{Some, sym, ap, ◌∙◌}
use Rattle.std.proofs.lemmas.Option.{slice_get_within, slice_get-get_or}
use Rattle.acc_tape_tables.proofs.sample.SamplePosted.message.Goals as goal

pub returns : goal.returns
returns c =
    let item = c.index.result.now in
    let items = c.args.list.now.items.items in (
      item,
      slice_get-get_or items c.args.place item (slice_get_within items c.args.place c.requires.0 c.requires.1) ∙ ap (λ i. Some i) (sym c.index.ensures),
      (ap (λ n. n.actor) c.name_of.ensures, ap (λ n. n.number) c.name_of.ensures),
    )

use Rattle.std.proofs.Common.{sym, ◌∙◌}
use Rattle.std.specs.List.{zip}
use Rattle.acc_lanes.proofs.Maxima.{none_chosen, greatest_chosen}
use Rattle.acc_lanes.proofs.chosen.greatest.Goals as goal

pub returns-then-not-contains : goal.returns-then-not-contains
returns-then-not-contains c = none_chosen c.args.mask.now (zip c.args.h.now c.args.origin.now) (sym c.contains.ensures.value ∙ c.if-not-contains.true)

pub returns : goal.returns
returns c =
    greatest_chosen c.args.mask.now c.args.h.now c.args.origin.now _ _ c.requires.places c.requires.origins (sym c.contains.ensures.value ∙ c.if-not-contains.false)
    c.greatest_height-height.ensures c.greatest_origin.ensures

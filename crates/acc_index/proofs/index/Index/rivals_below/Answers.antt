use Rattle.std.proofs.Common.{subst, sym, ap, ◌∙◌, []}
use Rattle.acc_stamp.specs.Rising.{ids_union}
use Rattle.acc_value.specs.Pairs.{IsRising}
use Rattle.acc_index.specs.Noted.{IsGreatestStamp, rival_stamps, rival_ids_below}
use Rattle.acc_index.specs.Kept.{noted_of}
use Rattle.acc_index.proofs.KeptFacts.{in_columns, kept_greatest, kept_below}
use Rattle.acc_index.proofs.index.Index.rivals_below.Goals as goal

pub greatest_and_below-requires-clause-in_range : goal.greatest_and_below-requires-clause-in_range
greatest_and_below-requires-clause-in_range c = in_columns c.self.inside.columns c.self.inside.shares.items c.self.inside.users c.self.invariant

pub returns-clause-greatest : goal.returns-clause-greatest
returns-clause-greatest c =
    let x = c.self.inside in
    let rises = subst IsRising (sym c.pairs-uses.ensures.pairs) c.pairs-uses.ensures.rising in
    subst (λ noted. IsGreatestStamp (rival_stamps noted c.args.id c.args.share.now) c.in_ok-greatest.greatest) c.self.view_is
    (subst (λ uses. IsGreatestStamp (rival_stamps (noted_of x.columns x.shares.items) c.args.id uses) c.in_ok-greatest.greatest) c.pairs-uses.ensures.pairs
    (kept_greatest x.columns x.shares.items x.users c.self.invariant c.args.id c.pairs-uses.result.now rises c.in_ok-greatest.greatest c.in_ok-greatest.ensures.greatest))

pub returns-clause-ids : goal.returns-clause-ids
returns-clause-ids c =
    let x = c.self.inside in
    let rises = subst IsRising (sym c.pairs-uses.ensures.pairs) c.pairs-uses.ensures.rising in
    c.in_ok-ids.ensures.ids ∙ ap (ids_union []) c.in_ok-greatest.ensures.found ∙ kept_below x.columns x.shares.items x.users c.self.invariant c.args.id c.pairs-uses.result.now rises c.args.bound
    ∙ ap (λ uses. rival_ids_below (noted_of x.columns x.shares.items) c.args.id uses c.args.bound) c.pairs-uses.ensures.pairs
    ∙ ap (λ noted. rival_ids_below noted c.args.id c.args.share.now c.args.bound) c.self.view_is

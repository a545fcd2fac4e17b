use Rattle.std.proofs.Common.{subst, sym}
use Rattle.acc_value.specs.Pairs.{IsRising}
use Rattle.acc_index.specs.Noted.{IsGreatestStamp, rival_stamps}
use Rattle.acc_index.specs.Kept.{noted_of}
use Rattle.acc_index.proofs.KeptFacts.{in_columns, kept_greatest}
use Rattle.acc_index.proofs.index.Index.greatest_conflict.Goals as goal

pub greatest_of_all-requires-clause-in_range : goal.greatest_of_all-requires-clause-in_range
greatest_of_all-requires-clause-in_range c = in_columns c.self.inside.columns c.self.inside.shares.items c.self.inside.users c.self.invariant

pub returns : goal.returns
returns c =
    let x = c.self.inside in
    let rises = subst IsRising (sym c.pairs.ensures.pairs) c.pairs.ensures.rising in
    subst (λ noted. IsGreatestStamp (rival_stamps noted c.args.id c.args.share.now) c.greatest_of_all.result) c.self.view_is
    (subst (λ uses. IsGreatestStamp (rival_stamps (noted_of x.columns x.shares.items) c.args.id uses) c.greatest_of_all.result) c.pairs.ensures.pairs
    (kept_greatest x.columns x.shares.items x.users c.self.invariant c.args.id c.pairs.result.now rises c.greatest_of_all.result c.greatest_of_all.ensures))

use Rattle.std.proofs.Common.{subst, sym, ap, ◌∙◌, []}
use Rattle.std.proofs.lemmas.Result.{IfOk-weaker}
use Rattle.acc_stamp.specs.Rising.{ids_union}
use Rattle.acc_value.specs.Pairs.{IsRising}
use Rattle.acc_index.specs.Noted.{rival_ids}
use Rattle.acc_index.specs.Kept.{noted_of}
use Rattle.acc_index.proofs.KeptFacts.{in_columns, kept_ids}
use Rattle.acc_index.proofs.index.Index.conflicting.Goals as goal

pub all_of-requires-clause-in_range : goal.all_of-requires-clause-in_range
all_of-requires-clause-in_range c = in_columns c.self.inside.columns c.self.inside.shares.items c.self.inside.users c.self.invariant

pub returns : goal.returns
returns c =
    let x = c.self.inside in
    let rises = subst IsRising (sym c.pairs.ensures.pairs) c.pairs.ensures.rising in
    IfOk-weaker c.all_of.result _ _ (λ found are.
    ap (ids_union []) are ∙ kept_ids x.columns x.shares.items x.users c.self.invariant c.args.id c.pairs.result.now rises
    ∙ ap (λ uses. rival_ids (noted_of x.columns x.shares.items) c.args.id uses) c.pairs.ensures.pairs
    ∙ ap (λ noted. rival_ids noted c.args.id c.args.share.now) c.self.view_is) c.all_of.ensures

-- The greatest of the others tells of all.
use Rattle.std.proofs.Common.{◌≡◌, sym, ◌∙◌, subst, rules}
use Rattle.acc_stamp.specs.Stamp.{stamp_lt}
use Rattle.acc_index.specs.Noted.{IsGreatestStamp}
use Rattle.acc_record.proofs.Greatest.{all_below-none, all_below-greatest}
use Rattle.acc_record.proofs.vote.is_above.Goals as goal

pub returns-in-Some : goal.returns-in-Some
returns-in-Some c others g =
    let is : c.lt.result ≡ stamp_lt c.in-Some.greatest c.args.stamp = search (rules, c.lt.ensures) in
    is ∙ sym (all_below-greatest others c.in-Some.greatest c.args.stamp (subst (IsGreatestStamp others) c.in-Some.is g))

pub returns-in-None : goal.returns-in-None
returns-in-None c others g = sym (all_below-none others c.args.stamp (subst (IsGreatestStamp others) c.in-None.is g))

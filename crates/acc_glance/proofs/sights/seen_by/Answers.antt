use Rattle.std.proofs.Common.{sym, subst}
use Rattle.acc_glance.specs.Seen.{EndsAs}
use Rattle.acc_glance.specs.Sights.{SettledBelow}
use Rattle.acc_glance.proofs.SightFacts.{handed}
use Rattle.acc_glance.proofs.sights.seen_by.Goals as goal

pub returns-in-Read : goal.returns-in-Read
returns-in-Read c =
    let key = c.args.finding.now.look.key in
    handed c.seen_at.result _ _ c.seen_at.ensures
    (λ seen ends cluster items next h.
    subst (λ stage. EndsAs cluster items key stage seen) (sym c.in-Read.is)
    (ends cluster items next key (subst (λ stage. SettledBelow cluster items next key stage c.args.finding.now.at) c.in-Read.is h)))

use Rattle.std.proofs.Common.{subst}
use Rattle.acc_glance.specs.Sights.{SettledBelow}
use Rattle.acc_glance.proofs.SightFacts.{kept_settled, none_is}
use Rattle.acc_glance.proofs.sights.settle_one.Goals as goal
use Rattle.std.proofs.Common.{◌+◌}

pub returns-then-is_some-clause-settled : goal.returns-then-is_some-clause-settled
returns-then-is_some-clause-settled c = λ cluster items order shows h.
    kept_settled cluster items c.args.first (c.args.last + 1) c.args.finding.now.look.key c.args.finding.now.stage c.args.finding.now.at c.if-is_some.ensures h

pub returns-clause-settled : goal.returns-clause-settled
returns-clause-settled c = λ cluster items order shows h.
    c.moment_in-found.ensures cluster items order shows
    (subst (SettledBelow cluster items c.args.first c.args.finding.now.look.key c.args.finding.now.stage) (none_is c.args.finding.now.at c.if-is_some.ensures) h)

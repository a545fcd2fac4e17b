use Rattle.std.proofs.Common.{◌+◌, None, sym, subst}
use Rattle.acc_glance.specs.Sights.{SettledBelow}
use Rattle.acc_glance.proofs.sights.moment_in.Goals as goal

pub returns-in-Read : goal.returns-in-Read
returns-in-Read c = λ cluster items order shows none.
    subst (λ stage. SettledBelow cluster items (c.args.last + 1) c.args.key.now stage c.moment_of.result) (sym c.in-Read.is)
    (c.moment_of.ensures cluster items c.in-Read.to order shows (subst (λ stage. SettledBelow cluster items c.args.first c.args.key.now stage None) c.in-Read.is none))

use Rattle.std.proofs.Common.{sym, ◌∙◌}
use Rattle.acc_audit.specs.Users.{lacks_at}
use Rattle.acc_audit.proofs.LookupFacts.{lacks_one, rises_one}
use Rattle.acc_audit.proofs.index.lack_some.Goals as goal

pub lack_one-requires : goal.lack_one-requires
lack_one-requires c = rises_one c.args.stood.now c.loop-one.one-index c.one-item.result c.requires c.loop-one-test.true c.one-item.is

pub returns-then-lack_one : goal.returns-then-lack_one
returns-then-lack_one c =
    sym (lacks_one (lacks_at c.args.number c.args.t c.args.marks.now c.args.mark) c.args.stood.now c.loop-one.one-index c.one-item.result c.loop-one-test.true c.one-item.is
    (sym c.lack_one.ensures ∙ c.if-lack_one.true))

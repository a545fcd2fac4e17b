use Rattle.acc_audit.proofs.LookupFacts.{stand_more}
use Rattle.acc_audit.proofs.index.stand.Goals as goal

pub loop-used-preserved : goal.loop-used-preserved
loop-used-preserved c =
    stand_more c.args.users.now c.args.uses.now c.loop-used.used-index c.used-item.result c.get.result c.loop-used.stood.items c.push.new.self.items c.loop-used-test.true c.used-item.is c.get.ensures.value
    c.in_ok-push.ensures.items c.loop-used.invariant

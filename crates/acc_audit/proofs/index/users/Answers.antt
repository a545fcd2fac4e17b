use Rattle.acc_audit.proofs.UserFacts.{entry_more, none_above}
use Rattle.acc_audit.proofs.index.users.Goals as goal

pub loop-entry-preserved : goal.loop-entry-preserved
loop-entry-preserved c =
    let i = c.loop-entry.entry-index in
    record {
      users = entry_more c.args.bodies.now c.args.order.now i _ c.loop-entry.users c.add_entry.new.users c.loop-entry-test.true c.loop-entry.invariant.users c.in_ok-add_entry.ensures.users;
      rise = c.in_ok-add_entry.ensures.rise c.loop-entry.invariant.rise (none_above c.args.bodies.now c.args.order.now i _ c.loop-entry.users c.requires c.loop-entry-test.true c.loop-entry.invariant.users);
    }

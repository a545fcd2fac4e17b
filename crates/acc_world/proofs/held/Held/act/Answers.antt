use Rattle.acc_message.specs.declared.entry.Event.TheVariants.{Begin, Recover, Slow, Message}
use Rattle.acc_world.proofs.Acted.{acted, refuses, comes_back}
use Rattle.acc_world.proofs.held.Held.act.Goals as goal

pub returns-in-Begin-clause-ok : goal.returns-in-Begin-clause-ok
returns-in-Begin-clause-ok c =
    acted c.args.setup.now c.args.history.now c.args.actor c.args.self.now c.begin.new.self c.begin.result c.args.event (Begin c.in-Begin.txn) c.in-Begin.is c.begin.ensures.ok

pub returns-in-Recover-clause-ok : goal.returns-in-Recover-clause-ok
returns-in-Recover-clause-ok c =
    acted c.args.setup.now c.args.history.now c.args.actor c.args.self.now c.recover.new.self c.recover.result c.args.event (Recover c.in-Recover.txn) c.in-Recover.is c.recover.ensures.ok

pub returns-in-Slow-clause-ok : goal.returns-in-Slow-clause-ok
returns-in-Slow-clause-ok c =
    acted c.args.setup.now c.args.history.now c.args.actor c.args.self.now c.slow.new.self c.slow.result c.args.event (Slow c.in-Slow.txn) c.in-Slow.is c.slow.ensures.ok

pub returns-in-Slow-clause-refused : goal.returns-in-Slow-clause-refused
returns-in-Slow-clause-refused c =
    refuses c.args.setup.now c.args.history.now c.args.actor c.args.self.now c.slow.result c.args.event (Slow c.in-Slow.txn) c.in-Slow.is c.slow.ensures.refused

pub returns-in-Message-clause-ok : goal.returns-in-Message-clause-ok
returns-in-Message-clause-ok c =
    acted c.args.setup.now c.args.history.now c.args.actor c.args.self.now c.take.new.self c.take.result c.args.event (Message c.in-Message.number) c.in-Message.is c.take.ensures.ok

pub returns-in-Restart-clause-ok : goal.returns-in-Restart-clause-ok
returns-in-Restart-clause-ok c =
    comes_back c.args.setup.now c.args.history.now c.args.actor c.args.self.now c.restart.new.self c.nothing.result c.args.event _ c.in-Restart.is c.restart.ensures c.nothing.ensures

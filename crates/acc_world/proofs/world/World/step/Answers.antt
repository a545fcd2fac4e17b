use Rattle.acc_run_laws.specs.declared.ask.Ask.TheVariants.{Begin, Recover, Slow, Deliver, Restart}
use Rattle.acc_world.proofs.Told.{told}
use Rattle.acc_world.proofs.world.World.step.Goals as goal

pub returns-in-Begin-clause-ok : goal.returns-in-Begin-clause-ok
returns-in-Begin-clause-ok c = told c.args.self.now c.begin.new.self c.begin.result c.args.ask.now (Begin c.in-Begin.txn) c.in-Begin.is c.begin.ensures.same c.begin.ensures.ok

pub returns-in-Recover-clause-ok : goal.returns-in-Recover-clause-ok
returns-in-Recover-clause-ok c = told c.args.self.now c.recover.new.self c.recover.result c.args.ask.now (Recover c.in-Recover.txn c.in-Recover.node) c.in-Recover.is c.recover.ensures.same c.recover.ensures.ok

pub returns-in-Slow-clause-ok : goal.returns-in-Slow-clause-ok
returns-in-Slow-clause-ok c = told c.args.self.now c.slow.new.self c.slow.result c.args.ask.now (Slow c.in-Slow.txn) c.in-Slow.is c.slow.ensures.same c.slow.ensures.ok

pub returns-in-Deliver-clause-ok : goal.returns-in-Deliver-clause-ok
returns-in-Deliver-clause-ok c = told c.args.self.now c.deliver.new.self c.deliver.result c.args.ask.now (Deliver c.in-Deliver.number) c.in-Deliver.is c.deliver.ensures.same c.deliver.ensures.ok

pub returns-in-Restart-clause-ok : goal.returns-in-Restart-clause-ok
returns-in-Restart-clause-ok c = told c.args.self.now c.restart.new.self c.restart.result c.args.ask.now (Restart c.in-Restart.actor) c.in-Restart.is c.restart.ensures.same c.restart.ensures.ok

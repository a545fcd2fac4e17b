use Rattle.std.proofs.Common.{refl}
use Rattle.acc_message.specs.declared.entry.Event.TheVariants.{Restart as RestartEvent}
use Rattle.acc_message.specs.NodeRules.{Restarts}
use Rattle.acc_run_laws.specs.declared.ask.Ask.TheVariants.{Restart}
use Rattle.acc_world.specs.Held.{cluster_of}
use Rattle.acc_world.proofs.Asks.{answered}
use Rattle.acc_world.proofs.Entered.{has_restarted}
use Rattle.acc_world.proofs.world.World.restart.Goals as goal

pub returns-clause-ok : goal.returns-clause-ok
returns-clause-ok c items s =
    let w = c.args.self.now in
    answered w _ items (Restart c.args.actor) c.args.actor (RestartEvent 0) Restarts c.in_ok-entry.entry
    (has_restarted w _ items c.args.actor c.nothing-emitted.result c.in_ok-entry.entry s.stands c.nothing-emitted.ensures c.in_ok-entry.ensures.entry refl
    (c.in_ok-entry.ensures.ok items s.stands.past _)
    (c.restart.ensures (cluster_of w.setup) items s.stands.actors))
    refl refl refl

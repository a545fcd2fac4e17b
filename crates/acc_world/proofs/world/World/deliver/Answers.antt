use Rattle.std.proofs.Common.{refl, sym, ap, ◌∙◌}
use Rattle.acc_message.specs.declared.entry.Event.TheVariants.{Message as MessageEvent}
use Rattle.acc_message.specs.NodeRules.{Takes}
use Rattle.acc_run_laws.specs.declared.ask.Ask.TheVariants.{Deliver}
use Rattle.acc_run_laws.specs.Asks.{receiver}
use Rattle.acc_world.specs.Held.{past_of}
use Rattle.acc_world.proofs.Asks.{takes, message_skip, message_goes, answered}
use Rattle.acc_world.proofs.world.World.deliver.Goals as goal

pub returns-in_default-clause-skip : goal.returns-in_default-clause-skip
returns-in_default-clause-skip c items s =
    message_skip c.args.self.now items c.args.number c.sent-sent.result (c.in_default.ensures (past_of items) s.stands.past) (c.sent-sent.ensures (past_of items) s.stands.past)

pub enter-requires : goal.enter-requires
enter-requires c =
    let items = c.requires.items in
    let s = c.requires.asked in
    record {
      items = items;
      act = Takes c.in-Some.m.now;
      tried = takes c.args.self.now items c.args.number c.in-Some.m.now s (c.in-Some.ensures (past_of items) s.stands.past) c.to-to.result c.to-to.ensures;
    }

pub returns-in-Ok-clause-ok : goal.returns-in-Ok-clause-ok
returns-in-Ok-clause-ok c items s =
    let found = c.in-Some.ensures (past_of items) s.stands.past in
    answered c.args.self.now c.enter.new.self items (Deliver c.args.number) c.to-to.result (MessageEvent c.args.number) (Takes c.in-Some.m.now) c.in-Ok.entry
    (c.in-Ok.ensures.ok items (Takes c.in-Some.m.now) (takes c.args.self.now items c.args.number c.in-Some.m.now s found c.to-to.result c.to-to.ensures))
    (ap receiver (sym found) ∙ sym c.to-to.ensures) refl (message_goes c.args.self.now items c.args.number c.in-Some.m.now found)

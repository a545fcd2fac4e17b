use Rattle.std.proofs.Common.{false, refl, subst}
use Rattle.acc_message.specs.declared.entry.Entry.{Entry}
use Rattle.acc_world.specs.Stands.{Stands}
use Rattle.acc_world.specs.Held.{cluster_of}
use Rattle.acc_world.proofs.Entered.{ready_at, takes_sent, has_entered, still_at, same_items}
use Rattle.acc_world.proofs.world.World.enter.Goals as goal

pub act-requires : goal.act-requires
act-requires c =
    record {
      items = c.requires.items;
      act = c.requires.act;
      ready = ready_at c.args.self.now c.args.actor c.args.event c.requires.items c.requires.act c.requires.tried;
    }

pub returns-in-Ok-note-clause-ok : goal.returns-in-Ok-note-clause-ok
returns-in-Ok-note-clause-ok c items act tried =
    let w = c.args.self.now in
    let acted = c.in-Ok.ensures.ok items act (ready_at w c.args.actor c.args.event items act tried) in
    has_entered w _ items c.args.actor c.args.event act c.in-Ok.emitted c.in-Ok-note.entry tried.stands tried.kept acted.may acted.emits_it c.in-Ok-note.ensures.entry refl
    (c.in-Ok-note.ensures.ok items tried.stands.past (takes_sent (cluster_of w.setup) items c.args.event act tried.may.act_is)) acted.held

pub returns-in-Err-note-clause-err : goal.returns-in-Err-note-clause-err
returns-in-Err-note-clause-err c items stands =
    let w = c.args.self.now in
    let tried = c.requires.tried in
    let acted = c.in-Ok.ensures.ok c.requires.items c.requires.act (ready_at w c.args.actor c.args.event c.requires.items c.requires.act tried) in
    let e : Entry = record { actor = c.args.actor; event = c.args.event; emitted = c.in-Ok.emitted; lost = false } in
    subst (Stands _) (same_items w.history c.requires.items items tried.stands.past stands.past)
    (still_at w _ refl c.requires.items tried.stands (c.in-Err-note.ensures.err c.requires.items tried.stands.past)
    (c.leave_out.ensures (cluster_of w.setup) c.requires.items e refl acted.held))

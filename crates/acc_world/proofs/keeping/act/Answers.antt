use Rattle.std.proofs.Common.{sym}
use Rattle.std.proofs.lemmas.Result.{IfOk-weaker, IfErr-weaker, on_err_weaker}
use Rattle.acc_message.specs.Run.{deeds_of}
use Rattle.acc_world.specs.Held.{cluster_of}
use Rattle.acc_world.proofs.Kept.{found_stands, asked_ready, has_acted, put_in}
use Rattle.acc_world.proofs.keeping.act.Goals as goal

pub cover-requires : goal.cover-requires
cover-requires c = record { past = (c.requires.items, c.requires.ready.past); known = c.requires.ready.known }

pub act-requires : goal.act-requires
act-requires c =
    let of = cluster_of c.args.setup.now in
    let items = c.requires.items in
    let ready = c.requires.ready in
    record {
      items = items;
      earlier = items;
      act = c.requires.act;
      asked = asked_ready c.args.setup.now c.args.history.now c.args.actors.now c.args.actor c.args.event items c.requires.act c.in-Some.held.now ready
          (found_stands of items c.cover.new.actors c.args.actor c.in-Some.held.now (sym c.in-Some.ensures.value) (c.cover.ensures.held items ready.past ready.held));
    }

pub returns-in-Some-clause-ok : goal.returns-in-Some-clause-ok
returns-in-Some-clause-ok c =
    IfOk-weaker c.act.result _ _
    (λ emitted took items act ready.
    let of = cluster_of c.args.setup.now in
    let all = c.cover.ensures.held items ready.past ready.held in
    has_acted of items c.cover.new.actors (c.get_mut.follows.lender c.act.new.self) c.args.actor c.args.event act emitted c.act.new.self
    (took items items act (asked_ready c.args.setup.now c.args.history.now c.args.actors.now c.args.actor c.args.event items act c.in-Some.held.now ready
    (found_stands of items c.cover.new.actors c.args.actor c.in-Some.held.now (sym c.in-Some.ensures.value) all)))
    ((c.get_mut.follows.holds c.act.new.self).3 c.in_ok-cover.ensures.there).0 all)
    c.act.ensures.ok

pub returns-in-Some-clause-refused : goal.returns-in-Some-clause-refused
returns-in-Some-clause-refused c =
    IfErr-weaker c.act.result _ _
    (λ error refused items act ready.
    let all = c.cover.ensures.held items ready.past ready.held in
    refused items items act (asked_ready c.args.setup.now c.args.history.now c.args.actors.now c.args.actor c.args.event items act c.in-Some.held.now ready
    (found_stands (cluster_of c.args.setup.now) items c.cover.new.actors c.args.actor c.in-Some.held.now (sym c.in-Some.ensures.value) all)))
    c.act.ensures.refused

pub returns-in-Some-clause-err : goal.returns-in-Some-clause-err
returns-in-Some-clause-err c =
    on_err_weaker c.act.result
    (λ same items past before.
    let of = cluster_of c.args.setup.now in
    let all = c.cover.ensures.held items past before in
    put_in of items c.cover.new.actors (c.get_mut.follows.lender c.act.new.self) c.args.actor c.act.new.self
    ((c.get_mut.follows.holds c.act.new.self).3 c.in_ok-cover.ensures.there).0 all
    (same c.args.actor (deeds_of of c.args.actor items)
    (found_stands of items c.cover.new.actors c.args.actor c.in-Some.held.now (sym c.in-Some.ensures.value) all)))
    c.act.ensures.err

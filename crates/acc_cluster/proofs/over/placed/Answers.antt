-- One slot more.
use Rattle.std.proofs.Common.{rules, List, [], sym, subst}
use Rattle.std.specs.Vec.Iter.{into_iter_items}
use Rattle.acc_stamp.specs.declared.actors.Actor.{Actor}
use Rattle.acc_actors.specs.declared.slot.Slot.{Slot}
use Rattle.acc_cluster.specs.Over.{ArePlaced}
use Rattle.acc_cluster.proofs.OverSlots.{none_placed, one_placed}
use Rattle.acc_cluster.proofs.Turns.{one_more, all_out}
use Rattle.acc_cluster.proofs.over.placed.Goals as goal

pub loop-actor-init : goal.loop-actor-init
loop-actor-init g c = record {
  can_next = tt;
  is_finite = tt;
  rest = search rules;
  placed = subst (λ (l : List (Slot g.row.D.Denot)). ArePlaced [] l) (sym c.new-placed.ensures.items) none_placed;
}

pub loop-actor-preserved : goal.loop-actor-preserved
loop-actor-preserved g c =
    let before = c.loop-actor.invariant in
    record {
      can_next = tt;
      is_finite = tt;
      rest = one_more c.loop-actor.yielded (c.in-Some.actor, c.in-Some.slot) (into_iter_items c.loop-actor.actor-iterator) (into_iter_items c.next.new.self) c.args.slots.items before.rest c.in-Some.ensures.steps.0;
      placed = one_placed c.loop-actor.placed.items c.put.new.slots.items c.in-Some.actor c.in-Some.slot c.in_ok-put.ensures c.loop-actor.yielded before.placed;
    }

pub returns : goal.returns
returns g c =
    let left = c.loop-actor.actor-iterator in
    let all = all_out c.loop-actor.yielded (into_iter_items left) c.args.slots.items left.rest.len c.loop-actor.invariant.rest left.rest.ok.0 c.in-None.ensures.steps.0 in
    subst (λ (slots : List (Actor × Slot g.row.D.Denot)). ArePlaced slots c.loop-actor.placed.items) all c.loop-actor.invariant.placed

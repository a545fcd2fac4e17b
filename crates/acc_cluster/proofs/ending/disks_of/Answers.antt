-- The disks of the slots so far, and of one more.
use Rattle.std.proofs.Common.{rules, ◌≡◌, ◌+◌, List, [], ◌∷◌, ◌++◌, length, length-append, sym, ◌∙◌, ap, arith}
use Rattle.acc_actors.specs.declared.slot.Slot.{Slot}
use Rattle.acc_cluster.specs.Ends.{disks_from, entry_of}
use Rattle.std.specs.Vec.Iter.{into_iter_items}
use Rattle.acc_cluster.proofs.LeftDisks.{disks_more}
use Rattle.acc_cluster.proofs.Turns.{one_more, all_out}
use Rattle.acc_cluster.proofs.ending.disks_of.Goals as goal

pub loop-slot-preserved : goal.loop-slot-preserved
loop-slot-preserved g c =
    let before = c.loop-slot.invariant in
    let slots = c.loop-slot.yielded in
    let slot = c.in-Some.slot in
    let long = length-append slots (slot ∷ []) in
    let place : c.loop-slot.number ≡ 0 + length slots = omega (arith, before.number) in record {
      can_next = search rules;
      is_finite = search rules;
      rest = one_more slots slot (into_iter_items c.loop-slot.slot-iterator) (into_iter_items c.next.new.self) c.args.slots.items before.rest c.in-Some.ensures.steps.0;
      number = omega (arith, long, before.number, c.in_ok-number.ensures);
      disks =
          c.in_ok-put_disk.ensures.disks ∙ ap (λ es. es ++ entry_of c.loop-slot.number slot) before.disks
          ∙ ap (λ n. disks_from 0 slots ++ entry_of n slot) place ∙ sym (disks_more 0 slots slot);
    }

pub returns : goal.returns
returns g c =
    let left = c.loop-slot.slot-iterator in
    let all = all_out c.loop-slot.yielded (into_iter_items left) c.args.slots.items left.rest.len c.loop-slot.invariant.rest left.rest.ok.0 c.in-None.ensures.steps.0 in
    record { disks = c.loop-slot.invariant.disks ∙ ap (λ (slots : List (Slot g.row.D.Denot)). disks_from 0 slots) all }

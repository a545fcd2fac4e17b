-- One more seat that holds nothing.
use Rattle.std.proofs.Common.{◌≡◌, All, sym, subst}
use Rattle.std.proofs.lemmas.List.Elements.{All-push}
use Rattle.acc_tape.specs.Seats.{SeatView}
use Rattle.acc_tape_tables.specs.declared.sample.Sample.{Sample}
use Rattle.acc_tape_tables.proofs.Chairs.{next_chair, rest_behind, count_behind}
use Rattle.acc_tape_tables.proofs.hall.seats.Goals as goal

pub free_seat-requires : goal.free_seat-requires
free_seat-requires c =
    next_chair c.args.tape.now c.args.chairs.items c.loop-chair.yielded _ _ c.in-Some.chair c.loop-chair.invariant.rest c.in-Some.ensures.steps.0 c.requires

pub loop-chair-preserved : goal.loop-chair-preserved
loop-chair-preserved c =
    let l = c.loop-chair.invariant in
    let next = c.in-Some.ensures.steps.0 in
    let tape = c.args.tape.now in
    let Free : SeatView Sample → Type 0 = λ seat. (seat.tape ≡ tape) × (seat.held_items ≡ 0) × (seat.held_weight ≡ 0) in
    record {
      can_next = tt;
      is_finite = tt;
      rest = rest_behind c.loop-chair.yielded _ _ c.args.chairs.items c.in-Some.chair l.rest next;
      count = count_behind c.push.new.self c.loop-chair.seats c.loop-chair.yielded c.in-Some-free_seat.seat c.in-Some.chair c.in_ok-push.ensures.ok l.count;
      free = subst (All Free) (sym c.in_ok-push.ensures.ok) (All-push Free c.loop-chair.seats c.in-Some-free_seat.seat l.free c.in-Some-free_seat.ensures);
    }

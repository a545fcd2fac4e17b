-- One more chair of the tape.
use Rattle.std.proofs.Common.{All, sym, subst}
use Rattle.std.proofs.lemmas.List.Elements.{All-push}
use Rattle.acc_tape_tables.specs.Halls.{IsChair}
use Rattle.acc_tape_tables.proofs.Chairs.{next_worked, rest_behind, count_behind}
use Rattle.acc_tape_tables.proofs.threads.left.Goals as goal

pub loop-work-preserved : goal.loop-work-preserved
loop-work-preserved c =
    let l = c.loop-work.invariant in
    let next = c.in-Some.ensures.steps.0 in
    let tape = c.args.tape.now in
    let chair = next_worked tape c.args.worked.items c.loop-work.yielded _ _ c.in-Some.work l.rest next c.requires in
    record {
      can_next = tt;
      is_finite = tt;
      rest = rest_behind c.loop-work.yielded _ _ c.args.worked.items c.in-Some.work l.rest next;
      count = count_behind c.push.new.self.items c.loop-work.chairs.items c.loop-work.yielded c.in-Some.work.chair c.in-Some.work c.in_ok-push.ensures.items l.count;
      are = subst (All (IsChair tape)) (sym c.in_ok-push.ensures.items) (All-push (IsChair tape) c.loop-work.chairs.items c.in-Some.work.chair l.are chair);
    }

use Rattle.std.proofs.Common.{◌++◌, rules, sym, ap, ◌∙◌}
use Rattle.std.proofs.lemmas.List.{append-nil}
use Rattle.acc_left.proofs.RollFacts.{begins_more, begins_of, begins_same, lists_begins}
use Rattle.acc_left.proofs.drawn.Drawn.begins.Goals as goal

pub loop-stamp-preserved : goal.loop-stamp-preserved
loop-stamp-preserved c =
    begins_same c.args.self.now.draws.entries c.loop-stamp.stamp-iterator c.next.new.self c.loop-stamp.begins.items (c.in-Some.stamp.now, c.in-Some.draw.now)
    c.loop-stamp.invariant c.in-Some.ensures.steps (search rules)

pub loop-stamp-preserved-in-Continue-1 : goal.loop-stamp-preserved-in-Continue-1
loop-stamp-preserved-in-Continue-1 c =
    begins_more c.args.self.now.draws.entries c.loop-stamp.stamp-iterator c.next.new.self c.loop-stamp.begins.items c.push.new.self.items (c.in-Some.stamp.now, c.in-Some.draw.now)
    c.loop-stamp.invariant c.in-Some.ensures.steps (search rules) c.in_ok-push.ensures.items

pub returns : goal.returns
returns c =
    lists_begins c.args.self.now.draws c.loop-stamp.begins.items c.into_iter-stamp-iterator.ensures.into_iter_gives.5
    (sym (append-nil c.loop-stamp.begins.items) ∙ ap (λ l. c.loop-stamp.begins.items ++ begins_of l) (sym c.in-None.ensures.steps.0) ∙ c.loop-stamp.invariant)

use Rattle.std.proofs.Common.{reverse, take, sym, ◌∙◌, ap, subst, arith}
use Rattle.std.proofs.lemmas.List.{take_all}
use Rattle.acc_message.specs.Shown.{with_sent}
use Rattle.acc_report.proofs.Steps.{reverse_more}
use Rattle.acc_heal.specs.Seen.{Tells}
use Rattle.acc_heal.proofs.SeenFacts.{oldest_items}
use Rattle.acc_heal.proofs.seen.Seen.look.Goals as goal

pub loop-place-init : goal.loop-place-init
loop-place-init c = λ tells.
    let items = c.args.items.now.items in
    subst (Tells c.args.self.now)
    (sym (ap (λ n. reverse (take n items)) tells.tells.count ∙ oldest_items items tells.later tells.oldest tells.items_are)) tells.tells

pub loop-place-preserved : goal.loop-place-preserved
loop-place-preserved c = λ tells.
    let items = c.args.items.now.items in
    let place = c.loop-place.place in
    let told = c.shown.ensures.0 in
    let item = with_sent c.shown.result told in
    subst (Tells c.enter.new.self) (sym (reverse_more items place item c.shown.ensures.1))
    (c.in_ok-enter.ensures (reverse (take place items)) told (c.sent.ensures item c.shown.ensures.1) (c.loop-place.invariant tells))

pub returns : goal.returns
returns c = λ tells.
    let items = c.args.items.now.items in
    subst (Tells c.loop-place.self)
    (ap reverse (take_all c.loop-place.place items (omega (arith, c.loop-place-test.false, c.len-place-end.ensures)))) (c.loop-place.invariant tells)

use Rattle.std.proofs.Common.{◌≡◌, Bool, true, ◌&&◌, None, Some, option_copied, slice_get, refl, sym, ap, subst, ◌∙◌}
use Rattle.std.specs.Prelude.{◌↔◌}
use Rattle.acc_message.proofs.Joined.{lent}
use Rattle.acc_schedule.specs.Content.{Content}
use Rattle.acc_left.specs.Rules.{IsMessageOf}
use Rattle.acc_left.specs.Told.{comes_of, number_begun}
use Rattle.acc_left.proofs.MessageFacts.{message_not_begun, message_not_planned, message_tested}
use Rattle.acc_left.proofs.stores.is_message_of.Goals as goal

pub returns-in_default : goal.returns-in_default
returns-in_default c = λ images tells.
    let begun = sym (c.begun.ensures ∙ ap (number_begun c.args.drawn.now.drawn.draws) c.id.ensures) ∙ c.in_default.is in
    message_not_begun c.args.plan.now c.args.drawn.now.drawn.draws images tells c.args.own c.args.m.now begun

pub returns-in_default-get : goal.returns-in_default-get
returns-in_default-get c = λ images tells.
    let begun = sym (c.begun.ensures ∙ ap (number_begun c.args.drawn.now.drawn.draws) c.id.ensures) ∙ c.in-Some.is in
    let bodies = c.as_slice.ensures ∙ ap (λ (p : Content). p.bodies) c.plan.view_is in
    let got : slice_get c.args.plan.now.bodies c.in-Some.txn ≡ None =
    ap (λ l. slice_get l c.in-Some.txn) (sym bodies)
    ∙ sym (lent c.as_slice.result.now c.in-Some.txn _ c.get.result c.get.ensures.lookup.1 c.get.ensures.lookup.3) ∙ ap option_copied c.in_default-get.is in
    message_not_planned c.args.plan.now c.args.drawn.now.drawn.draws images tells c.args.own c.args.m.now c.in-Some.txn begun got

pub returns-then-brings : goal.returns-then-brings
returns-then-brings c = λ images tells.
    let begun = sym (c.begun.ensures ∙ ap (number_begun c.args.drawn.now.drawn.draws) c.id.ensures) ∙ c.in-Some.is in
    let bodies = c.as_slice.ensures ∙ ap (λ (p : Content). p.bodies) c.plan.view_is in
    let got : slice_get c.args.plan.now.bodies c.in-Some.txn ≡ Some c.in-Some-get.body.now =
    ap (λ l. slice_get l c.in-Some.txn) (sym bodies)
    ∙ sym (lent c.as_slice.result.now c.in-Some.txn _ c.get.result c.get.ensures.lookup.1 c.get.ensures.lookup.3) ∙ ap option_copied c.in-Some-get.is in
    subst (λ (b : Bool). (b ≡ true) ↔ IsMessageOf c.args.plan.now images c.args.own c.args.m.now) (ap (λ (b : Bool). b && c.comes.result) c.if-brings.true)
    (message_tested c.args.plan.now c.args.drawn.now.drawn.draws images tells c.args.own c.args.m.now c.in-Some.txn c.in-Some-get.body.now c.brings.result c.comes.result
    begun got c.brings.ensures c.comes.ensures)

pub returns-else-brings : goal.returns-else-brings
returns-else-brings c = λ images tells.
    let begun = sym (c.begun.ensures ∙ ap (number_begun c.args.drawn.now.drawn.draws) c.id.ensures) ∙ c.in-Some.is in
    let bodies = c.as_slice.ensures ∙ ap (λ (p : Content). p.bodies) c.plan.view_is in
    let got : slice_get c.args.plan.now.bodies c.in-Some.txn ≡ Some c.in-Some-get.body.now =
    ap (λ l. slice_get l c.in-Some.txn) (sym bodies)
    ∙ sym (lent c.as_slice.result.now c.in-Some.txn _ c.get.result c.get.ensures.lookup.1 c.get.ensures.lookup.3) ∙ ap option_copied c.in-Some-get.is in
    let rest = comes_of c.args.plan.now c.args.drawn.now.drawn.draws c.args.own c.args.m.now c.in-Some.txn c.in-Some-get.body.now in
    subst (λ (b : Bool). (b ≡ true) ↔ IsMessageOf c.args.plan.now images c.args.own c.args.m.now) (ap (λ (b : Bool). b && rest) c.if-brings.false ∙ sym c.if-brings.false)
    (message_tested c.args.plan.now c.args.drawn.now.drawn.draws images tells c.args.own c.args.m.now c.in-Some.txn c.in-Some-get.body.now c.brings.result rest
    begun got c.brings.ensures refl)

-- One item more, in the situation of those before it.
use Rattle.std.proofs.Common.{◌<◌, ◌^◌, List, [], take, All, refl, sym, ap, ◌∙◌, subst, arith}
use Rattle.std.proofs.lemmas.List.{take_all}
use Rattle.acc_message.specs.declared.message.Message.{Message}
use Rattle.acc_message.specs.declared.item.Item.{Item}
use Rattle.acc_message.specs.Shown.{with_sent}
use Rattle.acc_message_code.specs.Short.{IsShortMessage}
use Rattle.acc_message_code.specs.Weight.{weight_of_all}
use Rattle.acc_history.specs.Begun.{begun_in}
use Rattle.acc_history.specs.Stands.{IsNoted}
use Rattle.acc_history.proofs.Behind.{holds_behind}
use Rattle.acc_history.proofs.Over.{shown_whole, parted_at, taken_next, length-taken_to}
use Rattle.acc_history.proofs.history.History.over.Goals as goal

pub loop-place-init : goal.loop-place-init
loop-place-init c = record {
  holds = holds_behind [] (λ a. refl) [] _ refl (c.ask_ahead.ensures ∙ c.in_ok-waiting.ensures);
  begun = λ txn. ap (λ ids. begun_in ids txn) c.new-begun.ensures.items;
  weighs = refl;
}

pub note_item-requires-clause-short : goal.note_item-requires-clause-short
note_item-requires-clause-short c =
    let item = with_sent c.shown-shown.result c.shown-shown.ensures.0 in
    let at = c.shown-shown.ensures.1 in
    let follows = c.requires (take c.loop-place.place c.args.items.items) item _ (parted_at c.args.items.items c.loop-place.place item at) in
    subst (λ (l : List Message). All IsShortMessage l) (sym (c.sent-messages.ensures item at)) follows.short

pub note_item-requires-clause-fits : goal.note_item-requires-clause-fits
note_item-requires-clause-fits c =
    let item = with_sent c.shown-shown.result c.shown-shown.ensures.0 in
    let at = c.shown-shown.ensures.1 in
    let follows = c.requires (take c.loop-place.place c.args.items.items) item _ (parted_at c.args.items.items c.loop-place.place item at) in
    subst (λ (l : List Message). weight_of_all l < 2 ^ 64) (sym (c.sent-messages.ensures item at)) follows.fits

pub loop-place-preserved : goal.loop-place-preserved
loop-place-preserved c =
    let items = c.args.items.items in
    let place = c.loop-place.place in
    let item = with_sent c.shown-shown.result c.shown-shown.ensures.0 in
    let at = c.shown-shown.ensures.1 in
    let sent = c.sent-messages.ensures item at in
    let follows = c.requires (take place items) item _ (parted_at items place item at) in
    subst (λ (l : List Item). IsNoted l c.note_item.new.waiting c.note_item.new.begun.items c.in_ok-weight.weight) (taken_next items place item at)
    (c.in_ok-weight.ensures (take place items) item (length-taken_to items place (omega (arith, c.loop-place-test.true, c.len-place-end.ensures)))
    (ap (λ out. with_sent c.shown-shown.result out) sent ∙ shown_whole c.shown-shown.result c.shown-shown.ensures.0) sent follows.takes c.loop-place.invariant)

pub returns-clause-stands : goal.returns-clause-stands
returns-clause-stands c =
    let all = take_all c.loop-place.place c.args.items.items (omega (arith, c.loop-place-test.false, c.len-place-end.ensures)) in
    let noted = subst (λ (l : List Item). IsNoted l c.loop-place.waiting c.loop-place.begun.items c.loop-place.weight) all c.loop-place.invariant in
    record { holds = noted.holds; begun = noted.begun }

pub returns-clause-weighed : goal.returns-clause-weighed
returns-clause-weighed c =
    let all = take_all c.loop-place.place c.args.items.items (omega (arith, c.loop-place-test.false, c.len-place-end.ensures)) in
    let noted = subst (λ (l : List Item). IsNoted l c.loop-place.waiting c.loop-place.begun.items c.loop-place.weight) all c.loop-place.invariant in
    noted.weighs

-- After the shared items stand those of the heads.
use Rattle.std.proofs.Common.{◌≡◌, ◌-◌, ◌<◌, ◌≤◌, length, sym, ap, ap₂, ◌∙◌, subst, arith}
use Rattle.std.specs.Arc.{arc_value}
use Rattle.std.specs.List.{slice_get}
use Rattle.acc_message.specs.Growing.{Growing}
use Rattle.acc_message.specs.Joined.{joined}
use Rattle.acc_message.proofs.Joined.{behind_shared, head_below}
use Rattle.acc_message.proofs.growing_items.GrowingItems.sent.Goals as goal

pub sent_by_head-requires-clause-place : goal.sent_by_head-requires-clause-place
sent_by_head-requires-clause-place c =
    let inside = c.self.inside in
    let high : length inside.shared.items ≤ c.args.place = omega (arith, c.if-place-len.false, c.len.ensures, inside.shared.ok.0) in
    let low = head_below arc_value inside.shared.items inside.heads.items inside.notes.items inside.messages.items c.args.place high (subst (λ (l : Growing). c.args.place < length l.items) (sym c.self.view_is) c.requires) in
    omega (arith, low, c.len-2.ensures, inside.shared.ok.0, ap length c.as_slice.ensures.value)

pub returns : goal.returns
returns c = λ item there.
    let inside = c.self.inside in
    let heads = inside.heads.items in
    let notes = inside.notes.items in
    let messages = inside.messages.items in
    let place = c.args.place - length inside.shared.items in
    let here : c.args.place - c.len-2.result ≡ place = omega (arith, c.len-2.ensures, inside.shared.ok.0) in
    let high : length inside.shared.items ≤ c.args.place = omega (arith, c.if-place-len.false, c.len.ensures, inside.shared.ok.0) in
    c.sent_by_head.ensures notes item
    (ap₂ slice_get (ap₂ (λ hs ms. joined 0 0 hs notes ms) c.as_slice.ensures.value c.as_slice-2.ensures.value) here
    ∙ sym (behind_shared arc_value inside.shared.items heads notes messages c.args.place high)
    ∙ ap (λ (l : Growing). slice_get l.items c.args.place) c.self.view_is
    ∙ there)

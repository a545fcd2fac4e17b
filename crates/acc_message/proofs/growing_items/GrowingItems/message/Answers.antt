-- After the shared items stand those of the heads.
use Rattle.std.proofs.Common.{◌≡◌, ◌-◌, ◌≤◌, length, sym, ap, ap₂, ◌∙◌, arith}
use Rattle.std.specs.Arc.{arc_value}
use Rattle.std.specs.List.{slice_get}
use Rattle.acc_message.specs.Growing.{Growing, message_in}
use Rattle.acc_message.specs.Joined.{joined}
use Rattle.acc_message.proofs.Joined.{behind_shared}
use Rattle.acc_message.proofs.growing_items.GrowingItems.message.Goals as goal

pub returns : goal.returns
returns c =
    let inside = c.self.inside in
    let heads = inside.heads.items in
    let notes = inside.notes.items in
    let messages = inside.messages.items in
    let place = c.args.place - length inside.shared.items in
    let here : c.args.place - c.len-2.result ≡ place = omega (arith, c.len-2.ensures, inside.shared.ok.0) in
    let high : length inside.shared.items ≤ c.args.place = omega (arith, c.if-place-len.false, c.len.ensures, inside.shared.ok.0) in
    c.message_at.ensures notes
    ∙ ap (λ l. message_in l c.args.index) (ap₂ slice_get (ap₂ (λ hs ms. joined 0 0 hs notes ms) c.as_slice.ensures.value c.as_slice-2.ensures.value) here
    ∙ sym (behind_shared arc_value inside.shared.items heads notes messages c.args.place high)
    ∙ ap (λ (l : Growing). slice_get l.items c.args.place) c.self.view_is)

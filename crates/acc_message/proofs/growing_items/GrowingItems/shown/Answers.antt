-- After the shared items stand those of the heads.
use Rattle.std.proofs.Common.{◌≡◌, ◌-◌, ◌<◌, ◌≤◌, length, sym, ap, ap₂, ◌∙◌, subst, arith}
use Rattle.std.specs.Arc.{arc_value}
use Rattle.std.specs.List.{slice_get}
use Rattle.acc_message.specs.Growing.{Growing}
use Rattle.acc_message.specs.Joined.{joined}
use Rattle.acc_message.proofs.Joined.{behind_shared, head_below}
use Rattle.acc_message.proofs.growing_items.GrowingItems.shown.Goals as goal

pub shown_at-requires-clause-place : goal.shown_at-requires-clause-place
shown_at-requires-clause-place c =
    let inside = c.self.inside in
    let high : length inside.shared.items ≤ c.args.place = omega (arith, c.if-place-len.false, c.len.ensures, inside.shared.ok.0) in
    let low = head_below arc_value inside.shared.items inside.heads.items inside.notes.items inside.messages.items c.args.place high (subst (λ (l : Growing). c.args.place < length l.items) (sym c.self.view_is) c.requires) in
    omega (arith, low, c.len-2.ensures, inside.shared.ok.0, ap length c.as_slice.ensures.value)

pub returns : goal.returns
returns c =
    let inside = c.self.inside in
    let heads = inside.heads.items in
    let notes = inside.notes.items in
    let messages = inside.messages.items in
    let place = c.args.place - length inside.shared.items in
    let here : c.args.place - c.len-2.result ≡ place = omega (arith, c.len-2.ensures, inside.shared.ok.0) in
    let high : length inside.shared.items ≤ c.args.place = omega (arith, c.if-place-len.false, c.len.ensures, inside.shared.ok.0) in
    let shown = c.shown_at.ensures messages in (
      shown.0,
      ap (λ (l : Growing). slice_get l.items c.args.place) (sym c.self.view_is)
          ∙ behind_shared arc_value inside.shared.items heads notes messages c.args.place high
          ∙ sym (ap₂ slice_get (ap₂ (λ hs ns. joined 0 0 hs ns messages) c.as_slice.ensures.value c.as_slice-2.ensures.value) here)
          ∙ shown.1,
    )

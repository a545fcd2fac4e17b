-- The shared items and the heads are all items.
use Rattle.std.proofs.Common.{length, map, ap, arith, length-append}
use Rattle.std.specs.Arc.{arc_value}
use Rattle.std.proofs.lemmas.List.{length-map}
use Rattle.acc_message.specs.Growing.{Growing}
use Rattle.acc_message.specs.Joined.{joined}
use Rattle.acc_message.proofs.Joined.{length-joined}
use Rattle.acc_message.proofs.growing_items.GrowingItems.len.Goals as goal

pub returns : goal.returns
returns c =
    let inside = c.self.inside in
    let items = ap (λ (l : Growing). length l.items) c.self.view_is in
    let all = length-append (map arc_value inside.shared.items) (joined 0 0 inside.heads.items inside.notes.items inside.messages.items) in
    omega (arith, items, all, length-map inside.shared.items arc_value, length-joined inside.heads.items 0 0 inside.notes.items inside.messages.items, c.len.ensures, c.len-2.ensures, inside.shared.ok.0, inside.heads.ok.0)

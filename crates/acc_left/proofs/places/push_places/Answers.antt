use Rattle.std.proofs.Common.{refl, sym, ap, ◌∙◌, option_copied}
use Rattle.acc_left.proofs.PlaceFacts.{placed_more}
use Rattle.acc_left.proofs.places.push_places.Goals as goal

pub loop-index-preserved : goal.loop-index-preserved
loop-index-preserved c =
    placed_more c.args.items.now c.args.item c.args.places.now.items c.loop-index.places.items c.push.new.self.items c.loop-index.index
    (record { item = c.args.item; index = c.loop-index.index }) c.in-Some.field-0.now c.loop-index.invariant (sym c.message.ensures ∙ ap option_copied c.in-Some.is) refl refl
    c.in_ok-push-in-Some.ensures.items

use Rattle.std.proofs.Common.{sym, ◌∙◌, ap, option_copied, slice_get}
use Rattle.acc_message.proofs.Joined.{lent}
use Rattle.acc_left.proofs.PlaceFacts.{placed_there}
use Rattle.acc_left.proofs.places.Places.message.Goals as goal

pub returns : goal.returns
returns c = λ entered tells.
    c.message.ensures
    ∙ placed_there c.args.self.now c.args.items.now entered c.args.number c.in_ok-place.place.now tells
    (rw (← c.self.view_is)
    (ap (λ l. slice_get l c.args.number) (sym c.as_slice.ensures.value)
    ∙ sym (lent c.as_slice.result.now c.args.number _ c.get.result c.get.ensures.lookup.1 c.get.ensures.lookup.3) ∙ ap option_copied c.in_ok-place.was))

use Rattle.std.proofs.Common.{refl}
use Rattle.acc_message_index.proofs.OpenOnes.{turned_kept}
use Rattle.acc_message_index.proofs.waiting.Waiting.set_down.Goals as goal

pub invariant_of-self : goal.invariant_of-self
invariant_of-self c =
    let r = c.refresh.ensures in
    turned_kept c.self.invariant c.args.actor c.args.is_down _ _ _ _ _ _ r.same refl c.as_slice.ensures.value c.as_slice-2.ensures.value r.tree r.head r.others c.next_waiting-self-inside.ensures.next

use Rattle.std.proofs.Common.{subst}
use Rattle.acc_actors.specs.Slots.{SlotStands}
use Rattle.acc_actors.specs.declared.slot.Slot.{Slot}
use Rattle.acc_desk.proofs.turning.is_store.Goals as goal

pub returns-in-Store-clause-store : goal.returns-in-Store-clause-store
returns-in-Store-clause-store g c = λ is plan s a stands. (subst (λ (slot : Slot _). SlotStands g.D.Disk plan s a slot) c.in-Store.is stands).kind

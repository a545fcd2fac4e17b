use Rattle.acc_heal_laws.proofs.HealedNotes.{healed_items_tell as items_tell}
use Rattle.acc_heal_laws.proofs.laws.healed_items_tell.Goals as goal

pub returns : goal.returns
returns c = items_tell

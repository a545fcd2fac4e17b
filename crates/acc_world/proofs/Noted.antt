-- The history with one entry more.
use Rattle.std.proofs.Common.{◌≡◌, List, ◌∷◌, sym, subst}
use Rattle.acc_message.specs.declared.entry.Entry.{Entry}
use Rattle.acc_message.specs.declared.entry.Event.{Event}
use Rattle.acc_message.specs.declared.item.Item.{Item}
use Rattle.acc_message.specs.declared.item.Item.TheVariants.{Step}
use Rattle.acc_schedule_runs.specs.Situations.{Situation}
use Rattle.acc_schedule_runs.specs.Moves.{with_item}
use Rattle.acc_history.specs.declared.history.History.{History}
use Rattle.acc_history.specs.Stands.{StandsFor, TakesSent, EventTakesSent}
use Rattle.acc_world.specs.Held.{past_of}

pub noted : (old new : History) (entry : Entry) (item : Item) (event : Event) → item ≡ Step entry → entry.event ≡ event
    → ((s : Situation) → StandsFor old s → TakesSent s item → StandsFor new (with_item item s))
    → (items : List Item) → StandsFor old (past_of items) → EventTakesSent (past_of items) event → StandsFor new (past_of (Step entry ∷ items))
noted old new entry item event same is added items stands takes =
    subst (λ (i : Item). StandsFor new (past_of (i ∷ items))) same
    (added (past_of items) stands (subst (TakesSent (past_of items)) (sym same) (subst (EventTakesSent (past_of items)) (sym is) takes)))

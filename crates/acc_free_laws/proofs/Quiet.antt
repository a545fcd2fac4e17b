-- Where there is no down, nobody is down.
use Rattle.std.proofs.Common.{◌≡◌, false, not, ◌&&◌, ◌||◌, List, [], ◌∷◌, refl, sym, ap}
use Rattle.std.specs.List.{list_all}
use Rattle.std.proofs.lemmas.Bool.{true≢false, and_parts}
use Rattle.acc_stamp.specs.declared.actors.Actor.{Actor}
use Rattle.acc_message.specs.declared.item.Item.{Item}
use Rattle.acc_message.specs.declared.item.Item.TheVariants.{Step as StepItem, Skipped, Down}
use Rattle.acc_message.specs.Items.{same_actor}
use Rattle.acc_message.specs.Run.{is_down}
use Rattle.acc_safety.specs.Calm.{is_calm_event}
use Rattle.acc_schedule_runs.specs.Laws.{NobodyIsDown}
use Rattle.acc_free_laws.specs.Served.{is_quiet, IsQuiet}

pub nobody_down : (items : List Item) (a : Actor) → NobodyIsDown items → is_down a items ≡ false
nobody_down [] a up = refl
nobody_down (StepItem e ∷ earlier) a up = ap (λ b. b && (not (same_actor e.actor a) || e.lost)) (nobody_down earlier a up)
nobody_down (Skipped step cause ∷ earlier) a up = nobody_down earlier a up
nobody_down (Down actor ∷ earlier) a up = absurd (true≢false (sym up))

pub no_downs : (items : List Item) → IsQuiet items → NobodyIsDown items
no_downs [] quiet = refl
no_downs (StepItem e ∷ earlier) quiet = no_downs earlier (and_parts (is_calm_event e.event) (list_all is_quiet earlier) quiet).1
no_downs (Skipped step cause ∷ earlier) quiet = no_downs earlier quiet
no_downs (Down actor ∷ earlier) quiet = absurd (true≢false (sym quiet))

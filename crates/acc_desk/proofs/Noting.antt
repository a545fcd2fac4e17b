-- What an actor enters has two notes at most.
use Rattle.std.proofs.Common.{◌≤◌, Bool, List, [], ◌∷◌, length, map, Option, None, Some, sym, subst, arith}
use Rattle.std.specs.Prelude.{All}
use Rattle.std.proofs.lemmas.List.Elements.{All-nil, All-cons}
use Rattle.acc_stamp.specs.declared.actors.Actor.{Actor}
use Rattle.acc_message.specs.declared.entry.Emitted.{Emitted}
use Rattle.acc_message.specs.declared.entry.Event.{Event}
use Rattle.acc_message.specs.declared.item.Item.{Item}
use Rattle.acc_message.specs.Items.{noted_in}
use Rattle.acc_message.specs.NodeRules.{Act}
use Rattle.acc_message.specs.Run.{Cluster, act_of, deeds_of, is_node}
use Rattle.acc_run_laws.proofs.FewNotes.{emitted_few}
use Rattle.acc_run_laws.specs.Asks.{emits_if}
use Rattle.acc_payloads.specs.declared.stops.Unsent.{Unsent}
use Rattle.acc_schedule_runs.specs.Situations.{Situation, whole}
use Rattle.acc_schedule_runs.specs.Moves.{event_in, entered}
use Rattle.acc_actors.specs.Asked.{IsEmitted, AreSteps}
use Rattle.acc_desk.specs.Desks.{item_of}
use Rattle.acc_desk.specs.Groups.{item_of_unsent}

emits_few : (cluster : Cluster) (items : List Item) (a : Actor) (asked : Option Act) → length (emits_if cluster items a asked).notes ≤ 2
emits_few cluster items a None = omega arith
emits_few cluster items a (Some act) = emitted_few (is_node a) cluster a (deeds_of cluster a items) act

pub noted_few : (cluster : Cluster) (s : Situation) (a : Actor) (event : Event) (given : Option Emitted) → IsEmitted cluster s a event given → length (noted_in (item_of a event given)) ≤ 2
noted_few cluster s a event None is = omega arith
noted_few cluster s a event (Some emitted) is = subst (λ (e : Emitted). length e.notes ≤ 2) (sym is) (emits_few cluster (whole s) a (act_of cluster (whole s) (event_in s event)))

-- and each of a group
pub all_noted : (cluster : Cluster) (s : Situation) (a : Actor) (events : List Event) (lost : Bool) (unsent : List Unsent) → AreSteps cluster s a events lost unsent
    → All (λ (item : Item). length (noted_in item) ≤ 2) (map (item_of_unsent a) unsent)
all_noted cluster s a [] lost [] steps = All-nil (λ (item : Item). length (noted_in item) ≤ 2)
all_noted cluster s a [] lost (one ∷ unsent) steps = absurd steps
all_noted cluster s a (event ∷ events) lost [] steps = absurd steps
all_noted cluster s a (event ∷ events) lost (one ∷ unsent) steps =
    All-cons (λ (item : Item). length (noted_in item) ≤ 2) (item_of_unsent a one) (map (item_of_unsent a) unsent)
    (subst (λ (e : Emitted). length e.notes ≤ 2) (sym steps.1) (emits_few cluster (whole s) a (act_of cluster (whole s) (event_in s event))))
    (all_noted cluster (entered cluster s a event lost) a events lost unsent steps.2)

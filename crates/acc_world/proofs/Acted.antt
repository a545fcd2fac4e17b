-- What an actor did, by the event that it was given.
use Rattle.std.proofs.Common.{◌≡◌, ℕ, List, ◌∷◌, Result, IfOk, IfErr, sym, subst}
use Rattle.acc_stamp.specs.declared.actors.Actor.{Actor}
use Rattle.acc_message.specs.declared.entry.Emitted.{Emitted}
use Rattle.acc_message.specs.declared.entry.Event.{Event}
use Rattle.acc_message.specs.declared.entry.Event.TheVariants.{Restart}
use Rattle.acc_message.specs.declared.item.Item.{Item}
use Rattle.acc_message.specs.NodeRules.{Act, Deed}
use Rattle.acc_message.specs.Coordinator.{silence}
use Rattle.acc_message.specs.Run.{Cluster}
use Rattle.acc_history.specs.declared.history.History.{History}
use Rattle.acc_node.specs.declared.error.NodeError.{NodeError}
use Rattle.acc_world.specs.declared.setup.Setup.{Setup}
use Rattle.acc_world.specs.declared.held.Held.{Held}
use Rattle.acc_world.specs.Held.{moment, cluster_of, HeldStands, IsAsked, HasTaken, IsRefused, restarted}
use Rattle.acc_world.proofs.Acting.{restarts}

module _ (setup : Setup) (history : History) (a : Actor) (old : Held) where
  abbrev Took : Held → Event → Emitted → Type 0
  Took new event emitted =
      (items earlier : List Item) (act : Act) → IsAsked setup history a event old (moment items earlier) act → HasTaken (cluster_of setup) earlier a event act emitted new

  abbrev Refused : Event → NodeError → Type 0
  Refused event error =
      (items earlier : List Item) (act : Act) → IsAsked setup history a event old (moment items earlier) act → IsRefused (cluster_of setup) earlier event error

  pub acted : (new : Held) (r : Result Emitted NodeError) (event is : Event) → event ≡ is → IfOk r (Took new is) → IfOk r (Took new event)
  acted new r event is e h = subst (λ x. IfOk r (Took new x)) (sym e) h

  pub refuses : (r : Result Emitted NodeError) (event is : Event) → event ≡ is → IfErr r (Refused is) → IfErr r (Refused event)
  refuses r event is e h = subst (λ x. IfErr r (Refused x)) (sym e) h

  pub comes_back : (new : Held) (emitted : Emitted) (event : Event) (kept : ℕ) → event ≡ Restart kept
      → ((cluster : Cluster) (a : Actor) (deeds : List Deed) → HeldStands cluster a deeds old → HeldStands cluster a (restarted ∷ deeds) new)
      → emitted ≡ silence → Took new event emitted
  comes_back new emitted event kept e comes none =
      subst (λ x. Took new x emitted) (sym e) (λ items earlier act s. restarts setup history a kept old new items earlier act s comes emitted none)

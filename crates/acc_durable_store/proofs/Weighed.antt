-- What a store that is up would send is what its durable store would send.
use Rattle.std.proofs.Common.{◌≡◌, ◌<◌, ◌^◌, ℕ, false, List, Result, Ok, Err, sym, subst}
use Rattle.std.specs.Prelude.{IfOk, All}
use Rattle.acc_topology.specs.Layout.{Layout}
use Rattle.acc_ports.specs.declared.disk.Disk.{Ghosts}
use Rattle.acc_message.specs.declared.message.Message.{Message}
use Rattle.acc_message.specs.StoreRules.{store_answer, replay}
use Rattle.acc_message_code.specs.Short.{IsShortMessage}
use Rattle.acc_message_code.specs.Weight.{weight_of_all}
use Rattle.acc_store.specs.Weighing as store_weighing
use Rattle.acc_durable_store.specs.declared.name.StoreName.{StoreName}
use Rattle.acc_durable_store.specs.declared.store.DurableStore.{DurableStore}
use Rattle.acc_durable_store.specs.Store as durable_store
use Rattle.acc_durable_store.specs.declared.actor.StoreState.TheVariants.{Open as OpenStore}
use Rattle.acc_durable_store.specs.declared.actor.StoreActor.{StoreActor}
use Rattle.acc_payloads.specs.Stops.{Stop, Past, kept_with}
use Rattle.acc_durable_store.specs.Actor as store_actor
use Rattle.acc_durable_store.specs.Weighing.{StoreMayWeigh}
use Rattle.acc_durable_store.proofs.StoreActors as stores

module _ {D : Type 0} (port : Ghosts D) (layout : Layout) (actor : StoreActor D) (s : DurableStore D) (is : actor.state ≡ OpenStore s) (sound : store_actor.is_down actor ≡ false) where
  store_here : (name : StoreName) (past : Past Message) (staged : List (Stop Message)) → store_actor.IsStaging port layout name past staged actor → store_actor.IsUp layout name past staged s
  store_here name past staged stands = stores.up_in layout name past staged actor.state s is (stands.up sound)

  pub store_can : (m : Message) → StoreMayWeigh port layout actor m → durable_store.CanTake layout s m
  store_can m may = stores.can_take port layout actor s m is sound may.may

  pub store_sends_short : (m : Message) → StoreMayWeigh port layout actor m → store_weighing.SendsShort layout s.store m
  store_sends_short m may =
      let up : store_actor.IsUp layout may.name may.past may.staged s = store_here may.name may.past may.staged may.stands in
      record {
        messages = (kept_with may.staged may.past).acts;
        stands = up.stands.stands;
        short =
            subst (λ (n : StoreName). All IsShortMessage (store_answer layout n.actor (replay layout n.actor (kept_with may.staged may.past).acts) m)) (sym up.name_is) may.short;
        fits =
            subst (λ (n : StoreName). weight_of_all (store_answer layout n.actor (replay layout n.actor (kept_with may.staged may.past).acts) m) < 2 ^ 64) (sym up.name_is) may.fits;
      }

  pub store_weighs : {E : Type 0} (m : Message) (r : Result ℕ E)
      → IfOk r (λ weight. (messages : List Message) → durable_store.StandsFor layout s messages
      → weight ≡ weight_of_all (store_answer layout (durable_store.actor_in s) (replay layout (durable_store.actor_in s) messages) m))
      → IfOk r (λ weight. store_actor.OfEachStaging port layout actor (λ name past staged. weight ≡ weight_of_all (store_actor.emits_next layout name.actor (kept_with staged past) m).out))
  store_weighs m (Ok weight) is_weight = λ name past staged stands.
      let up : store_actor.IsUp layout name past staged s = store_here name past staged stands in
      subst (λ (n : StoreName). weight ≡ weight_of_all (store_answer layout n.actor (replay layout n.actor (kept_with staged past).acts) m)) up.name_is (is_weight (kept_with staged past).acts up.stands)
  store_weighs m (Err e) is_weight = tt

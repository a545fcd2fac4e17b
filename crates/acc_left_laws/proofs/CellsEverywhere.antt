-- Each message of a run has cells with spellings, where each body has: by induction over the items.
use Rattle.std.proofs.Common.{◌≡◌, Bool, true, false, List, [], ◌∷◌, Option, None, Some, refl, subst, ⊎_elim}
use Rattle.std.specs.List.{AllByRecursion, slice_get}
use Rattle.std.specs.Option.{option_map}
use Rattle.acc_stamp.specs.declared.stamps.TxnId.{TxnId}
use Rattle.acc_stamp.specs.declared.actors.Actor.{Actor}
use Rattle.acc_stamp.specs.Actor.{node_of}
use Rattle.acc_txn.specs.declared.parts.BodyParts.{BodyParts}
use Rattle.acc_message.specs.declared.message.Message.{Message}
use Rattle.acc_message.specs.declared.entry.Emitted.{Emitted}
use Rattle.acc_message.specs.declared.entry.Entry.{Entry}
use Rattle.acc_message.specs.declared.entry.Event.{Event}
use Rattle.acc_message.specs.declared.entry.Event.TheVariants.{Begin as BeginEvent, Recover as RecoverEvent, Slow as SlowEvent, Message as MessageEvent, Restart as RestartEvent}
use Rattle.acc_message.specs.declared.item.Item.{Item}
use Rattle.acc_message.specs.declared.item.Item.TheVariants.{Step, Skipped, Down}
use Rattle.acc_message.specs.Items.{sent_in, sent_of, message_at, id_of_txn}
use Rattle.acc_message.specs.Taken.{Taken}
use Rattle.acc_message.specs.NodeRules.{Act, Begins, Recovers, Slows, Takes, Restarts, Deed}
use Rattle.acc_message.specs.Run.{Cluster, clock_start, recovers, act_of, deeds_of, taken_from, taken_of, store_emits, emits_by, is_node, StandsOn, EachStands}
use Rattle.acc_safety.specs.Places.{IsIn, Whole, IsPast}
use Rattle.acc_safety.specs.Histories.{Sending}
use Rattle.acc_safety.proofs.PlaceOrder.{none_is_in}
use Rattle.acc_safety.proofs.Bridge.{sent_is_sending, Sending-past, store_step, node_step}
use Rattle.acc_safety.proofs.StoreSent.{store_sends}
use Rattle.acc_safety.proofs.NodeSent.{node_sends}
use Rattle.acc_actor_laws.proofs.Standing.{not_none}
use Rattle.acc_actor_laws.proofs.OpeningFacts.{some_is}
use Rattle.acc_run_laws.proofs.RunBounds.{each_standing, earlier_is_past, get_each, get_is_in, sending_cases}
use Rattle.acc_txn.specs.Short.{IsNumberedBody}
use Rattle.acc_left_laws.proofs.CellContents.{HasFittingCells, TakesFitting}
use Rattle.acc_left_laws.proofs.CellStores.{TookFitting, store_fits}
use Rattle.acc_left_laws.proofs.CellNodes.{DidFitting, node_fits}

abbrev SendCells : List Item → Type 0
SendCells items = (m : Message) → Sending items m → HasFittingCells m

module _ (cluster : Cluster) (bodies : AllByRecursion IsNumberedBody cluster.bodies) (earlier : List Item) (each : EachStands cluster earlier) (fit : SendCells earlier) where
  act_fits : (past : List Item) → IsPast past earlier → (event : Event) (act : Act) → act_of cluster past event ≡ Some act → TakesFitting act
  act_fits past within (BeginEvent txn) act is = by (slice_get cluster.bodies txn) refl is
    where
      by : (o : Option BodyParts) → slice_get cluster.bodies txn ≡ o → option_map (Begins txn) o ≡ Some act → TakesFitting act
      by None found e = absurd (not_none act e)
      by (Some body) found e = subst TakesFitting (some_is (Begins txn body) act e) (get_each IsNumberedBody cluster.bodies txn body bodies found)
  act_fits past within (RecoverEvent txn) act is = by (id_of_txn past txn) (slice_get cluster.bodies txn) refl is
    where
      by : (x : Option TxnId) (o : Option BodyParts) → slice_get cluster.bodies txn ≡ o → recovers x o ≡ Some act → TakesFitting act
      by None o found e = absurd (not_none act e)
      by (Some x) None found e = absurd (not_none act e)
      by (Some x) (Some body) found e = subst TakesFitting (some_is (Recovers x body) act e) (get_each IsNumberedBody cluster.bodies txn body bodies found)
  act_fits past within (SlowEvent txn) act is = by (id_of_txn past txn) is
    where
      by : (x : Option TxnId) → option_map Slows x ≡ Some act → TakesFitting act
      by None e = absurd (not_none act e)
      by (Some x) e = subst TakesFitting (some_is (Slows x) act e) tt
  act_fits past within (MessageEvent number) act is = by (message_at past number) refl is
    where
      by : (o : Option Message) → message_at past number ≡ o → option_map Takes o ≡ Some act → TakesFitting act
      by None found e = absurd (not_none act e)
      by (Some m) found e =
          subst TakesFitting (some_is (Takes m) act e)
          (fit m (Sending-past past earlier m within (sent_is_sending past m (get_is_in (sent_of past) number m found))))
  act_fits past within (RestartEvent kept) act is = subst TakesFitting (some_is Restarts act is) tt

  did_fits : (a : Actor) → DidFitting (deeds_of cluster a earlier)
  did_fits a =
      each_standing (λ (deed : Deed). TakesFitting deed.act) (deeds_of cluster a earlier)
      (λ deed past at.
      let n = node_step cluster a earlier each deed past at in
      act_fits n.earlier (earlier_is_past (Step n.entry) n.earlier earlier n.at) n.entry.event deed.act n.act_is)

  took_fits : (a : Actor) → TookFitting (taken_of cluster a earlier)
  took_fits a =
      each_standing (λ (step : Taken). HasFittingCells step.message) (taken_of cluster a earlier)
      (λ step past at.
      let s = store_step cluster a earlier each step past at in
      fit step.message (Sending-past s.earlier earlier step.message (earlier_is_past (Step s.entry) s.earlier earlier s.at) s.sending))

  module _ (e : Entry) (s : StandsOn cluster earlier e) where
    abbrev past : List Deed
    past = deeds_of cluster e.actor earlier

    act_here : TakesFitting s.act
    act_here = act_fits earlier (Whole earlier) e.event s.act s.act_is

    by_store : (m : Message) (act : Act) → TakesFitting act → IsIn m (store_emits cluster.layout e.actor (taken_from past) act).out → HasFittingCells m
    by_store m (Takes taken) h there =
        store_fits cluster.layout e.actor (taken_from past) taken m (took_fits e.actor) h (store_sends cluster.layout e.actor (taken_from past) taken m there)
    by_store m (Begins txn body) h there = absurd (none_is_in m there)
    by_store m (Recovers x body) h there = absurd (none_is_in m there)
    by_store m (Slows x) h there = absurd (none_is_in m there)
    by_store m Restarts h there = absurd (none_is_in m there)

    by_kind : (m : Message) (b : Bool) → IsIn m (emits_by b cluster e.actor past s.act).out → HasFittingCells m
    by_kind m true there =
        node_fits cluster.layout (node_of e.actor) (clock_start cluster.starts (node_of e.actor)) past (did_fits e.actor) s.act m act_here e.emitted
        (node_sends cluster.layout (node_of e.actor) (clock_start cluster.starts (node_of e.actor)) past s.act m there)
    by_kind m false there = by_store m s.act act_here there

    pub step_fits : SendCells (Step e ∷ earlier)
    step_fits m sending =
        ⊎_elim (λ here. by_kind m (is_node e.actor) (subst (λ (k : Emitted). IsIn m k.out) s.emitted here)) (fit m) (sending_cases (Step e) earlier m sending)

idle_fits : (item : Item) (earlier : List Item) → sent_in item ≡ [] → SendCells earlier → SendCells (item ∷ earlier)
idle_fits item earlier silent fit m sending =
    ⊎_elim (λ here. absurd (none_is_in m (subst (IsIn m) silent here))) (fit m) (sending_cases item earlier m sending)

no_sending : (m : Message) → Sending [] m → ⊥
no_sending m s = elim s.at [ ]

pub all_fit : (cluster : Cluster) → AllByRecursion IsNumberedBody cluster.bodies → (items : List Item) → EachStands cluster items → SendCells items
all_fit cluster bodies [] h = λ m sending. absurd (no_sending m sending)
all_fit cluster bodies (Step e ∷ earlier) h = step_fits cluster bodies earlier h.1 (all_fit cluster bodies earlier h.1) e h.0
all_fit cluster bodies (Skipped step cause ∷ earlier) h = idle_fits (Skipped step cause) earlier refl (all_fit cluster bodies earlier h.1)
all_fit cluster bodies (Down actor ∷ earlier) h = idle_fits (Down actor) earlier refl (all_fit cluster bodies earlier h.1)

-- No message of a run has a text, where no body has one: by induction over the items.
use Rattle.std.proofs.Common.{◌≡◌, ℕ, Bool, true, false, List, [], ◌∷◌, Option, None, Some, refl, subst, ⊎_elim}
use Rattle.std.specs.List.{AllByRecursion, slice_get}
use Rattle.std.specs.Option.{option_map}
use Rattle.acc_stamp.specs.declared.stamps.TxnId.{TxnId}
use Rattle.acc_stamp.specs.declared.actors.Actor.{Actor}
use Rattle.acc_stamp.specs.Actor.{node_of}
use Rattle.acc_txn.specs.declared.parts.BodyParts.{BodyParts}
use Rattle.acc_message.specs.declared.message.Message.{Message}
use Rattle.acc_message.specs.declared.entry.Emitted.{Emitted}
use Rattle.acc_message.specs.declared.entry.Entry.{Entry}
use Rattle.acc_message.specs.declared.entry.Event.{Event}
use Rattle.acc_message.specs.declared.entry.Event.TheVariants.{Begin as BeginEvent, Recover as RecoverEvent, Slow as SlowEvent, Message as MessageEvent, Restart as RestartEvent}
use Rattle.acc_message.specs.declared.item.Item.{Item}
use Rattle.acc_message.specs.declared.item.Item.TheVariants.{Step, Skipped, Down}
use Rattle.acc_message.specs.Items.{sent_in, sent_of, message_at, id_of_txn}
use Rattle.acc_message.specs.Taken.{Taken}
use Rattle.acc_message.specs.NodeRules.{Act, Begins, Recovers, Slows, Takes, Restarts, Deed}
use Rattle.acc_message.specs.Run.{Cluster, clock_start, recovers, act_of, deeds_of, taken_from, taken_of, store_emits, emits_by, is_node, StandsOn, EachStands}
use Rattle.acc_safety.specs.Valid.{IsStanding}
use Rattle.acc_safety.specs.Places.{IsIn, Whole, IsPast}
use Rattle.acc_safety.specs.Histories.{Sending}
use Rattle.acc_safety.proofs.PlaceOrder.{none_is_in}
use Rattle.acc_safety.proofs.Bridge.{sent_is_sending, Sending-past, store_step, node_step}
use Rattle.acc_safety.proofs.StoreSent.{store_sends}
use Rattle.acc_safety.proofs.NodeSent.{node_sends}
use Rattle.acc_actor_laws.proofs.Standing.{not_none}
use Rattle.acc_actor_laws.proofs.OpeningFacts.{some_is}
use Rattle.acc_run_laws.proofs.RunBounds.{each_standing, earlier_is_past, get_each, get_is_in, sending_cases}
use Rattle.acc_payloads.specs.Texts.{has_text}
use Rattle.acc_run_laws.proofs.AloneOutcomes.{IsPlainBody}
use Rattle.acc_run_laws.proofs.Contents.{HasPlainContent, IsPlainAct, has_none}
use Rattle.acc_run_laws.proofs.Stores.{TookPlain, store_plain}
use Rattle.acc_run_laws.proofs.AloneNodes.{DidPlain, node_plain}

abbrev ArePlain : List Item → Type 0
ArePlain items = (m : Message) → Sending items m → HasPlainContent m

module _ (cluster : Cluster) (bodies : AllByRecursion IsPlainBody cluster.bodies) (earlier : List Item) (each : EachStands cluster earlier) (plain : ArePlain earlier) where
  act_plain : (past : List Item) → IsPast past earlier → (event : Event) (act : Act) → act_of cluster past event ≡ Some act → IsPlainAct act
  act_plain past within (BeginEvent txn) act is = by (slice_get cluster.bodies txn) refl is
    where
      by : (o : Option BodyParts) → slice_get cluster.bodies txn ≡ o → option_map (Begins txn) o ≡ Some act → IsPlainAct act
      by None found e = absurd (not_none act e)
      by (Some body) found e = subst IsPlainAct (some_is (Begins txn body) act e) (get_each IsPlainBody cluster.bodies txn body bodies found)
  act_plain past within (RecoverEvent txn) act is = by (id_of_txn past txn) (slice_get cluster.bodies txn) refl is
    where
      by : (x : Option TxnId) (o : Option BodyParts) → slice_get cluster.bodies txn ≡ o → recovers x o ≡ Some act → IsPlainAct act
      by None o found e = absurd (not_none act e)
      by (Some x) None found e = absurd (not_none act e)
      by (Some x) (Some body) found e = subst IsPlainAct (some_is (Recovers x body) act e) (get_each IsPlainBody cluster.bodies txn body bodies found)
  act_plain past within (SlowEvent txn) act is = by (id_of_txn past txn) is
    where
      by : (x : Option TxnId) → option_map Slows x ≡ Some act → IsPlainAct act
      by None e = absurd (not_none act e)
      by (Some x) e = subst IsPlainAct (some_is (Slows x) act e) tt
  act_plain past within (MessageEvent number) act is = by (message_at past number) refl is
    where
      by : (o : Option Message) → message_at past number ≡ o → option_map Takes o ≡ Some act → IsPlainAct act
      by None found e = absurd (not_none act e)
      by (Some m) found e =
          subst IsPlainAct (some_is (Takes m) act e)
          (plain m (Sending-past past earlier m within (sent_is_sending past m (get_is_in (sent_of past) number m found))))
  act_plain past within (RestartEvent kept) act is = subst IsPlainAct (some_is Restarts act is) tt

  did_plain : (a : Actor) → DidPlain (deeds_of cluster a earlier)
  did_plain a =
      each_standing (λ (deed : Deed). IsPlainAct deed.act) (deeds_of cluster a earlier)
      (λ deed past at.
      let n = node_step cluster a earlier each deed past at in
      act_plain n.earlier (earlier_is_past (Step n.entry) n.earlier earlier n.at) n.entry.event deed.act n.act_is)

  took_plain : (a : Actor) → TookPlain (taken_of cluster a earlier)
  took_plain a =
      each_standing (λ (step : Taken). HasPlainContent step.message) (taken_of cluster a earlier)
      (λ step past at.
      let s = store_step cluster a earlier each step past at in
      plain step.message (Sending-past s.earlier earlier step.message (earlier_is_past (Step s.entry) s.earlier earlier s.at) s.sending))

  module _ (e : Entry) (s : StandsOn cluster earlier e) where
    abbrev past : List Deed
    past = deeds_of cluster e.actor earlier

    act_here : IsPlainAct s.act
    act_here = act_plain earlier (Whole earlier) e.event s.act s.act_is

    by_store : (m : Message) (act : Act) → IsPlainAct act → IsIn m (store_emits cluster.layout e.actor (taken_from past) act).out → HasPlainContent m
    by_store m (Takes taken) h there =
        store_plain cluster.layout e.actor (taken_from past) taken m (took_plain e.actor) h (store_sends cluster.layout e.actor (taken_from past) taken m there)
    by_store m (Begins txn body) h there = absurd (none_is_in m there)
    by_store m (Recovers x body) h there = absurd (none_is_in m there)
    by_store m (Slows x) h there = absurd (none_is_in m there)
    by_store m Restarts h there = absurd (none_is_in m there)

    by_kind : (m : Message) (b : Bool) → IsIn m (emits_by b cluster e.actor past s.act).out → HasPlainContent m
    by_kind m true there =
        node_plain cluster.layout (node_of e.actor) (clock_start cluster.starts (node_of e.actor)) past (did_plain e.actor) s.act m act_here e.emitted
        (node_sends cluster.layout (node_of e.actor) (clock_start cluster.starts (node_of e.actor)) past s.act m there)
    by_kind m false there = by_store m s.act act_here there

    pub step_plain : ArePlain (Step e ∷ earlier)
    step_plain m sending =
        ⊎_elim (λ here. by_kind m (is_node e.actor) (subst (λ (k : Emitted). IsIn m k.out) s.emitted here)) (plain m) (sending_cases (Step e) earlier m sending)

idle_plain : (item : Item) (earlier : List Item) → sent_in item ≡ [] → ArePlain earlier → ArePlain (item ∷ earlier)
idle_plain item earlier silent plain m sending =
    ⊎_elim (λ here. absurd (none_is_in m (subst (IsIn m) silent here))) (plain m) (sending_cases item earlier m sending)

no_sending : (m : Message) → Sending [] m → ⊥
no_sending m s = elim s.at [ ]

all_plain : (cluster : Cluster) → AllByRecursion IsPlainBody cluster.bodies → (items : List Item) → EachStands cluster items → ArePlain items
all_plain cluster bodies [] h = λ m sending. absurd (no_sending m sending)
all_plain cluster bodies (Step e ∷ earlier) h = step_plain cluster bodies earlier h.1 (all_plain cluster bodies earlier h.1) e h.0
all_plain cluster bodies (Skipped step cause ∷ earlier) h = idle_plain (Skipped step cause) earlier refl (all_plain cluster bodies earlier h.1)
all_plain cluster bodies (Down actor ∷ earlier) h = idle_plain (Down actor) earlier refl (all_plain cluster bodies earlier h.1)

pub numbers_alone : (cluster : Cluster) (items : List Item) (number : ℕ) (m : Message) → IsStanding cluster items → AllByRecursion IsPlainBody cluster.bodies
    → message_at items number ≡ Some m → has_text m ≡ false
numbers_alone cluster items number m standing bodies found =
    has_none m (all_plain cluster bodies items standing.stands m (sent_is_sending items m (get_is_in (sent_of items) number m found)))

-- While an actor is down nothing takes a step away that a fault stopped, and it stays the same, also after its actor's other stopped steps.
use Rattle.std.proofs.Common.{◌≡◌, ◌≢◌, ℕ, zero, suc, Bool, true, false, not, cond, ◌||◌, List, [], ◌∷◌, ◌++◌, Option, None, Some, refl, sym, ◌∙◌, ap, subst}
use Rattle.std.specs.List.{AllByRecursion, slice_get}
use Rattle.std.specs.Option.{option_map}
use Rattle.std.proofs.lemmas.Bool.{true≢false, or_right, eqb-true}
use Rattle.acc_base.specs.Faults.{or_else}
use Rattle.acc_stamp.specs.declared.stamps.TxnId.{TxnId}
use Rattle.acc_stamp.specs.declared.actors.Actor.{Actor}
use Rattle.acc_stamp.specs.Actor.{actor_of}
use Rattle.acc_stamp.proofs.Rising.{each_weaker}
use Rattle.acc_txn.specs.declared.parts.BodyParts.{BodyParts}
use Rattle.acc_message.specs.declared.message.Message.{Message}
use Rattle.acc_message.specs.declared.note.Note.{Note}
use Rattle.acc_message.specs.declared.entry.Emitted.{Emitted}
use Rattle.acc_message.specs.declared.entry.Entry.{Entry}
use Rattle.acc_message.specs.declared.entry.Event.{Event}
use Rattle.acc_message.specs.declared.entry.Event.TheVariants.{Begin, Recover, Slow, Message as TakesMessage, Restart}
use Rattle.acc_message.specs.declared.item.Item.{Item}
use Rattle.acc_message.specs.declared.item.Item.TheVariants.{Step, Skipped, Down}
use Rattle.acc_message.specs.Items.{same_actor, sent_of, sent_in, message_at, event_begins, begins_txn, is_begun, id_begun, id_of_txn}
use Rattle.acc_message.specs.NodeRules.{Act, Slows, Takes, Deed}
use Rattle.acc_message.specs.Run.{Cluster, act_of, recovers, deeds_of, is_node, emits_by, IsHomeOf, MayStand, StandsOn, Stands, kept_of, is_down}
use Rattle.acc_actor_laws.proofs.Standing.{not_none}
use Rattle.acc_actor_laws.proofs.OpeningFacts.{some_is}
use Rattle.acc_safety.proofs.Bridge.{same_itself}
use Rattle.acc_run_laws.specs.Asks.{emits_if}
use Rattle.acc_run_laws.specs.AskLaws.{IsLostOf}
use Rattle.acc_payloads.specs.Items.{message_payload, payload_by}
use Rattle.acc_schedule_runs.specs.Moves.{is_journalled}
use Rattle.acc_pasts.specs.Entries.{emitted_for, entering, MayTake}
use Rattle.acc_pasts.specs.Stopped.{is_other, CanGoOn, IsSameStep, AreSameSteps}
use Rattle.acc_pasts.proofs.Deeds.{deeds_more, deeds_same, down_own, down_other}
use Rattle.acc_pasts.proofs.Standing.{entry_stands}

apart_is : (b : Bool) → not b ≡ true → b ≡ false
apart_is true h = sym h
apart_is false h = refl

-- ---- what an event takes

recovers_still : (o other : Option TxnId) (body : Option BodyParts) (act : Act) → recovers o body ≡ Some act → recovers (or_else o other) body ≡ Some act
recovers_still None other body act h = absurd (not_none act h)
recovers_still (Some x) other body act h = h

slows_still : {A B : Type 0} (f : A → B) (o other : Option A) (x : B) → option_map f o ≡ Some x → option_map f (or_else o other) ≡ Some x
slows_still f None other x h = absurd (not_none x h)
slows_still f (Some y) other x h = h

get_still : (ms more : List Message) (n : ℕ) (m : Message) → slice_get ms n ≡ Some m → slice_get (ms ++ more) n ≡ Some m
get_still [] more n m h = absurd (not_none m h)
get_still (x ∷ ms) more zero m h = h
get_still (x ∷ ms) more (suc n) m h = get_still ms more n m h

takes_still : (ms more : List Message) (n : ℕ) (act : Act) → option_map Takes (slice_get ms n) ≡ Some act
    → option_map Takes (slice_get (ms ++ more) n) ≡ Some act
takes_still [] more n act h = absurd (not_none act h)
takes_still (m ∷ ms) more zero act h = h
takes_still (m ∷ ms) more (suc n) act h = takes_still ms more n act h

-- what was found in some items stays
pub act_still : (cluster : Cluster) (items : List Item) (item : Item) (event : Event) (act : Act) → act_of cluster items event ≡ Some act
    → act_of cluster (item ∷ items) event ≡ Some act
act_still cluster items item (Begin txn) act h = h
act_still cluster items item (Recover txn) act h = recovers_still (id_of_txn items txn) (id_begun txn item) (slice_get cluster.bodies txn) act h
act_still cluster items item (Slow txn) act h = slows_still Slows (id_of_txn items txn) (id_begun txn item) act h
act_still cluster items item (TakesMessage number) act h = takes_still (sent_of items) (sent_in item) number act h
act_still cluster items item (Restart kept) act h = h

-- a message keeps its number
pub message_still : (items : List Item) (item : Item) (number : ℕ) (m : Message) → message_at items number ≡ Some m → message_at (item ∷ items) number ≡ Some m
message_still items item number m h = get_still (sent_of items) (sent_in item) number m h

-- ---- where it may stand

-- an entry of another actor doesn't begin what the actor is to begin
not_begun_by : (cluster : Cluster) (items : List Item) (e : Entry) (a : Actor) (txn : ℕ) → StandsOn cluster items e → not (same_actor e.actor a) ≡ true
    → IsHomeOf cluster txn a → event_begins txn e.event ≡ false
not_begun_by cluster items e a txn stands other home = by e.event refl
  where
    here : (number : ℕ) → e.event ≡ Begin number → (begins : Bool) → event_begins txn (Begin number) ≡ begins → begins ≡ false
    here number is false begins = refl
    here number is true begins = absurd (true≢false (sym other ∙ ap not (ap (λ b. same_actor b a) actor_is ∙ same_itself a)))
      where
        home_too : IsHomeOf cluster number e.actor
        home_too = (subst (λ event. MayStand cluster items e.actor stands.act event) is stands.place).0

        node_is : home_too.0 ≡ home.0
        node_is = some_is home_too.0 home.0 (sym home_too.1 ∙ ap (slice_get cluster.homes) (eqb-true number txn begins) ∙ home.1)

        actor_is : e.actor ≡ a
        actor_is = home_too.2 ∙ ap (λ node. actor_of node 0) node_is ∙ sym home.2

    by : (event : Event) → e.event ≡ event → event_begins txn event ≡ false
    by (Begin number) is = here number is (event_begins txn (Begin number)) refl
    by (Recover number) is = refl
    by (Slow number) is = refl
    by (TakesMessage number) is = refl
    by (Restart kept) is = refl

begins_not : (cluster : Cluster) (items : List Item) (item : Item) (a : Actor) (txn : ℕ) → Stands cluster items item → is_other a item ≡ true
    → IsHomeOf cluster txn a → begins_txn txn item ≡ false
begins_not cluster items (Step e) a txn stands other home = not_begun_by cluster items e a txn stands other home
begins_not cluster items (Skipped step cause) a txn stands other home = refl
begins_not cluster items (Down actor) a txn stands other home = refl

place_on : (cluster : Cluster) (items : List Item) (item : Item) (a : Actor) (act : Act) (event : Event)
    → ((txn : ℕ) → event ≡ Begin txn → IsHomeOf cluster txn a → begins_txn txn item ≡ false) → is_journalled a event ≡ true
    → MayStand cluster items a act event → MayStand cluster (item ∷ items) a act event
place_on cluster items item a act (Begin txn) fresh journalled place =
    (place.0, ap (λ b. not (b || is_begun items txn)) (fresh txn refl place.0) ∙ place.1)
place_on cluster items item a act (Recover txn) fresh journalled place = (place.0, or_right (begins_txn txn item) (is_begun items txn) place.1)
place_on cluster items item a act (Slow txn) fresh journalled place = absurd (true≢false (sym journalled))
place_on cluster items item a act (TakesMessage number) fresh journalled place = place
place_on cluster items item a act (Restart kept) fresh journalled place = tt

-- ---- what its entry would be

deeds_still : (cluster : Cluster) (items : List Item) (a : Actor) (item : Item) → is_other a item ≡ true
    → deeds_of cluster a (item ∷ items) ≡ deeds_of cluster a items
deeds_still cluster items a (Step e) other = deeds_same cluster items e a (apart_is (same_actor e.actor a) other)
deeds_still cluster items a (Skipped step cause) other = refl
deeds_still cluster items a (Down actor) other = refl

abbrev message_or : Message → Act → Message
message_or m (Takes other) = other
message_or m act = m

-- what is taken tells the message
same_message : (one other : Option Message) (act : Act) → option_map Takes one ≡ Some act → option_map Takes other ≡ Some act → one ≡ other
same_message None other act h k = absurd (not_none act h)
same_message (Some m) None act h k = absurd (not_none act k)
same_message (Some m) (Some n) act h k = ap Some (ap (message_or m) (some_is (Takes m) act h ∙ sym (some_is (Takes n) act k)))

-- where the actor did the same and the event takes the same, its entry is the same
module _ (cluster : Cluster) (before now : List Item) (a : Actor) (event : Event) (act : Act) (deeds : deeds_of cluster a now ≡ deeds_of cluster a before)
    (was : act_of cluster before event ≡ Some act) (is : act_of cluster now event ≡ Some act) where
  emitted_alike : emitted_for cluster now a event ≡ emitted_for cluster before a event
  emitted_alike =
      ap (emits_if cluster now a) is
      ∙ ap (λ (past : List Deed). emits_by (is_node a) cluster a past act) deeds
      ∙ sym (ap (emits_if cluster before a) was)

  payload_alike : (event : Event) (notes : List Note) → act_of cluster before event ≡ Some act → act_of cluster now event ≡ Some act
      → payload_by now a event notes ≡ payload_by before a event notes
  payload_alike (Begin txn) notes one other = refl
  payload_alike (Recover txn) notes one other = refl
  payload_alike (Slow txn) notes one other = refl
  payload_alike (TakesMessage number) notes one other =
      ap (λ m. cond (is_node a) [] (message_payload m)) (same_message (message_at now number) (message_at before number) act other one)
  payload_alike (Restart kept) notes one other = refl

  pub same_by_deeds : IsSameStep cluster before now a event
  same_by_deeds =
      record {
        act = is ∙ sym was;
        emitted = emitted_alike;
        payload = ap (λ (m : Emitted). payload_by now a event m.notes) emitted_alike ∙ payload_alike event (emitted_for cluster before a event).notes was is;
      }

module _ (cluster : Cluster) (items : List Item) (item : Item) (a : Actor) (event : Event) (act : Act) (other : is_other a item ≡ true)
    (may : MayTake cluster items a event act) where
  pub may_still : Stands cluster items item → is_journalled a event ≡ true → MayTake cluster (item ∷ items) a event act
  may_still stands journalled =
      record {
        act_is = act_still cluster items item event act may.act_is;
        place = place_on cluster items item a act event (λ txn is. begins_not cluster items item a txn stands other) journalled may.place;
      }

  pub same_step : IsSameStep cluster items (item ∷ items) a event
  same_step =
      same_by_deeds cluster items (item ∷ items) a event act (deeds_still cluster items a item other) may.act_is (act_still cluster items item event act may.act_is)

-- each of more events, after those before it
pub same_steps : (cluster : Cluster) (before now : List Item) (a : Actor) (events : List Event) (lost : Bool)
    → deeds_of cluster a now ≡ deeds_of cluster a before
    → AllByRecursion (λ (event : Event). (act : Act) × (act_of cluster before event ≡ Some act) × (act_of cluster now event ≡ Some act)) events
    → AreSameSteps cluster before now a events lost
same_steps cluster before now a [] lost deeds acts = tt
same_steps cluster before now a (event ∷ events) lost deeds acts = (
  same,
  same_steps cluster (entering cluster before a event lost ∷ before) (entering cluster now a event lost ∷ now) a events lost deeds_too
      (each_weaker _ _ events (λ other h. (
        h.0,
        act_still cluster before (entering cluster before a event lost) other h.0 h.1,
        act_still cluster now (entering cluster now a event lost) other h.0 h.2,
      )) acts.1),
)
  where
    act : Act
    act = acts.0.0

    same : IsSameStep cluster before now a event
    same = same_by_deeds cluster before now a event act deeds acts.0.1 acts.0.2

    entry_on : List Item → Entry
    entry_on items = record { actor = a; event = event; emitted = emitted_for cluster items a event; lost = lost }

    deeds_too : deeds_of cluster a (entering cluster now a event lost ∷ now) ≡ deeds_of cluster a (entering cluster before a event lost ∷ before)
    deeds_too =
        deeds_more cluster now (entry_on now) a act (same_itself a) acts.0.2
        ∙ ap (λ (m : Emitted). record { act = act; emitted = m } ∷ deeds_of cluster a now) same.emitted
        ∙ ap (λ (past : List Deed). record { act = act; emitted = emitted_for cluster before a event } ∷ past) deeds
        ∙ sym (deeds_more cluster before (entry_on before) a act (same_itself a) acts.0.1)

pub stay_same : (cluster : Cluster) (items : List Item) (item : Item) (a : Actor) (events : List Event) (lost : Bool) → is_other a item ≡ true
    → AllByRecursion (λ (event : Event). (act : Act) × MayTake cluster items a event act) events → AreSameSteps cluster items (item ∷ items) a events lost
stay_same cluster items item a events lost other may =
    same_steps cluster items (item ∷ items) a events lost (deeds_still cluster items a item other)
    (each_weaker _ _ events (λ event h. (h.0, h.1.act_is, act_still cluster items item event h.0 h.1.act_is)) may)

-- ---- a stopped step

down_still : (a : Actor) (items : List Item) (item : Item) → is_other a item ≡ true → is_down a items ≡ true → is_down a (item ∷ items) ≡ true
down_still a items (Step e) other down = down_other items e a (apart_is (same_actor e.actor a) other) ∙ down
down_still a items (Skipped step cause) other down = down
down_still a items (Down actor) other down = or_right (same_actor actor a) (is_down a items) down

pub still : (cluster : Cluster) (items : List Item) (item : Item) (a : Actor) (event : Event) → Stands cluster items item → is_other a item ≡ true
    → CanGoOn cluster items a event → CanGoOn cluster (item ∷ items) a event
still cluster items item a event stands other h =
    record {
      down = down_still a items item other h.down;
      journalled = h.journalled;
      act = h.act;
      may = may_still cluster items item a event h.act other h.may stands h.journalled;
    }

-- a step that goes down with its actor
pub gone_down : (cluster : Cluster) (items : List Item) (a : Actor) (event : Event) (act : Act) → is_journalled a event ≡ true
    → MayTake cluster items a event act → CanGoOn cluster (Down a ∷ items) a event
gone_down cluster items a event act journalled may =
    record {
      down = ap (λ b. b || is_down a items) (same_itself a);
      journalled = journalled;
      act = act;
      may = may_still cluster items (Down a) a event act refl may tt journalled;
    }

-- after the lost entry of another event of its actor
pub behind_lost : (cluster : Cluster) (items : List Item) (a : Actor) (first event : Event) → first ≢ event → CanGoOn cluster items a event
    → CanGoOn cluster (entering cluster items a first true ∷ items) a event
behind_lost cluster items a first event differ h =
    record {
      down = down_own items e a (same_itself a) ∙ h.down;
      journalled = h.journalled;
      act = h.act;
      may =
          record {
            act_is = act_still cluster items (Step e) event h.act h.may.act_is;
            place = place_on cluster items (Step e) a h.act event (λ txn is home. begins_other first txn (λ same. differ (same ∙ sym is))) h.journalled h.may.place;
          };
    }
  where
    e : Entry
    e = record { actor = a; event = first; emitted = emitted_for cluster items a first; lost = true }

    begins_other : (first : Event) (txn : ℕ) → first ≢ Begin txn → event_begins txn first ≡ false
    begins_other (Begin number) txn differ = by (event_begins txn (Begin number)) refl
      where
        by : (begins : Bool) → event_begins txn (Begin number) ≡ begins → begins ≡ false
        by true is = absurd (differ (ap Begin (eqb-true number txn is)))
        by false is = refl
    begins_other (Recover number) txn differ = refl
    begins_other (Slow number) txn differ = refl
    begins_other (TakesMessage number) txn differ = refl
    begins_other (Restart kept) txn differ = refl

-- a step that comes back is entered as lost
pub comes_back : (cluster : Cluster) (items : List Item) (a : Actor) (event : Event) → CanGoOn cluster items a event
    → IsLostOf cluster a items (record { actor = a; event = event; emitted = emits_if cluster items a (act_of cluster items event); lost = true })
comes_back cluster items a event h =
    record {
      stands = entry_stands cluster items a event h.act h.may true;
      actor_is = refl;
      lost = refl;
      kept_none = no_restart event h.journalled;
    }
  where
    no_restart : (event : Event) → is_journalled a event ≡ true → kept_of event ≡ 0
    no_restart (Begin txn) journalled = refl
    no_restart (Recover txn) journalled = refl
    no_restart (Slow txn) journalled = refl
    no_restart (TakesMessage number) journalled = refl
    no_restart (Restart kept) journalled = absurd (true≢false (sym journalled))

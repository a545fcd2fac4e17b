-- Items of other actors change nothing for an actor.
use Rattle.std.proofs.Common.{◌≡◌, ℕ, Bool, true, false, not, cond, ◌||◌, List, [], ◌∷◌, ◌++◌, Option, None, Some, refl, sym, ◌∙◌, ap, subst}
use Rattle.std.specs.Option.{option_map}
use Rattle.std.specs.List.{AllByRecursion, list_any}
use Rattle.std.proofs.lemmas.Bool.{true≢false, eqb-true, not-true}
use Rattle.acc_stamp.specs.declared.actors.Actor.{Actor}
use Rattle.acc_stamp.proofs.Rising.{each_weaker}
use Rattle.acc_message.specs.declared.message.Message.{Message}
use Rattle.acc_message.specs.declared.note.Note.{Note}
use Rattle.acc_message.specs.declared.entry.Emitted.{Emitted}
use Rattle.acc_message.specs.declared.entry.Entry.{Entry}
use Rattle.acc_message.specs.declared.entry.Event.{Event}
use Rattle.acc_message.specs.declared.entry.Event.TheVariants.{Begin, Recover, Slow, Message as TakesMessage, Restart}
use Rattle.acc_message.specs.declared.item.Item.{Item}
use Rattle.acc_message.specs.declared.item.Item.TheVariants.{Step, Skipped, Down}
use Rattle.acc_message.specs.Fields.{to_of}
use Rattle.acc_message.specs.Items.{same_actor, message_at}
use Rattle.acc_message.specs.NodeRules.{Act, Begins, Recovers, Slows, Takes, Restarts, Deed}
use Rattle.acc_message.specs.Run.{Cluster, act_of, deeds_of, is_node, emits_by, goes_to, MayStand, StandsOn, Stands, EachStands}
use Rattle.acc_actor_laws.proofs.Standing.{not_none}
use Rattle.acc_actor_laws.proofs.OpeningFacts.{some_is}
use Rattle.acc_safety.specs.Calm.{event_takes, item_takes}
use Rattle.acc_safety.proofs.Bridge.{same}
use Rattle.acc_run_laws.specs.Asks.{emits_if}
use Rattle.acc_payloads.specs.Items.{message_payload, payload_by, is_item_of}
use Rattle.acc_pasts.specs.Entries.{emitted_for, entering, MayTake}
use Rattle.acc_pasts.specs.Pasts.{IsUntouched}
use Rattle.acc_pasts.specs.Stopped.{is_other, IsSameStep, AreSameSteps}
use Rattle.acc_pasts.proofs.Deeds.{deeds_same}
use Rattle.acc_pasts.proofs.Pasts.{nothing_new, untouched_on, untouched}
use Rattle.acc_pasts.proofs.Stops.{act_still, message_still, may_still, same_steps}
use Rattle.acc_free_laws.specs.FreeRun.{is_plain_event, IsUntaken, AreOthers}

pub other_is : (a : Actor) (item : Item) → is_item_of a item ≡ false → is_other a item ≡ true
other_is a (Step e) apart = ap not apart
other_is a (Skipped step cause) apart = refl
other_is a (Down actor) apart = refl

-- ---- one item

-- an actor that takes the message is the one that it goes to
takes_not : (cluster : Cluster) (items : List Item) (e : Entry) (a : Actor) (number : ℕ) (act : Act) → StandsOn cluster items e
    → same_actor e.actor a ≡ false → act_of cluster items (TakesMessage number) ≡ Some act → goes_to a act ≡ true → event_takes number e.event ≡ false
takes_not cluster items e a number act stands apart is goes = by e.event refl
  where
    both : (act : Act) → goes_to e.actor act ≡ true → goes_to a act ≡ true → same_actor e.actor a ≡ true
    both (Begins txn body) one other = absurd (true≢false (sym one))
    both (Recovers id body) one other = absurd (true≢false (sym one))
    both (Slows id) one other = absurd (true≢false (sym one))
    both (Takes m) one other =
        ap (λ b. same_actor b a) (sym (same (to_of m) e.actor one)) ∙ other
    both Restarts one other = absurd (true≢false (sym one))

    here : (n : ℕ) → e.event ≡ TakesMessage n → (takes : Bool) → event_takes number (TakesMessage n) ≡ takes → takes ≡ false
    here n event_is false found = refl
    here n event_is true found =
        let event_too : e.event ≡ TakesMessage number = event_is ∙ ap TakesMessage (eqb-true n number found) in
        let act_too : stands.act ≡ act =
        some_is stands.act act (sym stands.act_is ∙ ap (act_of cluster items) event_too ∙ is) in
        let place : goes_to e.actor stands.act ≡ true =
        subst (λ event. MayStand cluster items e.actor stands.act event) event_too stands.place in
        absurd (true≢false (sym (both act (ap (goes_to e.actor) (sym act_too) ∙ place) goes) ∙ apart))

    by : (event : Event) → e.event ≡ event → event_takes number event ≡ false
    by (Begin txn) event_is = refl
    by (Recover txn) event_is = refl
    by (Slow txn) event_is = refl
    by (TakesMessage n) event_is = here n event_is (event_takes number (TakesMessage n)) refl
    by (Restart kept) event_is = refl

module _ (cluster : Cluster) (items : List Item) (item : Item) (a : Actor) (apart : is_item_of a item ≡ false) where
  pub may_beside : (event : Event) (act : Act) → Stands cluster items item → is_plain_event event ≡ true → MayTake cluster items a event act
      → MayTake cluster (item ∷ items) a event act
  may_beside (Begin txn) act stands plain may = may_still cluster items item a (Begin txn) act (other_is a item apart) may stands refl
  may_beside (Recover txn) act stands plain may = may_still cluster items item a (Recover txn) act (other_is a item apart) may stands refl
  may_beside (Slow txn) act stands plain may = absurd (true≢false (sym plain))
  may_beside (TakesMessage number) act stands plain may =
      record { act_is = act_still cluster items item (TakesMessage number) act may.act_is; place = may.place }
  may_beside (Restart kept) act stands plain may = record { act_is = may.act_is; place = tt }

  pub untaken_beside : (event : Event) (act : Act) → Stands cluster items item → MayTake cluster items a event act → IsUntaken items event
      → IsUntaken (item ∷ items) event
  untaken_beside (Begin txn) act stands may none = tt
  untaken_beside (Recover txn) act stands may none = tt
  untaken_beside (Slow txn) act stands may none = tt
  untaken_beside (TakesMessage number) act stands may none =
      ap (λ b. b || list_any (item_takes number) items) (by item stands apart) ∙ none
    where
      by : (item : Item) → Stands cluster items item → is_item_of a item ≡ false → item_takes number item ≡ false
      by (Step e) h k = takes_not cluster items e a number act h k may.act_is may.place
      by (Skipped step cause) h k = refl
      by (Down actor) h k = refl
  untaken_beside (Restart kept) act stands may none = tt

-- ---- any number of them

module _ (cluster : Cluster) (seen : List Item) (a : Actor) where
  pub untouched_by : (others : List Item) → AreOthers a others → IsUntouched cluster seen (others ++ seen) a
  untouched_by [] apart = nothing_new cluster seen a
  untouched_by (item ∷ others) apart =
      untouched_on cluster seen (others ++ seen) (item ∷ others ++ seen) a (untouched_by others apart.1)
      (untouched cluster (others ++ seen) item a apart.0)

  module _ (event : Event) (act : Act) where
    pub act_over : (others : List Item) → act_of cluster seen event ≡ Some act → act_of cluster (others ++ seen) event ≡ Some act
    act_over [] is = is
    act_over (item ∷ others) is = act_still cluster (others ++ seen) item event act (act_over others is)

    pub may_over : (others : List Item) → AreOthers a others → EachStands cluster (others ++ seen) → is_plain_event event ≡ true
        → MayTake cluster seen a event act → MayTake cluster (others ++ seen) a event act
    may_over [] apart stands plain may = may
    may_over (item ∷ others) apart stands plain may =
        may_beside cluster (others ++ seen) item a apart.0 event act stands.0 plain (may_over others apart.1 stands.1 plain may)

  pub untaken_over : (event : Event) (act : Act) (others : List Item) → AreOthers a others → EachStands cluster (others ++ seen)
      → MayTake cluster seen a event act → IsUntaken seen event → IsUntaken (others ++ seen) event
  untaken_over (Begin txn) act others apart stands may none = tt
  untaken_over (Recover txn) act others apart stands may none = tt
  untaken_over (Slow txn) act others apart stands may none = tt
  untaken_over (TakesMessage number) act [] apart stands may none = none
  untaken_over (TakesMessage number) act (item ∷ others) apart stands may none =
      untaken_beside cluster (others ++ seen) item a apart.0 (TakesMessage number) act stands.0
      (may_over (TakesMessage number) act others apart.1 stands.1 refl may)
      (untaken_over (TakesMessage number) act others apart.1 stands.1 may none)
  untaken_over (Restart kept) act others apart stands may none = tt

message_over : (seen : List Item) (number : ℕ) (m : Message) (others : List Item) → message_at seen number ≡ Some m
    → message_at (others ++ seen) number ≡ Some m
message_over seen number m [] is = is
message_over seen number m (item ∷ others) is = message_still (others ++ seen) item number m (message_over seen number m others is)

-- ---- what its next entry would be

-- none is an entry of the actor
abbrev pub NoEntries : Actor → List Item → Type 0
NoEntries a [] = Unit {0}
NoEntries a (item ∷ items) = (is_other a item ≡ true) × NoEntries a items

pub no_entries : (a : Actor) (others : List Item) → AreOthers a others → NoEntries a others
no_entries a [] apart = tt
no_entries a (item ∷ others) apart = (other_is a item apart.0, no_entries a others apart.1)

module _ (cluster : Cluster) (seen others : List Item) (a : Actor) (event : Event) (act : Act) (none : NoEntries a others)
    (act_is : act_of cluster seen event ≡ Some act) where
  deeds_beside : (items : List Item) (item : Item) → is_other a item ≡ true → deeds_of cluster a (item ∷ items) ≡ deeds_of cluster a items
  deeds_beside items (Step e) other = deeds_same cluster items e a (not-true (same_actor e.actor a) other)
  deeds_beside items (Skipped step cause) other = refl
  deeds_beside items (Down actor) other = refl

  deeds_over : (others : List Item) → NoEntries a others → deeds_of cluster a (others ++ seen) ≡ deeds_of cluster a seen
  deeds_over [] none = refl
  deeds_over (item ∷ others) none = deeds_beside (others ++ seen) item none.0 ∙ deeds_over others none.1

  emitted_over : emitted_for cluster (others ++ seen) a event ≡ emitted_for cluster seen a event
  emitted_over =
      ap (emits_if cluster (others ++ seen) a) (act_over cluster seen a event act others act_is)
      ∙ ap (λ (deeds : List Deed). emits_by (is_node a) cluster a deeds act) (deeds_over others none)
      ∙ sym (ap (emits_if cluster seen a) act_is)

  pub payload_over : (event : Event) (notes : List Note) → act_of cluster seen event ≡ Some act
      → payload_by (others ++ seen) a event notes ≡ payload_by seen a event notes
  payload_over (Begin txn) notes is = refl
  payload_over (Recover txn) notes is = refl
  payload_over (Slow txn) notes is = refl
  payload_over (TakesMessage number) notes is = by (message_at seen number) refl is
    where
      by : (o : Option Message) → message_at seen number ≡ o → option_map Takes o ≡ Some act
          → payload_by (others ++ seen) a (TakesMessage number) notes ≡ payload_by seen a (TakesMessage number) notes
      by None found e = absurd (not_none act e)
      by (Some m) found e =
          ap (λ p. cond (is_node a) [] (message_payload p)) (message_over seen number m others found)
          ∙ sym (ap (λ p. cond (is_node a) [] (message_payload p)) found)
  payload_over (Restart kept) notes is = refl

  pub same_over : IsSameStep cluster seen (others ++ seen) a event
  same_over =
      record {
        act = act_over cluster seen a event act others act_is ∙ sym act_is;
        emitted = emitted_over;
        payload =
            ap (λ (m : Emitted). payload_by (others ++ seen) a event m.notes) emitted_over
            ∙ payload_over event (emitted_for cluster seen a event).notes act_is;
      }

  pub entering_over : (lost : Bool) → entering cluster (others ++ seen) a event lost ≡ entering cluster seen a event lost
  entering_over lost = ap (λ (m : Emitted). Step (record { actor = a; event = event; emitted = m; lost = lost })) emitted_over

-- those of more events, each after those before it
pub all_over : (cluster : Cluster) (seen others : List Item) (a : Actor) (events : List Event) (lost : Bool) → AreOthers a others
    → AllByRecursion (λ (event : Event). (act : Act) × MayTake cluster seen a event act) events → AreSameSteps cluster seen (others ++ seen) a events lost
all_over cluster seen others a events lost apart may =
    same_steps cluster seen (others ++ seen) a events lost (untouched_by cluster seen a others apart).deeds
    (each_weaker (λ (event : Event). (act : Act) × MayTake cluster seen a event act)
    (λ (event : Event). (act : Act) × (act_of cluster seen event ≡ Some act) × (act_of cluster (others ++ seen) event ≡ Some act)) events
    (λ event h. (h.0, h.1.act_is, act_over cluster seen a event h.0 others h.1.act_is)) may)

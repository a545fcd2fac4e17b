-- What an item changes for each actor.
use Rattle.std.proofs.Common.{◌≡◌, ℕ, ◌+◌, Bool, false, cond, ◌||◌, List, ◌∷◌, ◌++◌, refl, ◌∙◌, ap}
use Rattle.std.proofs.lemmas.List.{append-nil}
use Rattle.acc_stamp.specs.declared.actors.Actor.{Actor}
use Rattle.acc_message.specs.declared.message.Message.{Message}
use Rattle.acc_message.specs.declared.entry.Emitted.{Emitted}
use Rattle.acc_message.specs.declared.entry.Entry.{Entry}
use Rattle.acc_message.specs.declared.entry.Event.{Event}
use Rattle.acc_message.specs.declared.item.Item.{Item}
use Rattle.acc_message.specs.declared.item.Item.TheVariants.{Step, Skipped, Down}
use Rattle.acc_message.specs.NodeRules.{Act, Takes, Restarts}
use Rattle.acc_message.specs.Run.{Cluster, act_of, deeds_of, taken_from, taken_of, emits, is_down}
use Rattle.acc_actor_laws.specs.TakenAlone.{messages_taken}
use Rattle.acc_safety.specs.RunLaws.{acts_done}
use Rattle.acc_safety.proofs.Bridge.{same_itself}
use Rattle.acc_run_laws.specs.Asks.{emits_if}
use Rattle.acc_payloads.specs.Items.{payload_by, payloads_in, is_item_of, downs_in, ends_down}
use Rattle.acc_pasts.specs.Entries.{entering, MayTake}
use Rattle.acc_pasts.specs.Pasts.{IsUntouched, DidMore, WentDown}
use Rattle.acc_pasts.proofs.Deeds.{deeds_more, deeds_same, down_own, down_other}
use Rattle.acc_pasts.proofs.Payloads.{payloads_more, ends_own, payloads_same, downs_same, ends_same}

module _ (cluster : Cluster) where
  pub nothing_new : (items : List Item) (a : Actor) → IsUntouched cluster items items a
  nothing_new items a = record { deeds = refl; payloads = refl; downs = refl; down = refl; ends = refl }

  pub untouched_on : (before between now : List Item) (a : Actor) → IsUntouched cluster before between a → IsUntouched cluster between now a
      → IsUntouched cluster before now a
  untouched_on before between now a first then =
      record {
        deeds = then.deeds ∙ first.deeds;
        payloads = then.payloads ∙ first.payloads;
        downs = then.downs ∙ first.downs;
        down = then.down ∙ first.down;
        ends = then.ends ∙ first.ends;
      }

  -- an item of another actor, or of none
  pub untouched : (items : List Item) (item : Item) (a : Actor) → is_item_of a item ≡ false → IsUntouched cluster items (item ∷ items) a
  untouched items item a other =
      record {
        deeds = deeds item other;
        payloads = payloads_same items item a other;
        downs = downs_same items item a other;
        down = down item other;
        ends = ends_same items item a other;
      }
    where
      deeds : (item : Item) → is_item_of a item ≡ false → deeds_of cluster a (item ∷ items) ≡ deeds_of cluster a items
      deeds (Step e) apart = deeds_same cluster items e a apart
      deeds (Skipped step cause) apart = refl
      deeds (Down actor) apart = refl

      down : (item : Item) → is_item_of a item ≡ false → is_down a (item ∷ items) ≡ is_down a items
      down (Step e) apart = down_other items e a apart
      down (Skipped step cause) apart = refl
      down (Down actor) apart = ap (λ b. b || is_down a items) apart

  -- a down
  pub went_down : (items : List Item) (a : Actor) → WentDown cluster items (Down a ∷ items) a
  went_down items a =
      record {
        deeds = refl;
        payloads = append-nil (payloads_in a items);
        downs = ap (λ b. cond b (1 + downs_in a items) (downs_in a items)) (same_itself a);
        down = ap (λ b. b || is_down a items) (same_itself a);
        ends = ap (λ b. cond b b (ends_down a items)) (same_itself a);
      }

  -- an entry
  pub did_more : (items : List Item) (a : Actor) (event : Event) (act : Act) (lost : Bool) → MayTake cluster items a event act
      → DidMore cluster items (entering cluster items a event lost ∷ items) a (record { act = act; emitted = emits cluster items a act })
      (payload_by items a event (emits cluster items a act).notes) lost
  did_more items a event act lost may =
      record {
        deeds = deeds_more cluster items e a act (same_itself a) may.act_is ∙ ap (λ (m : Emitted). record { act = act; emitted = m } ∷ deeds_of cluster a items) emitted;
        payloads = payloads_more items e a (same_itself a) ∙ ap (λ (m : Emitted). payloads_in a items ++ payload_by items a event m.notes) emitted;
        downs = refl;
        down = down_own items e a (same_itself a);
        ends = ends_own items e a (same_itself a);
      }
    where
      e : Entry
      e = record { actor = a; event = event; emitted = emits_if cluster items a (act_of cluster items event); lost = lost }

      emitted : e.emitted ≡ emits cluster items a act
      emitted = ap (emits_if cluster items a) may.act_is

  -- ---- what an actor took

  module _ (before now : List Item) (a : Actor) (act : Act) (emitted : Emitted) (payload : List (List ℕ)) (lost : Bool) where
    pub acts_more : DidMore cluster before now a (record { act = act; emitted = emitted }) payload lost → acts_done (deeds_of cluster a now) ≡ act ∷ acts_done (deeds_of cluster a before)
    acts_more did = ap acts_done did.deeds

  pub taken_more : (before now : List Item) (a : Actor) (m : Message) (emitted : Emitted) (payload : List (List ℕ)) (lost : Bool)
      → DidMore cluster before now a (record { act = Takes m; emitted = emitted }) payload lost → taken_of cluster a now ≡ record { message = m; sent = emitted.out } ∷ taken_of cluster a before
  taken_more before now a m emitted payload lost did = ap taken_from did.deeds

  pub messages_more : (before now : List Item) (a : Actor) (m : Message) (emitted : Emitted) (payload : List (List ℕ)) (lost : Bool)
      → DidMore cluster before now a (record { act = Takes m; emitted = emitted }) payload lost → messages_taken (taken_of cluster a now) ≡ m ∷ messages_taken (taken_of cluster a before)
  messages_more before now a m emitted payload lost did = ap messages_taken (taken_more before now a m emitted payload lost did)

  pub taken_restarted : (before now : List Item) (a : Actor) (emitted : Emitted) (payload : List (List ℕ)) (lost : Bool)
      → DidMore cluster before now a (record { act = Restarts; emitted = emitted }) payload lost → taken_of cluster a now ≡ taken_of cluster a before
  taken_restarted before now a emitted payload lost did = ap taken_from did.deeds

-- Items of others that come between what an actor has seen and what it made by that.
use Rattle.std.proofs.Common.{◌≡◌, ◌+◌, Bool, true, ◌&&◌, List, [], ◌∷◌, ◌++◌, Some, refl, sym, ◌∙◌, ap}
use Rattle.std.specs.List.{AllByRecursion}
use Rattle.acc_stamp.specs.declared.actors.Actor.{Actor}
use Rattle.acc_stamp.proofs.Rising.{each_weaker}
use Rattle.acc_message.specs.declared.entry.Entry.{Entry}
use Rattle.acc_message.specs.declared.entry.Event.{Event}
use Rattle.acc_message.specs.declared.item.Item.{Item}
use Rattle.acc_message.specs.declared.item.Item.TheVariants.{Down}
use Rattle.acc_message.specs.Items.{same_actor}
use Rattle.acc_message.specs.NodeRules.{Act, Deed}
use Rattle.acc_message.specs.Run.{Cluster, act_of}
use Rattle.acc_safety.proofs.Bridge.{same_itself}
use Rattle.acc_payloads.specs.Items.{payload_by, payloads_in}
use Rattle.acc_pasts.specs.Entries.{emitted_for, entering, MayTake}
use Rattle.acc_pasts.specs.Pasts.{IsUntouched, WentDown}
use Rattle.acc_pasts.specs.Stopped.{IsSameStep, AreSameSteps}
use Rattle.acc_pasts.proofs.Deeds.{deeds_more, down_own}
use Rattle.acc_pasts.proofs.Pasts.{went_down}
use Rattle.acc_pasts.proofs.Payloads.{payloads_more, ends_own}
use Rattle.acc_pasts.proofs.Stops.{same_steps}
use Rattle.acc_free_laws.specs.FreeRun.{AreOthers}
use Rattle.acc_free_laws.proofs.Others.{untouched_by, act_over, no_entries, payload_over, same_over}

module _ (cluster : Cluster) (seen others : List Item) (a : Actor) (apart : AreOthers a others) where
  past : IsUntouched cluster seen (others ++ seen) a
  past = untouched_by cluster seen a others apart

  pub down_between : IsUntouched cluster (Down a ∷ seen) (Down a ∷ others ++ seen) a
  down_between =
      let one : WentDown cluster seen (Down a ∷ seen) a = went_down cluster seen a in
      let other : WentDown cluster (others ++ seen) (Down a ∷ others ++ seen) a = went_down cluster (others ++ seen) a in
      record {
        deeds = other.deeds ∙ past.deeds ∙ sym one.deeds;
        payloads = other.payloads ∙ past.payloads ∙ sym one.payloads;
        downs = other.downs ∙ ap (λ n. 1 + n) past.downs ∙ sym one.downs;
        down = other.down ∙ sym one.down;
        ends = other.ends ∙ sym one.ends;
      }

  -- the steps that a fault stopped, each after those before it
  pub stops_between : (events : List Event) (lost : Bool) → AllByRecursion (λ (event : Event). (act : Act) × MayTake cluster seen a event act) events
      → AreSameSteps cluster (Down a ∷ seen) (Down a ∷ others ++ seen) a events lost
  stops_between events lost may =
      same_steps cluster (Down a ∷ seen) (Down a ∷ others ++ seen) a events lost down_between.deeds
      (each_weaker (λ (event : Event). (act : Act) × MayTake cluster seen a event act)
      (λ (event : Event). (act : Act) × (act_of cluster (Down a ∷ seen) event ≡ Some act) × (act_of cluster (Down a ∷ others ++ seen) event ≡ Some act)) events
      (λ event h. (h.0, act_over cluster seen a event h.0 (Down a ∷ []) h.1.act_is, act_over cluster seen a event h.0 (Down a ∷ others) h.1.act_is)) may)

  module _ (event : Event) (act : Act) (may : MayTake cluster seen a event act) where
    -- the step that a fault stopped, with its down
    pub stop_between : IsSameStep cluster (Down a ∷ seen) (Down a ∷ others ++ seen) a event
    stop_between =
        let one : IsSameStep cluster seen (Down a ∷ seen) a event = same_over cluster seen (Down a ∷ []) a event act (refl, tt) may.act_is in
        let other : IsSameStep cluster seen (Down a ∷ others ++ seen) a event =
        same_over cluster seen (Down a ∷ others) a event act (refl, no_entries a others apart) may.act_is in
        record {
          act = other.act ∙ sym one.act;
          emitted = other.emitted ∙ sym one.emitted;
          payload = other.payload ∙ sym one.payload;
        }

    -- its entry
    pub entry_between : (lost : Bool)
        → IsUntouched cluster (entering cluster seen a event lost ∷ seen) (entering cluster seen a event lost ∷ others ++ seen) a
    entry_between lost =
        record {
          deeds =
              deeds_more cluster (others ++ seen) e a act here (act_over cluster seen a event act others may.act_is)
              ∙ ap (λ (deeds : List Deed). record { act = act; emitted = e.emitted } ∷ deeds) past.deeds
              ∙ sym (deeds_more cluster seen e a act here may.act_is);
          payloads =
              payloads_more (others ++ seen) e a here
              ∙ ap (λ ps. ps ++ payload_by (others ++ seen) a event e.emitted.notes) past.payloads
              ∙ ap (λ ps. payloads_in a seen ++ ps)
              (payload_over cluster seen others a event act (no_entries a others apart) may.act_is event e.emitted.notes may.act_is)
              ∙ sym (payloads_more seen e a here);
          downs = past.downs;
          down = down_own (others ++ seen) e a here ∙ ap (λ b. lost && b) past.down ∙ sym (down_own seen e a here);
          ends = ends_own (others ++ seen) e a here ∙ sym (ends_own seen e a here);
        }
      where
        e : Entry
        e = record { actor = a; event = event; emitted = emitted_for cluster seen a event; lost = lost }

        here : same_actor a a ≡ true
        here = same_itself a

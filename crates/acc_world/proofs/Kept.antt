-- The actors that are kept, when one is built anew, takes an event, or is left out.
use Rattle.std.proofs.Common.{◌≡◌, ◌==◌, ℕ, Bool, true, false, cond, List, ◌∷◌, Option, None, Some, refl, sym, ◌∙◌, ap, subst, arith}
use Rattle.std.proofs.lemmas.Bool.Decides.{nat_tests}
use Rattle.std.specs.Ordering.{nat_cmp, is_eq}
use Rattle.std.specs.Map.{lookup}
use Rattle.std.specs.BTreeMap.{BTreeMap, get, is_at}
use Rattle.acc_stamp.specs.declared.actors.Actor.{Actor}
use Rattle.acc_message.specs.declared.entry.Emitted.{Emitted}
use Rattle.acc_message.specs.declared.entry.Entry.{Entry}
use Rattle.acc_message.specs.declared.entry.Event.{Event}
use Rattle.acc_message.specs.declared.item.Item.{Item}
use Rattle.acc_message.specs.declared.item.Item.TheVariants.{Step}
use Rattle.acc_message.specs.Items.{same_actor}
use Rattle.acc_message.specs.NodeRules.{Act, Restarts, Deed}
use Rattle.acc_message.specs.Run.{Cluster, act_of, deeds_of}
use Rattle.acc_safety.proofs.Bridge.{same, same_itself}
use Rattle.acc_pasts.proofs.Deeds.{deeds_same, deeds_more}
use Rattle.acc_pasts.proofs.Standing.{restart_may}
use Rattle.acc_history.specs.declared.history.History.{History}
use Rattle.acc_world.specs.declared.held.Held.{Held}
use Rattle.acc_world.specs.declared.setup.Setup.{Setup}
use Rattle.acc_world.specs.Held.{moment, cluster_of, HeldStands, HeldIs, HasTaken, IsAsked, restarted}
use Rattle.acc_world.specs.Stands.{AreHeld}
use Rattle.acc_world.specs.Keeping.{IsReady, HasActed, came_back}

key_test : (a b : ℕ) → is_eq (nat_cmp a b) ≡ (a == b)
key_test a b = grind (arith, nat_tests)

abbrev IsWritten : BTreeMap ℕ Held → BTreeMap ℕ Held → Actor → Option Held → Type 0
IsWritten old new a o = (q : ℕ) → get nat_cmp new q ≡ cond (is_at (nat_cmp a.0) q) o (get nat_cmp old q)

-- the one that is found
pub found_stands : (cluster : Cluster) (items : List Item) (actors : BTreeMap ℕ Held) (a : Actor) (held : Held) → get nat_cmp actors a.0 ≡ Some held
    → AreHeld cluster items actors → HeldStands cluster a (deeds_of cluster a items) held
found_stands cluster items actors a held found all = subst (HeldIs cluster a (deeds_of cluster a items)) found (all a)

module _ (cluster : Cluster) (items : List Item) (old new : BTreeMap ℕ Held) where
  -- one is put in, or changes, and stands for the same items
  pub put_in : (a : Actor) (held : Held) → IsWritten old new a (Some held) → AreHeld cluster items old
      → HeldStands cluster a (deeds_of cluster a items) held → AreHeld cluster items new
  put_in a held h all one b = subst (HeldIs cluster b (deeds_of cluster b items)) (sym (h b.0)) (by (is_at (nat_cmp a.0) b.0) refl)
    where
      by : (t : Bool) → is_at (nat_cmp a.0) b.0 ≡ t → HeldIs cluster b (deeds_of cluster b items) (cond t (Some held) (get nat_cmp old b.0))
      by true e = subst (λ x. HeldStands cluster x (deeds_of cluster x items) held) (same a b (sym (key_test a.0 b.0) ∙ e)) one
      by false e = all b

  -- nothing has changed
  pub unchanged : new.entries ≡ old.entries → AreHeld cluster items old → AreHeld cluster items new
  unchanged e all b = subst (HeldIs cluster b (deeds_of cluster b items)) (sym (ap (lookup (is_at (nat_cmp b.0))) e)) (all b)

module _ (cluster : Cluster) (items : List Item) (old new : BTreeMap ℕ Held) (e : Entry) where
  -- the one that stepped stands for its entry, as the others do
  pub stepped : (held : Held) → IsWritten old new e.actor (Some held) → AreHeld cluster items old
      → HeldStands cluster e.actor (deeds_of cluster e.actor (Step e ∷ items)) held → AreHeld cluster (Step e ∷ items) new
  stepped held h all one b = subst (HeldIs cluster b (deeds_of cluster b (Step e ∷ items))) (sym (h b.0)) (by (is_at (nat_cmp e.actor.0) b.0) refl)
    where
      by : (t : Bool) → is_at (nat_cmp e.actor.0) b.0 ≡ t → HeldIs cluster b (deeds_of cluster b (Step e ∷ items)) (cond t (Some held) (get nat_cmp old b.0))
      by true is = subst (λ x. HeldStands cluster x (deeds_of cluster x (Step e ∷ items)) held) (same e.actor b (sym (key_test e.actor.0 b.0) ∙ is)) one
      by false is =
          subst (λ (deeds : List Deed). HeldIs cluster b deeds (get nat_cmp old b.0)) (sym (deeds_same cluster items e b (sym (key_test e.actor.0 b.0) ∙ is))) (all b)

  -- the one that stepped is left out
  pub left_out : IsWritten old new e.actor None → AreHeld cluster (Step e ∷ items) old → AreHeld cluster items new
  left_out h all b = subst (HeldIs cluster b (deeds_of cluster b items)) (sym (h b.0)) (by (is_at (nat_cmp e.actor.0) b.0) refl)
    where
      by : (t : Bool) → is_at (nat_cmp e.actor.0) b.0 ≡ t → HeldIs cluster b (deeds_of cluster b items) (cond t None (get nat_cmp old b.0))
      by true is = tt
      by false is = subst (λ (deeds : List Deed). HeldIs cluster b deeds (get nat_cmp old b.0)) (deeds_same cluster items e b (sym (key_test e.actor.0 b.0) ∙ is)) (all b)

-- an entry of an actor that is missing
pub entered : (cluster : Cluster) (items : List Item) (actors : BTreeMap ℕ Held) (e : Entry) → get nat_cmp actors e.actor.0 ≡ None → AreHeld cluster items actors
    → AreHeld cluster (Step e ∷ items) actors
entered cluster items actors e out all b = by (same_actor e.actor b) refl
  where
    by : (t : Bool) → same_actor e.actor b ≡ t → HeldIs cluster b (deeds_of cluster b (Step e ∷ items)) (get nat_cmp actors b.0)
    by true is = subst (HeldIs cluster b (deeds_of cluster b (Step e ∷ items))) (sym (ap (λ (x : Actor). get nat_cmp actors x.0) (sym (same e.actor b is)) ∙ out)) tt
    by false is = subst (λ (deeds : List Deed). HeldIs cluster b deeds (get nat_cmp actors b.0)) (sym (deeds_same cluster items e b is)) (all b)

-- ---- an event

-- the actor stands after it
held_more : (cluster : Cluster) (items : List Item) (e : Entry) (act : Act) (held : Held) → act_of cluster items e.event ≡ Some act
    → HeldStands cluster e.actor (record { act = act; emitted = e.emitted } ∷ deeds_of cluster e.actor items) held
    → HeldStands cluster e.actor (deeds_of cluster e.actor (Step e ∷ items)) held
held_more cluster items e act held is stands =
    subst (λ (deeds : List Deed). HeldStands cluster e.actor deeds held) (sym (deeds_more cluster items e e.actor act (same_itself e.actor) is)) stands

pub asked_ready : (setup : Setup) (history : History) (actors : BTreeMap ℕ Held) (a : Actor) (event : Event) (items : List Item) (act : Act) (held : Held)
    → IsReady setup history actors a event items act → HeldStands (cluster_of setup) a (deeds_of (cluster_of setup) a items) held
    → IsAsked setup history a event held (moment items items) act
asked_ready setup history actors a event items act held ready stands =
    record { past = ready.past.past; known = ready.may.act_is; standing = ready.past.standing; few = ready.past.few; may = ready.may; stands = stands }

-- all that are kept stand after what one has taken
pub has_acted : (cluster : Cluster) (items : List Item) (old new : BTreeMap ℕ Held) (a : Actor) (event : Event) (act : Act) (emitted : Emitted) (held : Held)
    → HasTaken cluster items a event act emitted held → IsWritten old new a (Some held) → AreHeld cluster items old → HasActed cluster items a event act emitted new
has_acted cluster items old new a event act emitted held took written all =
    let e : Entry = record { actor = a; event = event; emitted = emitted; lost = false } in
    record {
      may = took.may;
      emits_it = took.emits_it;
      held = stepped cluster items old new e held written all (held_more cluster items e act held took.may.act_is took.stands);
    }

-- ---- a restart

pub comes_back : (cluster : Cluster) (items : List Item) (old new : BTreeMap ℕ Held) (a : Actor) (before held : Held) → get nat_cmp old a.0 ≡ Some before
    → IsWritten old new a (Some held)
    → ((cluster : Cluster) (a : Actor) (deeds : List Deed) → HeldStands cluster a deeds before → HeldStands cluster a (restarted ∷ deeds) held)
    → AreHeld cluster items old → AreHeld cluster (Step (came_back a) ∷ items) new
comes_back cluster items old new a before held found written comes all =
    stepped cluster items old new (came_back a) held written all
    (held_more cluster items (came_back a) Restarts held (restart_may cluster items a 0).act_is
    (comes cluster a (deeds_of cluster a items) (found_stands cluster items old a before found all)))

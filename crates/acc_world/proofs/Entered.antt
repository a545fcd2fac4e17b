-- What one entry makes of a world.
use Rattle.std.proofs.Common.{◌≡◌, ◌<◌, ◌^◌, ℕ, true, false, not, ◌&&◌, ◌||◌, List, [], ◌∷◌, length, reverse, Option, None, Some, Result, Ok, Err, OnErr, refl, sym, ◌∙◌, ap, subst, arith}
use Rattle.std.specs.List.{list_all}
use Rattle.std.specs.Option.{option_map}
use Rattle.std.proofs.lemmas.Bool.{true≢false}
use Rattle.std.proofs.lemmas.List.{reverse-reverse}
use Rattle.std.proofs.lemmas.Option.{slice_get_within}
use Rattle.acc_stamp.specs.declared.actors.Actor.{Actor}
use Rattle.acc_message.specs.declared.message.Message.{Message}
use Rattle.acc_message.specs.declared.entry.Emitted.{Emitted}
use Rattle.acc_message.specs.declared.entry.Entry.{Entry}
use Rattle.acc_message.specs.declared.entry.Event.{Event}
use Rattle.acc_message.specs.declared.entry.Event.TheVariants.{Begin, Recover, Slow, Message as TakesMessage, Restart}
use Rattle.acc_message.specs.declared.item.Item.{Item}
use Rattle.acc_message.specs.declared.item.Item.TheVariants.{Step, Skipped, Down}
use Rattle.acc_message.specs.Items.{same_actor, sent_of, message_at}
use Rattle.acc_message.specs.NodeRules.{Act, Takes, Restarts}
use Rattle.acc_message.specs.Coordinator.{silence}
use Rattle.acc_message.specs.Run.{Cluster, act_of, emits, kept_of, is_down, IsRun}
use Rattle.acc_actor_laws.proofs.Standing.{not_none}
use Rattle.acc_safety.specs.Valid.{IsValidCluster}
use Rattle.acc_run_laws.specs.Asks.{emits_if}
use Rattle.acc_run_laws.specs.AskLaws.{is_no_down, IsRunWithoutDowns}
use Rattle.acc_pasts.specs.Entries.{entering, MayTake}
use Rattle.acc_pasts.proofs.Standing.{entry_run, restart_may}
use Rattle.acc_pasts.proofs.Replayed.{restart_emits}
use Rattle.acc_history.specs.declared.history.History.{History}
use Rattle.acc_history.specs.Stands.{StandsFor as IsHistoryOf, EventTakesSent}
use Rattle.acc_world.specs.declared.setup.Setup.{Setup}
use Rattle.acc_world.specs.declared.world.World.{World}
use Rattle.acc_world.specs.Held.{cluster_of, past_of, IsPast}
use Rattle.acc_world.specs.Stands.{AreHeld, Stands}
use Rattle.acc_world.specs.Keeping.{IsReady, came_back}
use Rattle.acc_schedule_runs.specs.Limits.{most_items}
use Rattle.acc_world.specs.Steps.{HasPlace, IsTried, HasEntered}

-- ---- before it

few_of : (n : ℕ) → n < most_items → n < 2 ^ 31
few_of n low = omega (arith, low)

pub past_at : (w : World) (items : List Item) → Stands w items → HasPlace items → IsPast (cluster_of w.setup) w.history items
past_at w items stands place =
    record { standing = record { valid = stands.valid; stands = stands.run.run.stands }; few = few_of (length items) place; past = stands.past }

pub ready_at : (w : World) (a : Actor) (event : Event) (items : List Item) (act : Act) → IsTried w a event items act → IsReady w.setup w.history w.actors a event items act
ready_at w a event items act tried = record { past = past_at w items tried.stands tried.place; known = tried.known; may = tried.may; held = tried.stands.actors }

-- a message that is taken was sent
pub takes_sent : (cluster : Cluster) (items : List Item) (event : Event) (act : Act) → act_of cluster items event ≡ Some act → EventTakesSent (past_of items) event
takes_sent cluster items (Begin txn) act is = tt
takes_sent cluster items (Recover txn) act is = tt
takes_sent cluster items (Slow txn) act is = tt
takes_sent cluster items (TakesMessage number) act is = by (message_at items number) refl is
  where
    by : (o : Option Message) → message_at items number ≡ o → option_map Takes o ≡ Some act → number < length (sent_of items)
    by None found e = absurd (not_none act e)
    by (Some m) found e = slice_get_within (sent_of items) number m found
takes_sent cluster items (Restart kept) act is = tt

-- ---- the run

never_down : (a : Actor) (items : List Item) → list_all is_no_down items ≡ true → is_down a items ≡ false
never_down a [] h = refl
never_down a (Step e ∷ items) h = ap (λ b. b && (not (same_actor e.actor a) || e.lost)) (never_down a items h)
never_down a (Skipped step cause ∷ items) h = never_down a items h
never_down a (Down actor ∷ items) h = absurd (true≢false (sym h))

module _ (cluster : Cluster) (items : List Item) (a : Actor) (event : Event) (act : Act) (emitted : Emitted) where
  abbrev pub e : Entry
  e = record { actor = a; event = event; emitted = emitted; lost = false }

  entering_is : MayTake cluster items a event act → emitted ≡ emits cluster items a act → entering cluster items a event false ≡ Step e
  entering_is may emits_it =
      ap (λ (m : Emitted). Step (record { actor = a; event = event; emitted = m; lost = false })) (ap (emits_if cluster items a) may.act_is ∙ sym emits_it)

  pub entered_run : MayTake cluster items a event act → kept_of event ≡ 0 → emitted ≡ emits cluster items a act → IsRunWithoutDowns cluster items
      → IsRunWithoutDowns cluster (Step e ∷ items)
  entered_run may kept emits_it run =
      record {
        run =
            subst (λ (i : Item). IsRun cluster (i ∷ items)) (entering_is may emits_it)
            (entry_run cluster items a event act may kept (never_down a items run.no_downs) run.run);
        no_downs = run.no_downs;
      }

-- ---- the whole

-- what is known when an actor has taken an event, and the history has it
pub has_entered : (old new : World) (items : List Item) (a : Actor) (event : Event) (act : Act) (emitted : Emitted) (e : Entry)
    → Stands old items → kept_of event ≡ 0 → MayTake (cluster_of old.setup) items a event act → emitted ≡ emits (cluster_of old.setup) items a act
    → e ≡ record { actor = a; event = event; emitted = emitted; lost = false }
    → new.setup ≡ old.setup
    → IsHistoryOf new.history (past_of (Step e ∷ items))
    → AreHeld (cluster_of old.setup) (Step (record { actor = a; event = event; emitted = emitted; lost = false }) ∷ items) new.actors
    → HasEntered old new items a event act e
has_entered old new items a event act emitted e stands kept may emits_it entry_is same past all =
    let c = cluster_of old.setup in
    record {
      may = may;
      entry_is = entry_is ∙ ap (λ (m : Emitted). record { actor = a; event = event; emitted = m; lost = false }) emits_it;
      stands = record {
        valid = subst (λ (s : Setup). IsValidCluster (cluster_of s)) (sym same) stands.valid;
        run =
            subst (λ (s : Setup). IsRunWithoutDowns (cluster_of s) (Step e ∷ items)) (sym same)
            (subst (λ (x : Entry). IsRunWithoutDowns c (Step x ∷ items)) (sym entry_is) (entered_run c items a event act emitted may kept emits_it stands.run));
        past = past;
        actors =
            subst (λ (s : Setup). AreHeld (cluster_of s) (Step e ∷ items) new.actors) (sym same)
            (subst (λ (x : Entry). AreHeld c (Step x ∷ items) new.actors) (sym entry_is) all);
      };
    }

-- an error leaves what the world stands for
pub still : (old new : World) → new.setup ≡ old.setup → ((items : List Item) → IsHistoryOf old.history (past_of items) → IsHistoryOf new.history (past_of items))
    → ((cluster : Cluster) (items : List Item) → AreHeld cluster items old.actors → AreHeld cluster items new.actors) → (items : List Item) → Stands old items → Stands new items
still old new same past all items stands =
    record {
      valid = subst (λ (s : Setup). IsValidCluster (cluster_of s)) (sym same) stands.valid;
      run = subst (λ (s : Setup). IsRunWithoutDowns (cluster_of s) items) (sym same) stands.run;
      past = past items stands.past;
      actors = subst (λ (s : Setup). AreHeld (cluster_of s) items new.actors) (sym same) (all (cluster_of old.setup) items stands.actors);
    }

-- the same, of some items
pub still_at : (old new : World) → new.setup ≡ old.setup → (items : List Item) → Stands old items → IsHistoryOf new.history (past_of items)
    → AreHeld (cluster_of old.setup) items new.actors → Stands new items
still_at old new same items stands past all =
    record {
      valid = subst (λ (s : Setup). IsValidCluster (cluster_of s)) (sym same) stands.valid;
      run = subst (λ (s : Setup). IsRunWithoutDowns (cluster_of s) items) (sym same) stands.run;
      past = past;
      actors = subst (λ (s : Setup). AreHeld (cluster_of s) items new.actors) (sym same) all;
    }

-- a history has its items alone
pub same_items : (history : History) (xs ys : List Item) → IsHistoryOf history (past_of xs) → IsHistoryOf history (past_of ys) → xs ≡ ys
same_items history xs ys first second =
    sym (reverse-reverse xs) ∙ ap reverse (sym first.holds.items_are ∙ second.holds.items_are) ∙ reverse-reverse ys

-- an error, whatever it is
pub on_err : {A E : Type 0} (r : Result A E) (P : Type 0) → P → OnErr r P
on_err (Ok x) P h = tt
on_err (Err error) P h = h

-- ---- a restart

pub has_restarted : (old new : World) (items : List Item) (a : Actor) (emitted : Emitted) (e : Entry) → Stands old items → emitted ≡ silence
    → e ≡ record { actor = a; event = Restart 0; emitted = emitted; lost = false } → new.setup ≡ old.setup → IsHistoryOf new.history (past_of (Step e ∷ items))
    → AreHeld (cluster_of old.setup) (Step (came_back a) ∷ items) new.actors → HasEntered old new items a (Restart 0) Restarts e
has_restarted old new items a emitted e stands none entry_is same past all =
    has_entered old new items a (Restart 0) Restarts emitted e stands refl (restart_may (cluster_of old.setup) items a 0)
    (none ∙ sym (restart_emits (cluster_of old.setup) items a)) entry_is same past
    (subst (λ (m : Emitted). AreHeld (cluster_of old.setup) (Step (record { actor = a; event = Restart 0; emitted = m; lost = false }) ∷ items) new.actors) (sym none) all)

-- What a cluster that was opened after nothing enters stands as it is among its items.
use Rattle.std.proofs.Common.{◌≡◌, ◌+◌, Bool, false, List, [], ◌∷◌, length, refl, ◌∙◌, ap, subst, arith}
use Rattle.acc_stamp.specs.declared.actors.Actor.{Actor}
use Rattle.acc_message.specs.declared.entry.Emitted.{Emitted}
use Rattle.acc_message.specs.declared.entry.Entry.{Entry}
use Rattle.acc_message.specs.declared.entry.Event.{Event}
use Rattle.acc_message.specs.declared.entry.Event.TheVariants.{Begin, Recover, Slow, Message as TakesMessage, Restart}
use Rattle.acc_message.specs.declared.item.Item.{Item}
use Rattle.acc_message.specs.declared.item.Item.TheVariants.{Step}
use Rattle.acc_message.specs.Items.{sent_of}
use Rattle.acc_message.specs.NodeRules.{Act}
use Rattle.acc_message.specs.Run.{Cluster, act_of}
use Rattle.acc_run_laws.specs.Asks.{emits_if}
use Rattle.acc_schedule_runs.specs.Situations.{Stopped, Situation, raised_event, whole, without}
use Rattle.acc_schedule_runs.specs.Moves.{event_in, entry_of, entered, reopened}
use Rattle.acc_pasts.specs.Entries.{emitted_for, entering, MayTake}
use Rattle.acc_pasts.proofs.Situations.{joined_alone, whole_alone}
use Rattle.acc_free_laws.specs.FreeRun.{alone}

-- the entry that a situation gives
abbrev pub made : Cluster → Situation → Actor → Event → Bool → Entry
made cluster s a event lost =
    record { actor = a; event = event; emitted = emits_if cluster (whole s) a (act_of cluster (whole s) (event_in s event)); lost = lost }

unraised : (event : Event) → raised_event 0 event ≡ event
unraised (Begin txn) = refl
unraised (Recover txn) = refl
unraised (Slow txn) = refl
unraised (TakesMessage number) =
    let none : 0 + number ≡ number = omega arith in ap TakesMessage none
unraised (Restart kept) = refl

pub event_is : (s : Situation) → s.earlier ≡ [] → (event : Event) → event_in s event ≡ event
event_is s first event = ap (λ items. raised_event (length (sent_of items)) event) first ∙ unraised event

module _ (cluster : Cluster) (s : Situation) (first : s.earlier ≡ []) where
  pub may_own : (a : Actor) (event : Event) (act : Act) → MayTake cluster (whole s) a (event_in s event) act → MayTake cluster s.own a event act
  may_own a event act may =
      subst (λ items. MayTake cluster items a event act) (whole_alone s first)
      (subst (λ e. MayTake cluster (whole s) a e act) (event_is s first event) may)

  pub entry_is : (a : Actor) (event : Event) (lost : Bool) → entry_of cluster s a event lost ≡ entering cluster s.own a event lost
  entry_is a event lost =
      ap (λ (m : Emitted). Step (record { actor = a; event = event; emitted = m; lost = lost }))
      (ap (λ e. emits_if cluster (whole s) a (act_of cluster (whole s) e)) (event_is s first event)
      ∙ ap (λ items. emitted_for cluster items a event) (whole_alone s first))

-- ---- opened after nothing

pub alone_whole : (items : List Item) (stopped : List Stopped) → whole (alone items stopped) ≡ items
alone_whole items stopped = joined_alone items

pub alone_event : (items : List Item) (stopped : List Stopped) (event : Event) → event_in (alone items stopped) event ≡ event
alone_event items stopped event = event_is (alone items stopped) refl event

module _ (cluster : Cluster) (items : List Item) (stopped : List Stopped) where
  pub alone_entered : (a : Actor) (event : Event) (lost : Bool)
      → entered cluster (alone items stopped) a event lost ≡ alone (entering cluster items a event lost ∷ items) stopped
  alone_entered a event lost = ap (λ (item : Item). alone (item ∷ items) stopped) (entry_is cluster (alone items stopped) refl a event lost)

  pub alone_reopened : (a : Actor)
      → reopened cluster (alone items stopped) a [] ≡ alone (entering cluster items a (Restart 0) false ∷ items) (without a stopped)
  alone_reopened a =
      ap (λ (item : Item). alone (item ∷ items) (without a stopped)) (entry_is cluster (alone items stopped) refl a (Restart 0) false)

-- What holds of the items that an actor has seen holds with others' items, and what holds of each actor's stopped steps holds of all.
use Rattle.std.proofs.Common.{◌≡◌, ◌≤◌, Bool, true, false, List, [], ◌∷◌, ◌++◌, length, Option, Contains, refl, sym, ◌∙◌, subst, arith}
use Rattle.std.specs.List.{AllByRecursion}
use Rattle.acc_stamp.specs.declared.actors.Actor.{Actor}
use Rattle.acc_stamp.proofs.Rising.{each_weaker}
use Rattle.acc_message.specs.declared.entry.Event.{Event}
use Rattle.acc_message.specs.declared.item.Item.{Item}
use Rattle.acc_message.specs.Items.{same_actor}
use Rattle.acc_message.specs.NodeRules.{Act}
use Rattle.acc_message.specs.Run.{Cluster, EachStands, kept_of, is_down, IsRun}
use Rattle.acc_safety.specs.Valid.{IsValidCluster}
use Rattle.acc_run_laws.specs.Sends.{HasFewBodies}
use Rattle.acc_safety.proofs.Bridge.{same}
use Rattle.acc_schedule.specs.Actors.{actors}
use Rattle.acc_schedule.specs.Content.{Content}
use Rattle.acc_schedule.specs.declared.plan.Step.{Step}
use Rattle.acc_schedule_runs.specs.Situations.{Stopped, whole, stopped_at}
use Rattle.acc_schedule_runs.specs.Moves.{event_in}
use Rattle.acc_schedule_runs.specs.Schedules.{cluster_of}
use Rattle.acc_pasts.specs.Entries.{entering, MayTake}
use Rattle.acc_pasts.specs.Pasts.{IsUntouched}
use Rattle.acc_pasts.specs.Stopped.{CanGoOn, AreDifferent}
use Rattle.acc_pasts.proofs.Stops.{still}
use Rattle.acc_free_laws.specs.Turns.{Went, aside}
use Rattle.acc_free_laws.specs.FreeRun.{is_plain_event, IsUntaken, AreOthers, IsFreeRun, alone}
use Rattle.acc_free_laws.specs.Serving.{IsServing, HasGone, AreStopsOf}
use Rattle.acc_free_laws.proofs.Alone.{alone_whole, alone_event}
use Rattle.acc_free_laws.proofs.Fitting.{entry_fits}
use Rattle.acc_free_laws.proofs.Others.{NoEntries, untouched_by, may_over, no_entries, untaken_over, entering_over}
use Rattle.acc_free_laws.proofs.Serving.{each_both, can}

-- ---- what an actor makes by what it has seen

pub turn_fits : (plan : Content) (seen others : List Item) (a : Actor) (event : Event) (act : Act) → Contains (actors plan.topology) a
    → AreOthers a others → MayTake (cluster_of plan) seen a event act → is_plain_event event ≡ true → kept_of event ≡ 0 → is_down a seen ≡ false
    → IsUntaken seen event → IsFreeRun plan (others ++ seen) → IsFreeRun plan (entering (cluster_of plan) seen a event false ∷ others ++ seen)
turn_fits plan seen others a event act there apart may plain none up untaken free =
    let cluster : Cluster = cluster_of plan in
    let past : IsUntouched cluster seen (others ++ seen) a = untouched_by cluster seen a others apart in
    subst (λ item. IsFreeRun plan (item ∷ others ++ seen))
    (entering_over cluster seen others a event act (no_entries a others apart) may.act_is false)
    (entry_fits plan (others ++ seen) a there free event act (may_over cluster seen a event act others apart free.run.stands plain may) plain none
    (past.down ∙ up) (untaken_over cluster seen a event act others apart free.run.stands may untaken))

-- ---- turns

pub went_over : (a : Actor) (seen others : List Item) (gone : List Step) (stop : Option Step) → AreOthers a others → Went a seen gone stop
    → Went a (others ++ seen) gone stop
went_over a seen [] gone stop apart went = went
went_over a seen (item ∷ others) gone stop apart went =
    aside item (others ++ seen) gone stop apart.0 (went_over a seen others gone stop apart.1 went)

pub gone_over : (plan : Content) (seen others : List Item) (a : Actor) (stopped : List Stopped) (left : List Step) → AreOthers a others
    → HasGone plan (alone seen stopped) a left → HasGone plan (alone (others ++ seen) stopped) a left
gone_over plan seen others a stopped left apart h =
    record { gone = h.gone; stop = h.stop; split = h.split; went = went_over a seen others h.gone h.stop apart h.went; stops = h.stops }

-- ---- stopped steps

still_over : (cluster : Cluster) (seen others : List Item) (a : Actor) (event : Event) → NoEntries a others → EachStands cluster (others ++ seen)
    → CanGoOn cluster seen a event → CanGoOn cluster (others ++ seen) a event
still_over cluster seen [] a event none stands can_go = can_go
still_over cluster seen (item ∷ others) a event none stands can_go =
    still cluster (others ++ seen) item a event stands.0 none.0 (still_over cluster seen others a event none.1 stands.1 can_go)

-- the steps of an actor that were stopped can still be entered, after these items, and took no message that was taken
abbrev StillStand : Cluster → List Item → Actor → List Event → Type 0
StillStand cluster items a events =
    AllByRecursion (CanGoOn cluster items a) events × AllByRecursion (IsUntaken items) events × AreDifferent events × (length events ≤ 16)

stand_of : (plan : Content) (items : List Item) (one : List Stopped) (a : Actor) → IsServing plan (alone items one)
    → StillStand (cluster_of plan) items a (stopped_at a one)
stand_of plan items one a h = (can plan (alone items one) h a, h.untaken a, (h.sound.stopped a).1, h.few a)

none_stands : (cluster : Cluster) (items : List Item) (a : Actor) → StillStand cluster items a []
none_stands cluster items a = (tt, tt, tt, omega arith)

module _ (plan : Content) (items : List Item) (stopped : List Stopped) (valid : IsValidCluster (cluster_of plan)) (few_bodies : HasFewBodies (cluster_of plan))
    (free : IsFreeRun plan items) where
  pub serving_of : ((a : Actor) → StillStand (cluster_of plan) items a (stopped_at a stopped)) → IsServing plan (alone items stopped)
  serving_of each =
      let cluster : Cluster = cluster_of plan in
      let whole_is = sym (alone_whole items stopped) in
      record {
        earlier = refl;
        dropped = refl;
        sound = record {
          valid = valid;
          few_bodies = few_bodies;
          run = subst (IsRun cluster) whole_is free.run;
          stopped = λ a. (
            each_weaker (CanGoOn cluster items a) (λ (event : Event). CanGoOn cluster (whole (alone items stopped)) a (event_in (alone items stopped) event))
                (stopped_at a stopped)
                (λ event able.
                subst (λ own. CanGoOn cluster own a (event_in (alone items stopped) event)) whole_is
                (subst (CanGoOn cluster items a) (sym (alone_event items stopped event)) able))
                (each a).0,
            (each a).2,
          );
        };
        free = free;
        untaken = λ a. (each a).1;
        few = λ a. (each a).3;
      }

  pub serving_together : ((a : Actor) (event : Event) (events : List Event) → stopped_at a stopped ≡ event ∷ events
      → (one : List Stopped) × (stopped_at a one ≡ event ∷ events) × IsServing plan (alone items one)) → IsServing plan (alone items stopped)
  serving_together each = serving_of (λ a. by a (stopped_at a stopped) refl)
    where
      cluster : Cluster
      cluster = cluster_of plan

      by : (a : Actor) (events : List Event) → stopped_at a stopped ≡ events → StillStand cluster items a events
      by a [] is = none_stands cluster items a
      by a (event ∷ events) is =
          let one = each a event events is in
          subst (StillStand cluster items a) one.1 (stand_of plan items one.0 a one.2)

pub serving_over : (plan : Content) (seen others : List Item) (a : Actor) (stopped : List Stopped) → AreOthers a others → AreStopsOf a stopped
    → IsFreeRun plan (others ++ seen) → IsServing plan (alone seen stopped) → IsServing plan (alone (others ++ seen) stopped)
serving_over plan seen others a stopped apart stops free h =
    serving_of plan (others ++ seen) stopped h.sound.valid h.sound.few_bodies free (λ b. by b (same_actor a b) refl)
  where
    cluster : Cluster
    cluster = cluster_of plan

    over : (event : Event) → CanGoOn cluster seen a event → IsUntaken seen event → IsUntaken (others ++ seen) event
    over event able none = untaken_over cluster seen a event able.act others apart free.run.stands able.may none

    own : StillStand cluster (others ++ seen) a (stopped_at a stopped)
    own = (
      each_weaker (CanGoOn cluster seen a) (CanGoOn cluster (others ++ seen) a) (stopped_at a stopped)
          (λ event able. still_over cluster seen others a event (no_entries a others apart) free.run.stands able) (can plan (alone seen stopped) h a),
      each_both (CanGoOn cluster seen a) (IsUntaken seen) (IsUntaken (others ++ seen)) (stopped_at a stopped) over (can plan (alone seen stopped) h a) (h.untaken a),
      (h.sound.stopped a).1,
      h.few a,
    )

    by : (b : Actor) (here : Bool) → same_actor a b ≡ here → StillStand cluster (others ++ seen) b (stopped_at b stopped)
    by b true is = subst (λ c. StillStand cluster (others ++ seen) c (stopped_at c stopped)) (same a b is) own
    by b false is = subst (StillStand cluster (others ++ seen) b) (sym (stops b is)) (none_stands cluster (others ++ seen) b)

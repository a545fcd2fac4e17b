-- Each move of an actor keeps the items a free run, and the stopped steps such as can still be entered.
use Rattle.std.proofs.Common.{◌≡◌, ◌≢◌, ℕ, ◌≤◌, Bool, true, false, not, ◌||◌, List, [], ◌∷◌, length, Contains, refl, sym, ◌∙◌, ap, subst, arith}
use Rattle.std.specs.List.{AllByRecursion, list_any}
use Rattle.std.proofs.lemmas.Bool.{true≢false, eqb-true}
use Rattle.acc_stamp.specs.declared.actors.Actor.{Actor}
use Rattle.acc_stamp.proofs.Rising.{each_weaker}
use Rattle.acc_message.specs.declared.entry.Event.{Event}
use Rattle.acc_message.specs.declared.entry.Event.TheVariants.{Begin, Recover, Slow, Message as TakesMessage, Restart}
use Rattle.acc_message.specs.declared.item.Item.{Item}
use Rattle.acc_message.specs.declared.item.Item.TheVariants.{Down}
use Rattle.acc_message.specs.Items.{same_actor}
use Rattle.acc_message.specs.NodeRules.{Act}
use Rattle.acc_message.specs.Run.{Cluster, Stands, kept_of, is_down, IsRun}
use Rattle.acc_safety.specs.Calm.{event_takes, item_takes}
use Rattle.acc_safety.specs.Valid.{IsValidCluster}
use Rattle.acc_run_laws.specs.Sends.{HasFewBodies}
use Rattle.acc_safety.proofs.Bridge.{same}
use Rattle.acc_payloads.specs.Items.{is_item_of}
use Rattle.acc_schedule.specs.Actors.{actors}
use Rattle.acc_schedule.specs.Content.{Content}
use Rattle.acc_schedule_runs.specs.Situations.{Situation, opened, whole, stopped_at}
use Rattle.acc_schedule_runs.specs.Moves.{with_item, event_in, entry_of, entered, is_journalled, stopped_by, tried_if, kept_if, with_kept, reopened}
use Rattle.acc_schedule_runs.specs.Schedules.{cluster_of}
use Rattle.acc_schedule_runs.proofs.StopLists.{by_without, by_stops, all_earlier, all_dropped}
use Rattle.acc_pasts.specs.Entries.{entering, MayTake}
use Rattle.acc_pasts.specs.Stopped.{CanGoOn, AreDifferent, CanAllGoOn, IsSound}
use Rattle.acc_pasts.proofs.Situations.{whole_alone}
use Rattle.acc_pasts.proofs.Standing.{entry_stands}
use Rattle.acc_pasts.proofs.Stops.{still}
use Rattle.acc_pasts.proofs.Sound.{sound_opened, sound_down, sound_entered, sound_stopped, others_go_on, sound_up}
use Rattle.acc_free_laws.specs.FreeRun.{is_plain_event, IsUntaken, IsFreeRun}
use Rattle.acc_free_laws.specs.Serving.{IsServing}
use Rattle.acc_free_laws.proofs.Alone.{made, event_is, may_own, entry_is}
use Rattle.acc_free_laws.proofs.Fitting.{nothing_fits, entry_fits, down_fits, IsFree, free_part, free_whole, lost_fits, restart_fits}
use Rattle.acc_free_laws.proofs.Others.{untaken_beside}

-- an item that takes no message
untaken_past : (items : List Item) (item : Item) (event : Event) → ((number : ℕ) → item_takes number item ≡ false) → IsUntaken items event
    → IsUntaken (item ∷ items) event
untaken_past items item (Begin txn) takes none = tt
untaken_past items item (Recover txn) takes none = tt
untaken_past items item (Slow txn) takes none = tt
untaken_past items item (TakesMessage number) takes none = ap (λ b. b || list_any (item_takes number) items) (takes number) ∙ none
untaken_past items item (Restart kept) takes none = tt

-- another event takes another message
different_untaken : (items : List Item) (item : Item) (one other : Event) → ((number : ℕ) → item_takes number item ≡ event_takes number one)
    → one ≢ other → IsUntaken items other → IsUntaken (item ∷ items) other
different_untaken items item one (Begin txn) takes differ none = tt
different_untaken items item one (Recover txn) takes differ none = tt
different_untaken items item one (Slow txn) takes differ none = tt
different_untaken items item one (TakesMessage number) takes differ none =
    ap (λ b. b || list_any (item_takes number) items) (takes number ∙ by one differ) ∙ none
  where
    by : (one : Event) → one ≢ TakesMessage number → event_takes number one ≡ false
    by (Begin txn) apart = refl
    by (Recover txn) apart = refl
    by (Slow txn) apart = refl
    by (TakesMessage n) apart = same_or (event_takes number (TakesMessage n)) refl
      where
        same_or : (takes : Bool) → event_takes number (TakesMessage n) ≡ takes → takes ≡ false
        same_or true is = absurd (apart (ap TakesMessage (eqb-true n number is)))
        same_or false is = refl
    by (Restart kept) apart = refl
different_untaken items item one (Restart kept) takes differ none = tt

-- what two facts on each event give
pub each_both : (P Q R : Event → Type 0) (events : List Event) → ((event : Event) → P event → Q event → R event) → AllByRecursion P events
    → AllByRecursion Q events → AllByRecursion R events
each_both P Q R [] f p q = tt
each_both P Q R (event ∷ events) f p q = (f event p.0 q.0, each_both P Q R events f p.1 q.1)

pub serving_begins : (plan : Content) → IsValidCluster (cluster_of plan) → HasFewBodies (cluster_of plan) → IsServing plan (opened [])
serving_begins plan valid few_bodies =
    record {
      earlier = refl;
      dropped = refl;
      sound = sound_opened (cluster_of plan) [] valid few_bodies (nothing_fits plan).run;
      free = nothing_fits plan;
      untaken = λ a. tt;
      few = λ a. omega arith;
    }

-- ---- what a restart enters

module _ (plan : Content) where
  abbrev cluster : Cluster
  cluster = cluster_of plan

  can_own : (s : Situation) → s.earlier ≡ [] → (b : Actor) (event : Event) → CanGoOn cluster (whole s) b (event_in s event) → CanGoOn cluster s.own b event
  can_own s first b event can =
      subst (λ items. CanGoOn cluster items b event) (whole_alone s first)
      (subst (λ e. CanGoOn cluster (whole s) b e) (event_is s first event) can)

  -- the entry of a step that can go on, or of a restart, stands on the items alone
  stands_own : (s : Situation) → s.earlier ≡ [] → (a : Actor) (event : Event) (act : Act) (lost : Bool) → MayTake cluster (whole s) a (event_in s event) act
      → Stands cluster s.own (entry_of cluster s a event lost)
  stands_own s first a event act lost may =
      subst (Stands cluster s.own) (sym (entry_is cluster s first a event lost))
      (entry_stands cluster s.own a event act (may_own cluster s first a event act may) lost)

  -- what was kept is free
  kept_free : (s : Situation) (a : Actor) (kept : List Event) → s.earlier ≡ [] → Contains (actors plan.topology) a → CanAllGoOn cluster s a kept
      → AllByRecursion (IsUntaken s.own) kept → IsFree plan s.own → IsFree plan (with_kept cluster s a kept).own
  kept_free s a [] first there can untaken free = free
  kept_free s a (event ∷ kept) first there can untaken free =
      let able : CanGoOn cluster s.own a event = can_own s first a event can.0.0 in
      kept_free (entered cluster s a event true) a kept first there (others_go_on cluster s a event kept can)
      (each_both (λ (other : Event). event ≢ other) (IsUntaken s.own) (IsUntaken (entry_of cluster s a event true ∷ s.own)) kept
      (λ other differ none. different_untaken s.own (entry_of cluster s a event true) event other (λ number. refl) differ none) can.1.0 untaken.1)
      (lost_fits plan s.own (made cluster s a event true) there free able.journalled able.down untaken.0)

  -- and takes none of another actor's messages
  kept_untaken : (s : Situation) (a b : Actor) (kept : List Event) (other : Event) → s.earlier ≡ [] → same_actor a b ≡ false → CanAllGoOn cluster s a kept
      → CanGoOn cluster s.own b other → IsUntaken s.own other → IsUntaken (with_kept cluster s a kept).own other
  kept_untaken s a b [] other first apart can able untaken = untaken
  kept_untaken s a b (event ∷ kept) other first apart can able untaken =
      let item : Item = entry_of cluster s a event true in
      let stands : Stands cluster s.own item = stands_own s first a event can.0.0.act true can.0.0.may in
      kept_untaken (entered cluster s a event true) a b kept other first apart (others_go_on cluster s a event kept can)
      (still cluster s.own item b other stands (ap not apart) able)
      (untaken_beside cluster s.own item b apart other able.act stands able.may untaken)

module _ (plan : Content) (s : Situation) (h : IsServing plan s) where
  -- ---- the stopped steps, among the items alone

  pub can : (b : Actor) → AllByRecursion (CanGoOn (cluster plan) s.own b) (stopped_at b s.stopped)
  can b = each_weaker _ (CanGoOn (cluster plan) s.own b) (stopped_at b s.stopped) (can_own plan s h.earlier b) (h.sound.stopped b).0

  untaken_still : (item : Item) (b : Actor) → Stands (cluster plan) s.own item → (is_down b s.own ≡ true → is_item_of b item ≡ false)
      → AllByRecursion (IsUntaken (item ∷ s.own)) (stopped_at b s.stopped)
  untaken_still item b stands apart =
      each_both (CanGoOn (cluster plan) s.own b) (IsUntaken s.own) (IsUntaken (item ∷ s.own)) (stopped_at b s.stopped)
      (λ event able none. untaken_beside (cluster plan) s.own item b (apart able.down) event able.act stands able.may none) (can b) (h.untaken b)

  module _ (a : Actor) (there : Contains (actors plan.topology) a) where
    -- ---- an entry

    -- who is down isn't the actor that is up
    up_is_other : (b : Actor) → is_down a (whole s) ≡ false → is_down b s.own ≡ true → same_actor a b ≡ false
    up_is_other b up down = by (same_actor a b) refl
      where
        by : (here : Bool) → same_actor a b ≡ here → here ≡ false
        by true is =
            absurd (true≢false (sym down ∙ sym (ap (λ c. is_down c s.own) (same a b is)) ∙ sym (ap (is_down a) (whole_alone s h.earlier)) ∙ up))
        by false is = refl

    pub serving_entered : (event : Event) (act : Act) → MayTake (cluster plan) (whole s) a (event_in s event) act → is_plain_event event ≡ true
        → kept_of event ≡ 0 → is_down a (whole s) ≡ false → IsUntaken s.own event → IsServing plan (entered (cluster plan) s a event false)
    serving_entered event act may plain none up untaken =
        record {
          earlier = h.earlier;
          dropped = h.dropped;
          sound = sound_entered (cluster plan) s a event act may (ap kept_of (event_is s h.earlier event) ∙ none) up h.sound;
          free = free;
          untaken = λ b. untaken_still (entry_of (cluster plan) s a event false) b free.run.stands.0 (up_is_other b up);
          few = h.few;
        }
      where
        free : IsFreeRun plan (entry_of (cluster plan) s a event false ∷ s.own)
        free =
            subst (λ item. IsFreeRun plan (item ∷ s.own)) (sym (entry_is (cluster plan) s h.earlier a event false))
            (entry_fits plan s.own a there h.free event act (may_own (cluster plan) s h.earlier a event act may) plain none
            (sym (ap (is_down a) (whole_alone s h.earlier)) ∙ up) untaken)

    -- ---- downs

    past_down : (events : List Event) → AllByRecursion (IsUntaken s.own) events → AllByRecursion (IsUntaken (Down a ∷ s.own)) events
    past_down events none =
        each_weaker _ (IsUntaken (Down a ∷ s.own)) events (λ event untaken. untaken_past s.own (Down a) event (λ number. refl) untaken) none

    pub serving_down : IsServing plan (with_item (Down a) s)
    serving_down =
        record {
          earlier = h.earlier;
          dropped = h.dropped;
          sound = sound_down (cluster plan) s a h.sound;
          free = down_fits plan s.own a there h.free;
          untaken = λ b. past_down (stopped_at b s.stopped) (h.untaken b);
          few = h.few;
        }

    pub serving_stopped : (events : List Event)
        → AllByRecursion (λ (event : Event). (act : Act) × MayTake (cluster plan) (whole s) a (event_in s event) act × (is_journalled a event ≡ true)) events
        → AreDifferent events → AllByRecursion (IsUntaken s.own) events → length events ≤ 16 → IsServing plan (stopped_by a events s)
    serving_stopped events may different untaken few =
        record {
          earlier = h.earlier;
          dropped = h.dropped;
          sound = sound_stopped (cluster plan) s a events may different h.sound;
          free = down_fits plan s.own a there h.free;
          untaken = λ b.
              by_stops (AllByRecursion (IsUntaken (Down a ∷ s.own))) a b s.stopped events (λ is. past_down events untaken)
              (λ is. past_down (stopped_at b s.stopped) (h.untaken b));
          few = λ b. by_stops (λ (all : List Event). length all ≤ 16) a b s.stopped events (λ is. few) (λ is. h.few b);
        }

    pub serving_tried : (event : Event) (act : Act) (fails : Bool) → MayTake (cluster plan) (whole s) a (event_in s event) act
        → is_plain_event event ≡ true → kept_of event ≡ 0 → is_down a (whole s) ≡ false → IsUntaken s.own event
        → (fails ≡ true → is_journalled a event ≡ true) → IsServing plan (tried_if fails (cluster plan) s a event)
    serving_tried event act true may plain none up untaken journalled =
        serving_stopped (event ∷ []) ((act, may, journalled refl), tt) (tt, tt) (untaken, tt) (omega arith)
    serving_tried event act false may plain none up untaken journalled = serving_entered event act may plain none up untaken

    -- ---- restarts

    pub serving_up : (kept : List Event) → CanAllGoOn (cluster plan) s a kept → AllByRecursion (IsUntaken s.own) kept → length kept ≤ 16
        → IsServing plan (reopened (cluster plan) s a kept)
    serving_up kept able untaken few =
        record {
          earlier = first;
          dropped = all_dropped (cluster plan) a true s kept ∙ h.dropped;
          sound = sound;
          free = free_whole plan up.own (subst (IsRun (cluster plan)) (whole_alone up first) sound.run) free;
          untaken = λ b.
              by_without (AllByRecursion (IsUntaken up.own)) a b s.stopped (λ is. tt)
              (λ apart. each_both (CanGoOn (cluster plan) s.own b) (IsUntaken s.own) (IsUntaken up.own) (stopped_at b s.stopped) (later b apart) (can b) (h.untaken b));
          few = λ b. by_without (λ (all : List Event). length all ≤ 16) a b s.stopped (λ is. omega arith) (λ is. h.few b);
        }
      where
        between : Situation
        between = with_kept (cluster plan) s a kept

        up : Situation
        up = reopened (cluster plan) s a kept

        first : up.earlier ≡ []
        first = all_earlier (cluster plan) a true s kept ∙ h.earlier

        sound : IsSound (cluster plan) up
        sound = sound_up (cluster plan) s a kept able h.sound

        free : IsFree plan up.own
        free =
            restart_fits plan between.own (made (cluster plan) between a (Restart (length kept)) false) there
            (kept_free plan s a kept h.earlier there able untaken (free_part plan s.own h.free)) (length kept) refl refl few

        later : (b : Actor) → same_actor a b ≡ false → (event : Event) → CanGoOn (cluster plan) s.own b event → IsUntaken s.own event → IsUntaken up.own event
        later b apart event other none =
            untaken_past between.own (entry_of (cluster plan) between a (Restart (length kept)) false) event (λ number. refl)
            (kept_untaken plan s a b kept event h.earlier apart able other none)

    pub serving_restarted : (keeps : Bool) → IsServing plan (reopened (cluster plan) s a (kept_if keeps a s))
    serving_restarted true = serving_up (stopped_at a s.stopped) (h.sound.stopped a) (h.untaken a) (h.few a)
    serving_restarted false = serving_up [] (tt, tt) tt (omega arith)

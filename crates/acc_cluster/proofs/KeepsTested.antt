-- What keeps a cluster tested.
use Rattle.std.proofs.Common.{◌≡◌, ℕ, ◌+◌, ◌<◌, ◌≤◌, ◌^◌, nat_lt, Bool, true, false, List, [], ◌∷◌, Some, Result, OnOk, length, take, get_or, refl, sym, ◌∙◌, subst, arith}
use Rattle.std.specs.List.{slice_index_or, AllByRecursion}
use Rattle.std.proofs.lemmas.List.{length-set, take_more}
use Rattle.std.proofs.lemmas.Bool.Decides.{nat_tests}
use Rattle.std.proofs.lemmas.Option.{slice_get_within}
use Rattle.std.proofs.Math.ListN.{set}
use Rattle.acc_stamp.specs.declared.actors.Actor.{Actor}
use Rattle.acc_stamp.proofs.Rising.{each_append}
use Rattle.acc_ports.specs.declared.disk.Disk.{Ghosts}
use Rattle.acc_message.specs.declared.entry.Event.{Event}
use Rattle.acc_message.specs.declared.error.RunError.{RunError}
use Rattle.acc_message.specs.declared.item.Item.{Item}
use Rattle.acc_message.specs.declared.message.Message.{Message}
use Rattle.acc_message.specs.declared.entry.Event.TheVariants.{Begin, Recover, Slow, Message as MessageEvent, Restart}
use Rattle.acc_message.specs.Items.{same_actor, sent_of, message_at}
use Rattle.acc_message.specs.Run.{Cluster as RunCluster}
use Rattle.acc_safety.proofs.Bridge.{same}
use Rattle.acc_schedule.specs.Content.{Content}
use Rattle.acc_schedule_runs.specs.Situations.{Situation}
use Rattle.acc_schedule_runs.specs.Moves.{with_item, entered}
use Rattle.acc_history.specs.declared.history.History.{History}
use Rattle.acc_history.specs.Stands.{EventTakesSent, with_dropped}
use Rattle.acc_history.specs.Stands as history
use Rattle.acc_payloads.specs.declared.stops.Unsent.{Unsent}
use Rattle.acc_cluster.specs.Restarting.{lost_item, with_lost, AreSendableBehind, CanComeBack, CanBeEntered, takes_below}
use Rattle.acc_actors.specs.declared.slot.Slot.{Slot}
use Rattle.acc_actors.specs.declared.slot.Slot.TheVariants.{Empty}
use Rattle.acc_cluster.specs.declared.cluster.Cluster.{Cluster}
use Rattle.acc_cluster.specs.Entering.{HasPlace, IsPastOf, HasGrown}
use Rattle.acc_cluster.specs.Safe.{most_opened, IsSafe, MayBeTested}
use Rattle.acc_cluster.specs.Tested.{most_in, AreSafe, IsTested, HasTestedPlace}
use Rattle.acc_cluster.specs.Stands.{slot_at}
use Rattle.acc_cluster.proofs.Safe.{safe_more}
use Rattle.acc_cluster.proofs.Taken.{on_ok, within_any}
use Rattle.acc_cluster.proofs.Written.{IsWritten, write_is}

-- by whether a cluster tests
pub by_tests : (X : Type 0) (tests : Bool) → (tests ≡ false → X) → (tests ≡ true → X) → X
by_tests X true untested tested = tested refl
by_tests X false untested tested = untested refl

pub grown_most : (s next : Situation) → length s.own < length next.own → most_in s + 1 ≤ most_in next
grown_most s next longer = omega (arith, longer)

more_with : (s : Situation) (item : Item) → most_in s ≤ most_in (with_item item s)
more_with s item = omega arith

pub at_least : (s : Situation) → most_opened ≤ most_in s
at_least s = omega arith

most_low : (s : Situation) → HasPlace s → most_in s < 2 ^ 62
most_low s place = omega (arith, place)

-- one item more
pub grown_by : (h : History) (s : Situation) (item : Item) → IsPastOf h (with_item item s) → HasGrown h s
grown_by h s item past = record { next = with_item item s; past = past; longer = omega arith }

pub sent_before : (s : Situation) (number : ℕ) (m : Message) → message_at s.own number ≡ Some m → EventTakesSent s (MessageEvent number)
sent_before s number m found = slice_get_within (sent_of s.own) number m found

less_sent : (number n m : ℕ) → nat_lt number n ≡ true → n ≡ m → number < m
less_sent number n m is same = grind (arith, nat_tests)

-- an event that takes one of the first messages, where these are all that were sent
pub sent_below : (s : Situation) (n : ℕ) (event : Event) → takes_below n event ≡ true → n ≡ length (sent_of s.own) → EventTakesSent s event
sent_below s n (Begin txn) is same = tt
sent_below s n (Recover txn) is same = tt
sent_below s n (Slow txn) is same = tt
sent_below s n (MessageEvent number) is same = less_sent number n (length (sent_of s.own)) is same
sent_below s n (Restart kept) is same = tt

module _ {D : Type 0} (port : Ghosts D) (plan : Content) where
  pub placed : (old : Cluster D) → IsTested port plan old → ((s : Situation) → history.StandsFor old.history s → HasPlace s) → HasTestedPlace port plan old
  placed old t place = record { tested = t; place = place t.entered t.past.stands }

  -- no slot has changed
  pub item_tested : (old : Cluster D) (now : History) (item : Item) (r : Result (Unit {0}) RunError)
      → OnOk r ((s : Situation) → IsPastOf old.history s → HasPlace s → IsPastOf now (with_item item s))
      → HasTestedPlace port plan old → OnOk r (IsTested port plan (record { alloc = old.alloc; history = now; slots = old.slots }))
  item_tested old now item r enters t =
      on_ok _ _ r (λ enter. record {
        entered = with_item item t.tested.entered;
        past = enter t.tested.entered t.tested.past t.place;
        safe = λ a. safe_more port plan (most_in t.tested.entered) (most_in (with_item item t.tested.entered)) a (slot_at old.slots.items a) (more_with t.tested.entered item) (t.tested.safe a);
      }) enters

  module _ (old : Cluster D) (a : Actor) (slot : Slot D) (here : slot ≡ slice_index_or old.slots.items a.0 slot) (within : a.0 < length old.slots.items) where
    slot_is : slot ≡ slot_at old.slots.items a
    slot_is = here ∙ within_any old.slots.items a.0 slot Empty within

    -- the actor may be tested
    pub tested_at : HasTestedPlace port plan old → MayBeTested port plan a slot
    tested_at t =
        record {
          most = most_in t.tested.entered;
          low = most_low t.tested.entered t.place;
          safe = subst (λ (x : Slot D). IsSafe port plan (most_in t.tested.entered) a x) (sym slot_is) (t.tested.safe a);
        }

    -- nothing is entered
    pub slot_tested : (new_slot : Slot D) (new : Cluster D) → new.slots.items ≡ set old.slots.items a.0 new_slot → new.history ≡ old.history
        → ((most : ℕ) → IsSafe port plan most a slot → IsSafe port plan most a new_slot) → IsTested port plan old → IsTested port plan new
    slot_tested new_slot new set_is history_is stays t =
        record {
          entered = t.entered;
          past = subst (λ (h : History). IsPastOf h t.entered) (sym history_is) t.past;
          safe = λ b. by b (same_actor a b) refl;
        }
      where
        written : IsWritten old.slots.items new.slots.items a new_slot
        written = write_is old.slots.items new.slots.items a a.0 new_slot refl within set_is

        here_safe : IsSafe port plan (most_in t.entered) a (slot_at new.slots.items a)
        here_safe =
            subst (λ (x : Slot D). IsSafe port plan (most_in t.entered) a x) (sym written.here)
            (stays (most_in t.entered) (subst (λ (x : Slot D). IsSafe port plan (most_in t.entered) a x) (sym slot_is) (t.safe a)))

        by : (b : Actor) (is : Bool) → same_actor a b ≡ is → IsSafe port plan (most_in t.entered) b (slot_at new.slots.items b)
        by b true e = subst (λ (c : Actor). IsSafe port plan (most_in t.entered) c (slot_at new.slots.items c)) (same a b e) here_safe
        by b false e = subst (λ (x : Slot D). IsSafe port plan (most_in t.entered) b x) (sym (written.there b e)) (t.safe b)

    -- and the place for one item more is still there
    pub slot_placed : (new_slot : Slot D) (new : Cluster D) → new.slots.items ≡ set old.slots.items a.0 new_slot → new.history ≡ old.history
        → ((most : ℕ) → IsSafe port plan most a slot → IsSafe port plan most a new_slot) → HasTestedPlace port plan old → HasTestedPlace port plan new
    unfolding slot_tested
    slot_placed new_slot new set_is history_is stays t = record { tested = slot_tested new_slot new set_is history_is stays t.tested; place = t.place }

    module _ (new_slot : Slot D) (new : Cluster D) (set_is : new.slots.items ≡ set old.slots.items a.0 new_slot)
        (stays : (most : ℕ) → most_opened ≤ most → IsSafe port plan most a slot → IsSafe port plan (most + 1) a new_slot) where
      pub step_tested : (t : IsTested port plan old) → HasGrown new.history t.entered → IsTested port plan new
      step_tested t grown =
          record {
            entered = grown.next;
            past = grown.past;
            safe = λ b. by b (same_actor a b) refl;
          }
        where
          written : IsWritten old.slots.items new.slots.items a new_slot
          written = write_is old.slots.items new.slots.items a a.0 new_slot refl within set_is

          more : most_in t.entered + 1 ≤ most_in grown.next
          more = grown_most t.entered grown.next grown.longer

          here_safe : IsSafe port plan (most_in grown.next) a (slot_at new.slots.items a)
          here_safe =
              subst (λ (x : Slot D). IsSafe port plan (most_in grown.next) a x) (sym written.here)
              (safe_more port plan (most_in t.entered + 1) (most_in grown.next) a new_slot more
              (stays (most_in t.entered) (at_least t.entered) (subst (λ (x : Slot D). IsSafe port plan (most_in t.entered) a x) (sym slot_is) (t.safe a))))

          by : (b : Actor) (is : Bool) → same_actor a b ≡ is → IsSafe port plan (most_in grown.next) b (slot_at new.slots.items b)
          by b true e = subst (λ (c : Actor). IsSafe port plan (most_in grown.next) c (slot_at new.slots.items c)) (same a b e) here_safe
          by b false e =
              subst (λ (x : Slot D). IsSafe port plan (most_in grown.next) b x) (sym (written.there b e))
              (safe_more port plan (most_in t.entered) (most_in grown.next) b (slot_at old.slots.items b) (omega (arith, more)) (t.safe b))

      -- a step that enters an entry or a down
      pub taken_tested : (event : Event) → ((s : Situation) → IsPastOf old.history s → EventTakesSent s event) → HasTestedPlace port plan old → (r : Result (Unit {0}) RunError)
          → OnOk r ((s : Situation) → IsPastOf old.history s → HasPlace s → EventTakesSent s event → HasGrown new.history s) → OnOk r (IsTested port plan new)
      taken_tested event sent t r grown =
          on_ok _ _ r (λ grow. step_tested t.tested (grow t.tested.entered t.tested.past t.place (sent t.tested.entered t.tested.past))) grown

  -- a drop
  pub drop_tested : (old : Cluster D) (now : History) (number : ℕ)
      → ((s : Situation) → history.StandsFor old.history s → number < length (sent_of s.own))
      → ((s : Situation) → history.StandsFor old.history s → number < length (sent_of s.own) → history.StandsFor now (with_dropped number s))
      → ((s : Situation) → history.IsWeighed old.history s → history.IsWeighed now (with_dropped number s))
      → IsTested port plan old → IsTested port plan (record { alloc = old.alloc; history = now; slots = old.slots })
  drop_tested old now number sent stands weighed t =
      record {
        entered = with_dropped number t.entered;
        past = record {
          stands = stands t.entered t.past.stands (sent t.entered t.past.stands);
          weighed = weighed t.entered t.past.weighed;
          within = t.past.within;
        };
        safe = t.safe;
      }

  -- an actor was opened again, and what that makes of the items was entered
  pub reopened_tested : (old new : Cluster D) (t : IsTested port plan old) → AreSafe port plan (most_in t.entered + 1) new.slots.items → HasGrown new.history t.entered → IsTested port plan new
  reopened_tested old new t safe grown =
      record {
        entered = grown.next;
        past = grown.past;
        safe = λ a. safe_more port plan (most_in t.entered + 1) (most_in grown.next) a (slot_at new.slots.items a) (grown_most t.entered grown.next grown.longer) (safe a);
      }

  -- a slot that was emptied and filled again
  pub written_twice : (before : List (Slot D)) (a : Actor) (left slot : Slot D) → a.0 < length before → IsWritten before (set (set before a.0 left) a.0 slot) a slot
  written_twice before a left slot within =
      let one = write_is before (set before a.0 left) a a.0 left refl within refl in
      let two =
      write_is (set before a.0 left) (set (set before a.0 left) a.0 slot) a a.0 slot refl (subst (λ (n : ℕ). a.0 < n) (sym (length-set before a.0 left)) within) refl in
      record { here = two.here; there = λ b e. two.there b e ∙ one.there b e }

  -- the slots once one of them was opened again
  pub slots_reopened : {E T : Type 0} (before now : List (Slot D)) (a : Actor) (slot new_slot : Slot D) (r : Result T E) → a.0 < length before
      → IsWritten before now a new_slot → slot ≡ slot_at before a
      → OnOk r ((most : ℕ) → most_opened ≤ most → IsSafe port plan most a slot → IsSafe port plan (most + 1) a new_slot)
      → OnOk r ((most : ℕ) → most_opened ≤ most → AreSafe port plan most before → AreSafe port plan (most + 1) now)
  slots_reopened before now a slot new_slot r within written is stays =
      on_ok _ _ r (λ stay most least safe b. by most (stay most least (subst (λ (x : Slot D). IsSafe port plan most a x) (sym is) (safe a))) safe b (same_actor a b) refl) stays
    where
      by : (most : ℕ) → IsSafe port plan (most + 1) a new_slot → AreSafe port plan most before → (b : Actor) (t : Bool) → same_actor a b ≡ t → IsSafe port plan (most + 1) b (slot_at now b)
      by most here safe b true e =
          subst (λ (c : Actor). IsSafe port plan (most + 1) c (slot_at now c)) (same a b e) (subst (λ (x : Slot D). IsSafe port plan (most + 1) a x) (sym written.here) here)
      by most here safe b false e =
          subst (λ (x : Slot D). IsSafe port plan (most + 1) b x) (sym (written.there b e)) (safe_more port plan most (most + 1) b (slot_at before b) (omega arith) (safe b))

  -- what was kept, once it was tested
  pub kept_takes : (s : Situation) (h : History) (kept : List Unsent) → history.StandsFor h s
      → AllByRecursion (CanBeEntered h) kept
      → AllByRecursion (λ (unsent : Unsent). EventTakesSent s unsent.event) kept
  kept_takes s h [] stands all = tt
  kept_takes s h (unsent ∷ kept) stands all = (all.0.takes s stands, kept_takes s h kept stands all.1)

  pub kept_sends : (s : Situation) (h : History) (a : Actor) (kept : List Unsent)
      → AllByRecursion (CanBeEntered h) kept
      → AreSendableBehind a kept s
  kept_sends s h a [] all = tt
  kept_sends s h a (unsent ∷ kept) all = (λ place. all.0.sends, kept_sends (with_item (lost_item a unsent) s) h a kept all.1)

  -- what was kept can be entered after the items, once it was tested
  pub kept_back : (before now : History) (a : Actor) (kept : List Unsent) (s : Situation) → now ≡ before → IsPastOf before s → HasPlace s
      → AllByRecursion (CanBeEntered now) kept
      → CanComeBack now a kept s
  kept_back before now a kept s same_history past place tested =
      let there : IsPastOf now s = subst (λ (h : History). IsPastOf h s) (sym same_history) past in
      record { past = there; place = place; taken = kept_takes s now kept there.stands tested }

-- what was kept makes the items no fewer
pub lost_longer : (a : Actor) (kept : List Unsent) (s : Situation) → length s.own ≤ length (with_lost a kept s).own
lost_longer a [] s = omega arith
lost_longer a (unsent ∷ kept) s =
    let rest : length (with_item (lost_item a unsent) s).own ≤ length (with_lost a kept (with_item (lost_item a unsent) s)).own = lost_longer a kept (with_item (lost_item a unsent) s) in
    omega (arith, rest)

-- with the restart they are more
pub restart_grown : (cluster : RunCluster) (a : Actor) (kept : List Unsent) (count : ℕ) (s : Situation) (h : History)
    → IsPastOf h (entered cluster (with_lost a kept s) a (Restart count) false) → HasGrown h s
restart_grown cluster a kept count s h past =
    let rest : length s.own ≤ length (with_lost a kept s).own = lost_longer a kept s in
    record { next = entered cluster (with_lost a kept s) a (Restart count) false; past = past; longer = omega (arith, rest) }

-- one more of them
pub all_next : {T : Type 0} (P : T → Type 0) (xs : List T) (i : ℕ) (d : T) → i < length xs → AllByRecursion P (take i xs) → P (get_or xs i d)
    → AllByRecursion P (take (i + 1) xs)
all_next P xs i d low all one =
    subst (AllByRecursion P) (sym (take_more xs i d low)) (each_append P (take i xs) (get_or xs i d ∷ []) all (one, tt))

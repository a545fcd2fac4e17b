-- What a restart enters, and the limits that end it.
use Rattle.std.proofs.Common.{◌≡◌, ℕ, suc, ◌<◌, ◌≤◌, true, false, IsTrue, List, [], ◌∷◌, ◌++◌, length, length-append, Option, None, Some, Result, Ok, Err, OnOk, IfErr, IsErrAnd, refl, sym, ◌∙◌, ap, subst, inr, arith}
use Rattle.std.proofs.lemmas.Bool.{and_from}
use Rattle.std.proofs.lemmas.List.{append_assoc}
use Rattle.std.proofs.lemmas.List.Folds.{list_all-append}
use Rattle.std.proofs.lemmas.Option.{slice_get_within}
use Rattle.std.proofs.lemmas.Result.{on_ok_weaker, IfErr-weaker}
use Rattle.std.specs.List.{AllByRecursion, list_all}
use Rattle.std.specs.Option.{option_map}
use Rattle.acc_stamp.specs.declared.actors.Actor.{Actor}
use Rattle.acc_stamp.proofs.Rising.{each_weaker}
use Rattle.acc_message.specs.declared.message.Message.{Message}
use Rattle.acc_message.specs.declared.entry.Emitted.{Emitted}
use Rattle.acc_message.specs.declared.entry.Event.{Event}
use Rattle.acc_message.specs.declared.entry.Event.TheVariants.{Begin, Recover, Slow, Message as TakesMessage, Restart}
use Rattle.acc_message.specs.declared.error.Which.{Which}
use Rattle.acc_message.specs.declared.error.Which.TheVariants.{Items}
use Rattle.acc_message.specs.declared.error.RunError.{RunError}
use Rattle.acc_message.specs.declared.error.RunError.TheVariants.{Limit, OutOfMemory}
use Rattle.acc_message.specs.declared.item.Item.{Item}
use Rattle.acc_message.specs.Items.{sent_of, sent_in, message_at}
use Rattle.acc_message.specs.NodeRules.{Act, Takes}
use Rattle.acc_message.specs.Run.{Cluster, act_of}
use Rattle.acc_message.specs.Coordinator.{silence}
use Rattle.acc_actor_laws.proofs.Standing.{not_none}
use Rattle.acc_run_laws.specs.Sends.{HasFewBodies, AreSendable}
use Rattle.acc_run_laws.proofs.Everywhere.{all_from}
use Rattle.acc_message_code.specs.Short.{IsShortMessage}
use Rattle.acc_safety.specs.Valid.{IsStanding}
use Rattle.acc_safety.proofs.PlaceOrder.{none_is_in}
use Rattle.acc_run_laws.proofs.Sendable.{next_sendable}
use Rattle.acc_run_laws.specs.Asks.{emits_if}
use Rattle.acc_payloads.specs.Stops.{some}
use Rattle.acc_payloads.specs.declared.stops.Unsent.{Unsent}
use Rattle.acc_pasts.specs.Stopped.{CanGoOn, CanAllGoOn, IsSound}
use Rattle.acc_pasts.proofs.Situations.{message_whole}
use Rattle.acc_pasts.proofs.Standing.{may_do}
use Rattle.acc_pasts.proofs.Replayed.{restart_emits}
use Rattle.acc_pasts.proofs.Sound.{sound_standing}
use Rattle.acc_schedule_runs.specs.Situations.{Situation, whole, without, is_lost}
use Rattle.acc_schedule_runs.specs.Moves.{with_item, with_stopped, event_in, entry_of, entered, kept_if, with_kept}
use Rattle.acc_schedule_runs.specs.Limits.{EndsAt, most_items}
use Rattle.acc_schedule_runs.specs.Fronts.{Begins}
use Rattle.acc_history.specs.declared.history.History.{History}
use Rattle.acc_history.specs.Stands.{EventTakesSent}
use Rattle.acc_history.specs.Stands as history
use Rattle.acc_history.proofs.Stopped.{stands_stopped}
use Rattle.acc_actors.specs.Asked.{HasRoom, AreSteps, AreKeptSteps}
use Rattle.acc_actors.proofs.Few.{few_whole}
use Rattle.acc_actors.proofs.RestartPasts.{AllMay, all_may, standing_on, kept_can, kept_steps}
use Rattle.acc_cluster.specs.Entering.{HasPlace, IsPastOf, step_item}
use Rattle.acc_cluster.specs.Steps.{IfLimit}
use Rattle.acc_cluster.specs.Restarting.{lost_item, with_lost, AreSendableBehind, CanComeBack, AreMissing, EndsInLost, come_up, EndsInRestart}
use Rattle.acc_cluster.proofs.Room.{few_placed}
use Rattle.acc_cluster.proofs.Filled.{all_seam}

-- ---- the restart itself

nothing_sendable : AreSendable []
nothing_sendable = record { short = all_from IsShortMessage [] (λ m there. absurd (none_is_in m there)); weight = omega arith }

pub silence_sendable : (messages : List Message) → messages ≡ [] → AreSendable messages
silence_sendable messages is = subst AreSendable (sym is) nothing_sendable

-- its actor emits nothing
pub silent : (cluster : Cluster) (s : Situation) (a : Actor) (count : ℕ) → step_item a (Restart count) silence false ≡ entry_of cluster s a (Restart count) false
silent cluster s a count = ap (λ (e : Emitted). step_item a (Restart count) e false) (sym (restart_emits cluster (whole s) a))

pub past_entered : (h : History) (cluster : Cluster) (s : Situation) (a : Actor) (count : ℕ) (emitted : Emitted) → emitted ≡ silence
    → IsPastOf h (with_item (step_item a (Restart count) emitted false) s) → IsPastOf h (entered cluster s a (Restart count) false)
past_entered h cluster s a count emitted is past =
    subst (λ item. IsPastOf h (with_item item s)) (ap (λ (e : Emitted). step_item a (Restart count) e false) is ∙ silent cluster s a count) past

pub ends_entered : (cluster : Cluster) (s : Situation) (a : Actor) (count : ℕ) (emitted : Emitted) (which : Which) (limit : ℕ) → emitted ≡ silence
    → EndsAt (λ front. front ≡ step_item a (Restart count) emitted false ∷ s.own) s.own which limit
    → EndsAt (λ front. front ≡ (entered cluster s a (Restart count) false).own) s.own which limit
ends_entered cluster s a count emitted which limit is ends =
    subst (λ (item : Item). EndsAt (λ front. front ≡ item ∷ s.own) s.own which limit)
    (ap (λ (e : Emitted). step_item a (Restart count) e false) is ∙ silent cluster s a count) ends

-- ---- what was kept

-- a message that its step took is one of those that the cluster sent
took_sent : (cluster : Cluster) (s : Situation) (event : Event) (act : Act) → act_of cluster (whole s) (event_in s event) ≡ Some act → EventTakesSent s event
took_sent cluster s (Begin txn) act is = tt
took_sent cluster s (Recover txn) act is = tt
took_sent cluster s (Slow txn) act is = tt
took_sent cluster s (TakesMessage number) act is = by (message_at s.own number) refl
  where
    by : (o : Option Message) → message_at s.own number ≡ o → number < length (sent_of s.own)
    by None none = absurd (not_none act (sym (ap (option_map Takes) (message_whole s number ∙ none)) ∙ is))
    by (Some m) found = slice_get_within (sent_of s.own) number m found
took_sent cluster s (Restart kept) act is = tt

-- all of them
all_sent : (cluster : Cluster) (s : Situation) (a : Actor) (events : List Event) → CanAllGoOn cluster s a events → AllByRecursion (λ (event : Event). EventTakesSent s event) events
all_sent cluster s a events can = each_weaker _ _ events (λ event (h : CanGoOn cluster (whole s) a (event_in s event)). took_sent cluster s event h.act h.may.act_is) can.0

steps_sent : (cluster : Cluster) (s : Situation) (a : Actor) (events : List Event) (behind : Situation) (kept : List Unsent) → AreSteps cluster behind a events true kept
    → AllByRecursion (λ (event : Event). EventTakesSent s event) events → AllByRecursion (λ (unsent : Unsent). EventTakesSent s unsent.event) kept
steps_sent cluster s a [] behind [] steps sent = tt
steps_sent cluster s a [] behind (unsent ∷ others) steps sent = absurd steps
steps_sent cluster s a (event ∷ events) behind [] steps sent = tt
steps_sent cluster s a (event ∷ events) behind (unsent ∷ others) steps sent = (
  subst (λ (e : Event). EventTakesSent s e) (sym steps.0) sent.0,
  steps_sent cluster s a events (entered cluster behind a event true) others steps.2 sent.1,
)

lost_is : (cluster : Cluster) (s : Situation) (a : Actor) (event : Event) (unsent : Unsent) → unsent.event ≡ event
    → unsent.emitted ≡ emits_if cluster (whole s) a (act_of cluster (whole s) (event_in s event)) → lost_item a unsent ≡ entry_of cluster s a event true
lost_is cluster s a event unsent same emits = ap (λ (e : Event). step_item a e unsent.emitted true) same ∙ ap (λ (m : Emitted). step_item a event m true) emits

-- what was kept, entered as lost, is what comes back
lost_all : (cluster : Cluster) (a : Actor) (events : List Event) (s : Situation) (kept : List Unsent) → AreSteps cluster s a events true kept
    → (with_lost a kept s ≡ with_kept cluster s a events) × (length kept ≡ length events)
lost_all cluster a [] s [] steps = (refl, refl)
lost_all cluster a [] s (unsent ∷ others) steps = absurd steps
lost_all cluster a (event ∷ events) s [] steps = absurd steps
lost_all cluster a (event ∷ events) s (unsent ∷ others) steps =
    let rest = lost_all cluster a events (entered cluster s a event true) others steps.2 in (
      ap (λ (item : Item). with_lost a others (with_item item s)) (lost_is cluster s a event unsent steps.0 steps.1) ∙ rest.0,
      ap suc rest.1,
    )

steps_sendable : (cluster : Cluster) (a : Actor) (events : List Event) (s : Situation) (kept : List Unsent) → HasFewBodies cluster → HasRoom s → IsStanding cluster (whole s)
    → AllMay cluster s a events true
    → AreSteps cluster s a events true kept → AreSendableBehind a kept s
steps_sendable cluster a [] s [] bodies room standing may steps = tt
steps_sendable cluster a [] s (unsent ∷ others) bodies room standing may steps = absurd steps
steps_sendable cluster a (event ∷ events) s [] bodies room standing may steps = tt
steps_sendable cluster a (event ∷ events) s (unsent ∷ others) bodies room standing may steps = (
  λ place. subst (λ (e : Emitted). AreSendable e.out) (sym (steps.1 ∙ ap (emits_if cluster (whole s) a) may.0.1.act_is))
      (next_sendable cluster (whole s) a may.0.0 standing (may_do cluster (whole s) a (event_in s event) may.0.0 may.0.1) bodies (few_whole s (few_placed s room place))),
  subst (λ (item : Item). AreSendableBehind a others (with_item item s)) (sym (lost_is cluster s a event unsent steps.0 steps.1))
      (steps_sendable cluster a events (entered cluster s a event true) others bodies room (standing_on cluster a s event may.0.0 true may.0.1 standing) may.1 steps.2),
)

module _ (cluster : Cluster) (s : Situation) (a : Actor) (sound : IsSound cluster s) (kept : List Unsent) (are : AreKeptSteps cluster s a kept) where
  abbrev events : List Event
  events = kept_if (some kept) a s

  steps : AreSteps cluster s a events true kept
  steps = kept_steps cluster s a kept are

  can : CanAllGoOn cluster s a events
  can = kept_can cluster s a (some kept) sound

  pub kept_sent : AllByRecursion (λ (unsent : Unsent). EventTakesSent s unsent.event) kept
  kept_sent = steps_sent cluster s a events s kept steps (all_sent cluster s a events can)

  pub kept_sendable : HasRoom s → AreSendableBehind a kept s
  kept_sendable room = steps_sendable cluster a events s kept sound.few_bodies room (sound_standing cluster s sound) (all_may cluster a events s can) steps

  -- ---- the situation behind the restart

  abbrev between : Situation
  between = with_lost a kept s

  abbrev behind : Situation
  behind = entered cluster between a (Restart (length kept)) false

  reopened_is : with_stopped (without a s.stopped) behind ≡ come_up cluster s a kept
  reopened_is =
      let all = lost_all cluster a events s kept steps in
      ap (λ (x : Situation). with_stopped (without a s.stopped) (entered cluster x a (Restart (length kept)) false)) all.0
      ∙ ap (λ n. with_stopped (without a s.stopped) (entered cluster (with_kept cluster s a events) a (Restart n) false)) all.1

  pub past_up : (h : History) → IsPastOf h behind → IsPastOf h (come_up cluster s a kept)
  past_up h past =
      subst (λ (x : Situation). IsPastOf h x) reopened_is
      (record { stands = stands_stopped past.stands (without a s.stopped); weighed = past.weighed; within = past.within })

  own_is : behind.own ≡ (come_up cluster s a kept).own
  own_is = ap (λ (x : Situation). x.own) reopened_is

  -- a limit ends it before an entry that is lost, or before the restart
  pub ends_kept : (h : History) (which : Which) (limit : ℕ) → EndsInLost h s a kept which limit → EndsInRestart h cluster s a kept which limit
  ends_kept h which limit told =
      let last : Item = entry_of cluster between a (Restart (length kept)) false in record {
        entered = told.entered;
        past = told.past;
        ahead = inr (last, told.ahead.missing, sym own_is ∙ ap (λ (own : List Item). last ∷ own) told.ahead.all_are, told.ahead.lost);
        ends = subst (λ (own : List Item). EndsAt (λ front. Begins front own) told.entered.own which limit) own_is (told.ends last);
      }

  pub ends_up : (h : History) → IsPastOf h between → (which : Which) (limit : ℕ) → EndsAt (λ front. front ≡ behind.own) between.own which limit → EndsInRestart h cluster s a kept which limit
  ends_up h past which limit ends =
      record {
        entered = between;
        past = past;
        ahead = inr (entry_of cluster between a (Restart (length kept)) false, [], sym own_is, refl);
        ends = record { next = ends.next; front = record { later = []; items_are = sym own_is ∙ sym ends.front }; within = ends.within; passed = ends.passed };
      }

-- ---- one entry that is lost

above : (n : ℕ) → most_items ≤ n → most_items < suc n
above n high = omega (arith, high)

module _ (s : Situation) (a : Actor) (unsent : Unsent) where
  ends_before : (h : History) → IsPastOf h s → (which : Which) (limit : ℕ) → EndsAt (λ front. front ≡ lost_item a unsent ∷ s.own) s.own which limit
      → EndsInLost h s a (unsent ∷ []) which limit
  ends_before h past which limit ends =
      record {
        entered = s;
        past = past;
        ahead = record { missing = lost_item a unsent ∷ []; all_are = refl; lost = refl };
        ends = λ next.
            record { next = ends.next; front = record { later = next ∷ []; items_are = ap (λ (l : List Item). next ∷ l) (sym ends.front) }; within = ends.within; passed = ends.passed };
      }

  ends_full : (h : History) → IsPastOf h (with_item (lost_item a unsent) s) → most_items ≤ length (lost_item a unsent ∷ s.own) → EndsInLost h s a (unsent ∷ []) Items most_items
  ends_full h past full =
      record {
        entered = with_item (lost_item a unsent) s;
        past = past;
        ahead = record { missing = []; all_are = refl; lost = refl };
        ends = λ next.
            record { next = next; front = record { later = []; items_are = refl }; within = past.within; passed = (refl, above (length (lost_item a unsent ∷ s.own)) full) };
      }

-- ---- one behind another

all_lost : (items others : List Item) → IsTrue (list_all is_lost items) → IsTrue (list_all is_lost others) → IsTrue (list_all is_lost (items ++ others))
all_lost items others h more = list_all-append is_lost items others ∙ and_from (list_all is_lost items) (list_all is_lost others) h more

module _ (a : Actor) where
  lost_on : (before after : List Unsent) (s : Situation) → with_lost a (before ++ after) s ≡ with_lost a after (with_lost a before s)
  lost_on [] after s = refl
  lost_on (unsent ∷ before) after s = lost_on before after (with_item (lost_item a unsent) s)

  -- what comes behind them, down to the first of it
  abbrev LaterItems : List Unsent → Situation → Item → Type 0
  LaterItems others s next = (first : Item) × (later : List Item) × (next ∷ (with_lost a others s).own ≡ later ++ first ∷ s.own)

  later_items : (others : List Unsent) (s : Situation) (next : Item) → LaterItems others s next
  later_items [] s next = (next, [], refl)
  later_items (unsent ∷ others) s next =
      let rest = later_items others (with_item (lost_item a unsent) s) next in
      (lost_item a unsent, rest.1 ++ rest.0 ∷ [], rest.2 ∙ sym (append_assoc rest.1 (rest.0 ∷ []) (lost_item a unsent ∷ s.own)))

  -- the lost entries of others are missing
  missing_others : (others : List Unsent) (s : Situation) → AreMissing s.own (with_lost a others s).own
  missing_others [] s = record { missing = []; all_are = refl; lost = refl }
  missing_others (unsent ∷ others) s =
      let rest = missing_others others (with_item (lost_item a unsent) s) in
      record {
        missing = rest.missing ++ lost_item a unsent ∷ [];
        all_are = rest.all_are ∙ sym (append_assoc rest.missing (lost_item a unsent ∷ []) s.own);
        lost = all_lost rest.missing (lost_item a unsent ∷ []) rest.lost refl;
      }

  pub ends_among : (h : History) (before : List Unsent) (unsent : Unsent) (others : List Unsent) (s : Situation) (which : Which) (limit : ℕ)
      → EndsInLost h (with_lost a before s) a (unsent ∷ []) which limit → EndsInLost h s a (before ++ unsent ∷ others) which limit
  ends_among h before unsent others s which limit told =
      let here : Situation = with_item (lost_item a unsent) (with_lost a before s) in
      let more = missing_others others here in
      record {
        entered = told.entered;
        past = told.past;
        ahead = record {
          missing = more.missing ++ told.ahead.missing;
          all_are =
              ap (λ (x : Situation). x.own) (lost_on before (unsent ∷ others) s) ∙ more.all_are
              ∙ ap (λ (l : List Item). more.missing ++ l) told.ahead.all_are
              ∙ sym (append_assoc more.missing told.ahead.missing told.entered.own);
          lost = all_lost more.missing told.ahead.missing more.lost told.ahead.lost;
        };
        ends = λ next.
            let rest = later_items others here next in
            let found = told.ends rest.0 in
            let front = found.front in record {
              next = found.next;
              front = record {
                later = rest.1 ++ front.later;
                items_are =
                    ap (λ (x : Situation). next ∷ x.own) (lost_on before (unsent ∷ others) s) ∙ rest.2
                    ∙ ap (λ (l : List Item). rest.1 ++ l) front.items_are
                    ∙ sym (append_assoc rest.1 front.later (found.next ∷ told.entered.own));
              };
              within = found.within;
              passed = found.passed;
            };
      }

  sent_more : (s : Situation) (item : Item) (event : Event) → EventTakesSent s event → EventTakesSent (with_item item s) event
  sent_more s item (Begin txn) h = tt
  sent_more s item (Recover txn) h = tt
  sent_more s item (Slow txn) h = tt
  sent_more s item (TakesMessage number) h = let more = length-append (sent_of s.own) (sent_in item) in omega (arith, h, more)
  sent_more s item (Restart kept) h = tt

  sent_behind : (before : List Unsent) (s : Situation) (event : Event) → EventTakesSent s event → EventTakesSent (with_lost a before s) event
  sent_behind [] s event h = h
  sent_behind (unsent ∷ before) s event h = sent_behind before (with_item (lost_item a unsent) s) event (sent_more s (lost_item a unsent) event h)

  pub sendable_at : (before : List Unsent) (unsent : Unsent) (after : List Unsent) (s : Situation) → AreSendableBehind a (before ++ unsent ∷ after) s
      → HasPlace (with_lost a before s) → AreSendable unsent.emitted.out
  sendable_at [] unsent after s h = h.0
  sendable_at (first ∷ before) unsent after s h = sendable_at before unsent after (with_item (lost_item a first) s) h.1

  -- with one more
  pub lost_more : (before : List Unsent) (unsent : Unsent) (after : List Unsent) (s : Situation) (old middle now : History)
      → CanComeBack old a (before ++ unsent ∷ after) s → IsPastOf middle (with_lost a before s) × HasPlace (with_lost a before s)
      → ((s : Situation) → IsPastOf middle s → HasPlace s → EventTakesSent s unsent.event → IsPastOf now (with_item (lost_item a unsent) s) × HasPlace (with_item (lost_item a unsent) s))
      → IsPastOf now (with_lost a (before ++ unsent ∷ []) s) × HasPlace (with_lost a (before ++ unsent ∷ []) s)
  lost_more before unsent after s old middle now come was enters =
      subst (λ (x : Situation). IsPastOf now x × HasPlace x) (sym (lost_on before (unsent ∷ []) s))
      (enters (with_lost a before s) was.0 was.1 (sent_behind before s unsent.event (all_seam (λ (u : Unsent). EventTakesSent s u.event) before unsent after come.taken)))

  pub sent_at : (before : List Unsent) (unsent : Unsent) (after : List Unsent) (s : Situation) (old : History) → CanComeBack old a (before ++ unsent ∷ after) s
      → EventTakesSent (with_lost a before s) unsent.event
  sent_at before unsent after s old come = sent_behind before s unsent.event (all_seam (λ (u : Unsent). EventTakesSent s u.event) before unsent after come.taken)

-- ---- from what the calls ensure

pub limit_weaker : (P Q : Which → ℕ → Type 0) (e : RunError) → ((which : Which) (limit : ℕ) → P which limit → Q which limit) → IfLimit P e → IfLimit Q e
limit_weaker P Q (Limit which limit) f h = f which limit h
limit_weaker P Q OutOfMemory f h = tt

-- by two facts
pub limits_weaker : (P R Q : Which → ℕ → Type 0) (e : RunError) → ((which : Which) (limit : ℕ) → P which limit → R which limit → Q which limit)
    → IfLimit P e → IfLimit R e → IfLimit Q e
limits_weaker P R Q (Limit which limit) f h k = f which limit h k
limits_weaker P R Q OutOfMemory f h k = tt

pub if_limits : {T : Type 0} (r : Result T RunError) (P R Q : Which → ℕ → Type 0) → ((which : Which) (limit : ℕ) → P which limit → R which limit → Q which limit)
    → IfErr r (IfLimit P) → IfErr r (IfLimit R) → IfErr r (IfLimit Q)
if_limits (Ok x) P R Q f h k = tt
if_limits (Err e) P R Q f h k = limits_weaker P R Q e f h k

-- what the exit of a `?` returns
pub on_err : {T : Type 0} (r : Result T RunError) (e : RunError) (P : RunError → Type 0) → IsErrAnd r (λ y. y ≡ e) → P e → IfErr r P
on_err (Ok x) e P is h = absurd is
on_err (Err y) e P is h = subst P (sym is) h

-- ---- one entry

abbrev pub EntersLost : History → History → Actor → Unsent → Type 0
EntersLost before now a unsent =
    (s : Situation) → IsPastOf before s → HasPlace s → EventTakesSent s unsent.event → IsPastOf now (with_item (lost_item a unsent) s) × HasPlace (with_item (lost_item a unsent) s)

abbrev pub EndsLost : History → History → Actor → List Unsent → Unsent → Which → ℕ → Type 0
EndsLost before now a kept unsent which limit = (s : Situation) → IsPastOf before s → HasPlace s → EventTakesSent s unsent.event → EndsInLost now s a kept which limit

module _ {T : Type 0} (r : Result T RunError) (before middle : History) (a : Actor) (unsent : Unsent) where
  -- no place for what is lost
  pub lost_ends : (e : RunError) → IsErrAnd r (λ y. y ≡ e)
      → IfLimit (λ which limit. (s : Situation) → IsPastOf before s → HasPlace s → EndsAt (λ front. front ≡ step_item a unsent.event unsent.emitted true ∷ s.own) s.own which limit) e
      → IfLimit (λ which limit. middle ≡ before) e → IfErr r (IfLimit (EndsLost before middle a (unsent ∷ []) unsent))
  lost_ends e is told same =
      on_err r e (IfLimit (EndsLost before middle a (unsent ∷ []) unsent)) is
      (limits_weaker _ _ (EndsLost before middle a (unsent ∷ []) unsent) e
      (λ which limit h as_before. λ s past place sent.
      ends_before s a unsent middle (subst (λ (x : History). IsPastOf x s) (sym as_before) past) which limit (h s past place)) told same)

  module _ (enters : (s : Situation) → IsPastOf before s → HasPlace s → EventTakesSent s unsent.event → IsPastOf middle (with_item (step_item a unsent.event unsent.emitted true) s)) where
    -- or none behind it
    pub full_ends : IfErr r (λ e. (e ≡ Limit Items most_items) × ((s : Situation) → history.StandsFor middle s → most_items ≤ length s.own)) → IfErr r (IfLimit (EndsLost before middle a (unsent ∷ []) unsent))
    full_ends =
        IfErr-weaker r _ (IfLimit (EndsLost before middle a (unsent ∷ []) unsent))
        (λ e (told : (e ≡ Limit Items most_items) × ((s : Situation) → history.StandsFor middle s → most_items ≤ length s.own)).
        subst (IfLimit (EndsLost before middle a (unsent ∷ []) unsent)) (sym told.0)
        (λ s past place sent.
        let mid = enters s past place sent in
        ends_full s a unsent middle mid (told.1 (with_item (lost_item a unsent) s) mid.stands)))

    pub lost_enters : OnOk r ((s : Situation) → history.StandsFor middle s → HasPlace s) → OnOk r (EntersLost before middle a unsent)
    lost_enters =
        on_ok_weaker r
        (λ placed s past place sent.
        let mid = enters s past place sent in
        (mid, placed (with_item (lost_item a unsent) s) mid.stands))

-- ---- one behind another, as a loop makes them

module _ (a : Actor) where
  abbrev pub HasEntered : List Unsent → List Unsent → History → History → Type 0
  HasEntered done kept old now = (s : Situation) → CanComeBack old a kept s → IsPastOf now (with_lost a done s) × HasPlace (with_lost a done s)

  pub lost_begins : (kept : List Unsent) (old : History) → HasEntered [] kept old old
  lost_begins kept old s come = (come.past, come.place)

  pub lost_all_in : (done kept : List Unsent) (old now : History) → done ≡ kept → HasEntered done kept old now → HasEntered kept kept old now
  lost_all_in done kept old now is entered = subst (λ (all : List Unsent). HasEntered all kept old now) is entered

  module _ (done : List Unsent) (unsent : Unsent) (after kept : List Unsent) (old middle : History) (seam : done ++ unsent ∷ after ≡ kept) (was : HasEntered done kept old middle) where
    parted : (s : Situation) → CanComeBack old a kept s → CanComeBack old a (done ++ unsent ∷ after) s
    parted s come = subst (λ (all : List Unsent). CanComeBack old a all s) (sym seam) come

    pub lost_sendable : (s : Situation) × CanComeBack old a kept s × AreSendableBehind a kept s → AreSendable unsent.emitted.out
    lost_sendable back =
        sendable_at a done unsent after back.0 (subst (λ (all : List Unsent). AreSendableBehind a all back.0) (sym seam) back.2) (was back.0 back.1).1

    pub lost_goes_on : (now : History) → EntersLost middle now a unsent → HasEntered (done ++ unsent ∷ []) kept old now
    lost_goes_on now enters s come = lost_more a done unsent after s old middle now (parted s come) (was s come) enters

    pub lost_ends_among : (now : History) {T : Type 0} (r : Result T RunError) (e : RunError) → IsErrAnd r (λ y. y ≡ e) → IfLimit (EndsLost middle now a (unsent ∷ []) unsent) e
        → IfErr r (IfLimit (λ which limit. (s : Situation) → CanComeBack old a kept s → EndsInLost now s a kept which limit))
    lost_ends_among now r e is told =
        on_err r e (IfLimit (λ which limit. (s : Situation) → CanComeBack old a kept s → EndsInLost now s a kept which limit)) is
        (limit_weaker (EndsLost middle now a (unsent ∷ []) unsent) (λ which limit. (s : Situation) → CanComeBack old a kept s → EndsInLost now s a kept which limit) e
        (λ which limit (h : EndsLost middle now a (unsent ∷ []) unsent which limit). λ s come.
        let here = was s come in
        subst (λ (all : List Unsent). EndsInLost now s a all which limit) seam
        (ends_among a now done unsent after s which limit (h (with_lost a done s) here.0 here.1 (sent_at a done unsent after s old (parted s come))))) told)

-- ---- all of them, and the restart

-- the history stands for what comes, where this was kept
abbrev pub Enters : History → History → Actor → List Unsent → Type 0
Enters before now a kept =
    (cluster : Cluster) (s : Situation) → IsSound cluster s → IsPastOf before s → HasPlace s → AreKeptSteps cluster s a kept → IsPastOf now (come_up cluster s a kept)

abbrev pub Ends : History → History → Actor → List Unsent → Which → ℕ → Type 0
Ends before now a kept which limit =
    (cluster : Cluster) (s : Situation) → IsSound cluster s → IsPastOf before s → HasPlace s → AreKeptSteps cluster s a kept → EndsInRestart now cluster s a kept which limit

abbrev pub EntersRestart : History → History → Actor → ℕ → Type 0
EntersRestart before now a count = (cluster : Cluster) (s : Situation) → IsPastOf before s → HasPlace s → IsPastOf now (entered cluster s a (Restart count) false)

abbrev pub EndsRestart : History → Actor → ℕ → Which → ℕ → Type 0
EndsRestart before a count which limit =
    (cluster : Cluster) (s : Situation) → IsPastOf before s → HasPlace s → EndsAt (λ front. front ≡ (entered cluster s a (Restart count) false).own) s.own which limit

module _ {T : Type 0} (r : Result T RunError) (before middle now : History) (a : Actor) (kept : List Unsent) where
  come_back : (cluster : Cluster) (s : Situation) → IsSound cluster s → IsPastOf before s → HasPlace s → AreKeptSteps cluster s a kept → CanComeBack before a kept s
  come_back cluster s sound past place are = record { past = past; place = place; taken = kept_sent cluster s a sound kept are }

  -- no place for one that is lost
  pub kept_ends : (e : RunError) → IsErrAnd r (λ y. y ≡ e) → IfLimit (λ which limit. (s : Situation) → CanComeBack before a kept s → EndsInLost now s a kept which limit) e
      → IfErr r (IfLimit (Ends before now a kept))
  kept_ends e is told =
      on_err r e (IfLimit (Ends before now a kept)) is
      (limit_weaker _ (Ends before now a kept) e
      (λ which limit h. λ cluster s sound past place are. ends_kept cluster s a sound kept are now which limit (h s (come_back cluster s sound past place are))) told)

  module _ (count : ℕ) (count_is : count ≡ length kept)
      (enters : (s : Situation) → CanComeBack before a kept s → IsPastOf middle (with_lost a kept s) × HasPlace (with_lost a kept s)) where
    pub up_enters : OnOk r (EntersRestart middle now a count) → OnOk r (Enters before now a kept)
    up_enters =
        on_ok_weaker r
        (λ (told : EntersRestart middle now a count) cluster s sound past place are.
        let mid = enters s (come_back cluster s sound past place are) in
        past_up cluster s a sound kept are now (subst (λ n. IsPastOf now (entered cluster (with_lost a kept s) a (Restart n) false)) count_is (told cluster (with_lost a kept s) mid.0 mid.1)))

    pub up_ends : IfErr r (IfLimit (λ which limit. now ≡ middle)) → IfErr r (IfLimit (EndsRestart middle a count)) → IfErr r (IfLimit (Ends before now a kept))
    up_ends same ends =
        if_limits r (λ which limit. now ≡ middle) (EndsRestart middle a count) (Ends before now a kept)
        (λ which limit (as_before : now ≡ middle) (told : EndsRestart middle a count which limit). λ cluster s sound past place are.
        let mid = enters s (come_back cluster s sound past place are) in
        ends_up cluster s a sound kept are now (subst (λ (x : History). IsPastOf x (with_lost a kept s)) (sym as_before) mid.0) which limit
        (subst (λ n. EndsAt (λ front. front ≡ (entered cluster (with_lost a kept s) a (Restart n) false).own) (with_lost a kept s).own which limit) count_is
        (told cluster (with_lost a kept s) mid.0 mid.1))) same ends

-- What an actor's stopped steps put into its journal is the same whatever others enter before them.
use Rattle.std.proofs.Common.{◌≡◌, ℕ, true, false, not, List, [], ◌∷◌, ◌++◌, length, map, append-nil, append_assoc, refl, sym, ap, ◌∙◌}
use Rattle.std.specs.List.{AllByRecursion}
use Rattle.acc_stamp.specs.declared.actors.Actor.{Actor}
use Rattle.acc_message.specs.declared.entry.Event.{Event}
use Rattle.acc_message.specs.declared.entry.Event.TheVariants.{Restart as RestartEvent}
use Rattle.acc_message.specs.declared.item.Item.{Item}
use Rattle.acc_message.specs.Items.{same_actor, sent_of}
use Rattle.acc_message.specs.NodeRules.{Act}
use Rattle.acc_message.specs.Run.{Cluster, act_of, Stands}
use Rattle.acc_safety.proofs.Bridge.{same_itself}
use Rattle.acc_run_laws.specs.Asks.{emits_if}
use Rattle.acc_payloads.specs.Items.{payloads_in}
use Rattle.acc_schedule_runs.specs.Moves.{event_in, entry_of, entered, entered_all, reopened, with_item, with_kept}
use Rattle.acc_schedule_runs.specs.Situations.{Situation, raised, raised_event, whole}
use Rattle.acc_pasts.specs.Entries.{entering, payload_for, MayTake}
use Rattle.acc_pasts.specs.Stopped.{is_other, AreSameSteps, CanAllGoOn, CanGoOn}
use Rattle.acc_pasts.proofs.Payloads.{payloads_more}
use Rattle.acc_pasts.proofs.Sound.{others_go_on, stays}
use Rattle.acc_pasts.proofs.Standing.{entry_stands, restart_may}
use Rattle.acc_pasts.proofs.Stops.{stay_same}

pub all_mapped : {X Y : Type 0} (P : Y → Type 0) (f : X → Y) (xs : List X) → AllByRecursion (λ x. P (f x)) xs → AllByRecursion P (map f xs)
all_mapped P f [] h = tt
all_mapped P f (x ∷ xs) h = (h.0, all_mapped P f xs h.1)

each_may : (cluster : Cluster) (items : List Item) (a : Actor) (f : Event → Event) (events : List Event) → AllByRecursion (λ (event : Event). CanGoOn cluster items a (f event)) events
    → AllByRecursion (λ (event : Event). (act : Act) × MayTake cluster items a (f event) act) events
each_may cluster items a f [] h = tt
each_may cluster items a f (event ∷ events) h = ((h.0.act, h.0.may), each_may cluster items a f events h.1)

module _ (cluster : Cluster) (a : Actor) where
  -- what the events put there, each after the entries of those before it
  abbrev pub put_by : List Item → List Event → List (List ℕ)
  put_by items [] = []
  put_by items (event ∷ events) = payload_for cluster items a event ++ put_by (entering cluster items a event true ∷ items) events

  put_same : (before now : List Item) (events : List Event) → AreSameSteps cluster before now a events true → put_by before events ≡ put_by now events
  put_same before now [] same = refl
  put_same before now (event ∷ events) same =
      ap (λ (p : List (List ℕ)). p ++ put_by (entering cluster before a event true ∷ before) events) (sym same.0.payload)
      ∙ ap (λ (l : List (List ℕ)). payload_for cluster now a event ++ l) (put_same (entering cluster before a event true ∷ before) (entering cluster now a event true ∷ now) events same.1)

  one_kept : (s : Situation) (event : Event) → payloads_in a (whole (entered cluster s a event true)) ≡ payloads_in a (whole s) ++ payload_for cluster (whole s) a (event_in s event)
  one_kept s event =
      payloads_more (whole s)
      (record { actor = a; event = event_in s event; emitted = emits_if cluster (whole s) a (act_of cluster (whole s) (event_in s event)); lost = true }) a (same_itself a)

  pub all_kept : (events : List Event) (s : Situation)
      → payloads_in a (whole (entered_all cluster s a events true)) ≡ payloads_in a (whole s) ++ put_by (whole s) (map (event_in s) events)
  all_kept [] s = sym (append-nil (payloads_in a (whole s)))
  all_kept (event ∷ events) s =
      all_kept events (entered cluster s a event true)
      ∙ ap (λ (l : List (List ℕ)). l ++ put_by (whole (entered cluster s a event true)) (map (event_in s) events)) (one_kept s event)
      ∙ append_assoc (payloads_in a (whole s)) (payload_for cluster (whole s) a (event_in s event)) (put_by (whole (entered cluster s a event true)) (map (event_in s) events))

  -- ---- after what others enter

  put_past : (s : Situation) (item : Item) (events : List Event) → is_other a (raised (length (sent_of s.earlier)) item) ≡ true → CanAllGoOn cluster s a events
      → put_by (whole (with_item item s)) (map (event_in s) events) ≡ put_by (whole s) (map (event_in s) events)
  put_past s item events other can =
      sym
      (put_same (whole s) (whole (with_item item s)) (map (event_in s) events)
      (stay_same cluster (whole s) (raised (length (sent_of s.earlier)) item) a (map (event_in s) events) true other
      (all_mapped (λ (event : Event). (act : Act) × MayTake cluster (whole s) a event act) (event_in s) events (each_may cluster (whole s) a (event_in s) events can.0))))

  module _ (b : Actor) (apart : same_actor b a ≡ false) where
    is_apart : not (same_actor b a) ≡ true
    is_apart = ap not apart

    record Past (s now : Situation) (events : List Event) : Type 0 where
      put : put_by (whole now) (map (event_in s) events) ≡ put_by (whole s) (map (event_in s) events)
      can : CanAllGoOn cluster now a events
      earlier : now.earlier ≡ s.earlier

    past_kept : (kept : List Event) (s : Situation) (events : List Event) → CanAllGoOn cluster s b kept → CanAllGoOn cluster s a events → Past s (entered_all cluster s b kept true) events
    past_kept [] s events may can = record { put = refl; can = can; earlier = refl }
    past_kept (event ∷ kept) s events may can =
        let first : CanGoOn cluster (whole s) b (event_in s event) = may.0.0 in
        let stands : Stands cluster (whole s) (raised (length (sent_of s.earlier)) (entry_of cluster s b event true)) =
        entry_stands cluster (whole s) b (event_in s event) first.act first.may true in
        let rest : Past (entered cluster s b event true) (entered_all cluster (entered cluster s b event true) b kept true) events =
        past_kept kept (entered cluster s b event true) events (others_go_on cluster s b event kept may)
        (stays cluster s (entry_of cluster s b event true) a events stands is_apart can) in
        record { put = rest.put ∙ put_past s (entry_of cluster s b event true) events is_apart can; can = rest.can; earlier = rest.earlier }

    -- another actor is opened again
    pub put_reopened : (s : Situation) (kept events : List Event) → CanAllGoOn cluster s b kept → CanAllGoOn cluster s a events
        → put_by (whole (reopened cluster s b kept)) (map (event_in (reopened cluster s b kept)) events) ≡ put_by (whole s) (map (event_in s) events)
    put_reopened s kept events may can =
        let now : Situation = with_kept cluster s b kept in
        let past : Past s now events = past_kept kept s events may can in
        put_past now (entry_of cluster now b (RestartEvent (length kept)) false) events is_apart past.can
        ∙ ap (λ (e : List Item). put_by (whole now) (map (raised_event (length (sent_of e))) events)) past.earlier ∙ past.put

    pub can_reopened : (s : Situation) (kept events : List Event) → CanAllGoOn cluster s b kept → CanAllGoOn cluster s a events → CanAllGoOn cluster (reopened cluster s b kept) a events
    can_reopened s kept events may can =
        let now : Situation = with_kept cluster s b kept in
        let past : Past s now events = past_kept kept s events may can in
        stays cluster now (entry_of cluster now b (RestartEvent (length kept)) false) a events
        (entry_stands cluster (whole now) b (RestartEvent (length kept)) _ (restart_may cluster (whole now) b (length kept)) false) is_apart past.can

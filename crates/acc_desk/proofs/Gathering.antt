-- A store stages messages, and settles them.
use Rattle.std.proofs.Common.{◌≡◌, ◌≢◌, ℕ, ◌<◌, ◌≤◌, Bool, true, false, List, [], ◌∷◌, ◌++◌, length, None, Some, Contains, refl, sym, ◌∙◌, ap, subst, arith, length-append}
use Rattle.std.proofs.lemmas.List.{length-map}
use Rattle.std.specs.List.{AllByRecursion}
use Rattle.std.proofs.lemmas.Bool.{true≢false}
use Rattle.acc_stamp.specs.declared.actors.Actor.{Actor}
use Rattle.acc_stamp.proofs.Rising.{each_weaker}
use Rattle.acc_ports.specs.declared.disk.Disk.{Ghosts}
use Rattle.acc_message.specs.declared.item.Item.{Item}
use Rattle.acc_message.specs.declared.item.Item.TheVariants.{Down}
use Rattle.acc_message.specs.declared.entry.Event.{Event}
use Rattle.acc_message.specs.NodeRules.{Act}
use Rattle.acc_message.specs.Run.{Cluster, is_down}
use Rattle.acc_message_code.specs.Weight.{weight_of}
use Rattle.acc_payloads.specs.declared.stops.Unsent.{Unsent}
use Rattle.acc_schedule.specs.Actors.{actors}
use Rattle.acc_schedule.specs.Content.{Content}
use Rattle.acc_schedule.specs.declared.plan.Step.{Step}
use Rattle.acc_pasts.specs.Entries.{MayTake}
use Rattle.acc_pasts.specs.Stopped.{AreDifferent}
use Rattle.acc_pasts.proofs.Pasts.{nothing_new}
use Rattle.acc_schedule_runs.specs.Situations.{Situation, whole, without, stops_of}
use Rattle.acc_schedule_runs.specs.Moves.{event_in, entry_of, entered, entered_all, is_journalled}
use Rattle.acc_schedule_runs.specs.Schedules.{cluster_of}
use Rattle.acc_schedule_runs.specs.Limits.{most_items}
use Rattle.acc_schedule_runs.specs.Disks.{Disks, fresh_disks}
use Rattle.acc_actors.specs.declared.slot.Slot.{Slot}
use Rattle.acc_actors.specs.Slots.{SlotStages, IsStrictSlot}
use Rattle.acc_actors.specs.Asked.{step_by, MayTakeEach, AreSteps, IsStaged, IsAskedBehind}
use Rattle.acc_actors.proofs.Pasts.{none_stopped}
use Rattle.acc_free_laws.specs.Commands.{is_message}
use Rattle.acc_free_laws.specs.FreeRun.{AreOthers, IsFreeRun, IsUntaken, alone}
use Rattle.acc_free_laws.proofs.Alone.{alone_whole, alone_event}
use Rattle.acc_free_laws.proofs.Serving.{serving_stopped}
use Rattle.acc_free_laws.proofs.Going.{messages_stopped}
use Rattle.acc_desk.specs.Desks.{IsAt}
use Rattle.acc_desk.specs.Groups.{to_enter, Joining, events_of, IsReady, AreWeighed, HasStaged, Settles, SettlesStrictly, CanJoin, CanAllJoin, MayJoin, IsEntering}
use Rattle.acc_desk.proofs.Stepping.{few_alone, step_on, stops_put}
use Rattle.acc_desk.proofs.Unarmed.{stepped_fresh}

-- ---- one more

pub weighed_more : (cluster : Cluster) (a : Actor) (events : List Event) (weights : List ℕ) (s : Situation) (event : Event) (weight : ℕ) → length weights ≡ length events
    → AreWeighed cluster s a events weights → weight ≡ weight_of (entry_of cluster (entered_all cluster s a events false) a event false) → AreWeighed cluster s a (events ++ event ∷ []) (weights ++ weight ∷ [])
weighed_more cluster a [] [] s event weight long h is = (is, tt)
weighed_more cluster a [] (w ∷ weights) s event weight long h is = absurd (omega arith)
weighed_more cluster a (first ∷ events) [] s event weight long h is = absurd h
weighed_more cluster a (first ∷ events) (w ∷ weights) s event weight long h is =
    (h.0, weighed_more cluster a events weights (entered cluster s a first false) event weight (omega arith) h.1 is)

each_append : {K : Type 0} (P : K → Type 0) (xs : List K) (x : K) → AllByRecursion P xs → P x → AllByRecursion P (xs ++ x ∷ [])
each_append P [] x h p = (p, tt)
each_append P (y ∷ xs) x h p = (h.0, each_append P xs x h.1 p)

each_front : {K : Type 0} (P : K → Type 0) (xs : List K) (x : K) → AllByRecursion P (xs ++ x ∷ []) → AllByRecursion P xs × P x
each_front P [] x h = (tt, h.0)
each_front P (y ∷ xs) x h = let rest = each_front P xs x h.1 in ((h.0, rest.0), rest.1)

different_append : (events : List Event) (event : Event) → AreDifferent events → AllByRecursion (λ (other : Event). other ≢ event) events → AreDifferent (events ++ event ∷ [])
different_append [] event h apart = (tt, tt)
different_append (first ∷ events) event h apart =
    (each_append (λ (other : Event). first ≢ other) events event h.0 apart.0, different_append events event h.1 apart.1)

events_append : (joinings : List Joining) (j : Joining) → events_of (joinings ++ j ∷ []) ≡ events_of joinings ++ j.event ∷ []
events_append [] j = refl
events_append (one ∷ joinings) j = ap (λ l. one.event ∷ l) (events_append joinings j)

pub joined_more : (plan : Content) (items : List Item) (a : Actor) (left : List Step) (joinings : List Joining) (j : Joining) → CanAllJoin plan items a left joinings → CanJoin plan items a left j
    → AllByRecursion (λ (other : Event). other ≢ j.event) (events_of joinings) → length joinings < 16 → CanAllJoin plan items a left (joinings ++ j ∷ [])
joined_more plan items a left joinings j h can apart few =
    record {
      each = each_append (CanJoin plan items a left) joinings j h.each can;
      different = subst AreDifferent (sym (events_append joinings j)) (different_append (events_of joinings) j.event h.different apart);
      few = let n = length-append joinings (j ∷ []) in omega arith;
    }

pub joined_over : (plan : Content) (a : Actor) (seen others : List Item) (left : List Step) (joinings : List Joining) → AreOthers a others → IsFreeRun plan (others ++ seen)
    → CanAllJoin plan seen a left joinings → CanAllJoin plan (others ++ seen) a left joinings
joined_over plan a seen others left joinings apart free h =
    record {
      each = each_weaker (CanJoin plan seen a left) (CanJoin plan (others ++ seen) a left) joinings
          (λ j one. record { may = step_on plan a seen others j.event j.act left left apart free one.may; message = one.message; journalled = one.journalled }) h.each;
      different = h.different;
      few = h.few;
    }

-- as many steps as events
pub steps_long : (cluster : Cluster) (s : Situation) (a : Actor) (events : List Event) (lost : Bool) (given : List Unsent) → AreSteps cluster s a events lost given → length given ≡ length events
steps_long cluster s a [] lost [] steps = refl
steps_long cluster s a [] lost (one ∷ given) steps = absurd steps
steps_long cluster s a (event ∷ events) lost [] steps = absurd steps
steps_long cluster s a (event ∷ events) lost (one ∷ given) steps = let others = steps_long cluster (entered cluster s a event lost) a events lost given steps.2 in omega arith

-- ---- what the slot says

module _ {D : Type 0} (port : Ghosts D) (plan : Content) (a : Actor) (first : Slot D) where
  abbrev Ready : Situation → List Joining → Type 0
  Ready s joinings = IsReady port plan s a joinings first

  abbrev Takes : Situation → Joining → Type 0
  Takes s j = MayTake (cluster_of plan) (whole s) a (event_in s j.event) j.act × (is_journalled a j.event ≡ true)

  take_each : (s : Situation) (joinings : List Joining) → AllByRecursion (Takes s) joinings → MayTakeEach (cluster_of plan) s a (events_of joinings)
  take_each s [] h = tt
  take_each s (j ∷ joinings) h = ((j.act, h.0.0, h.0.1), take_each s joinings h.1)

  -- before the last one joined it was ready for the others
  ready_front : (s : Situation) (joinings : List Joining) (j : Joining) → Ready s (joinings ++ j ∷ []) → Ready s joinings × Takes s j
  ready_front s joinings j h =
      let each = each_front (Takes s) joinings j h.each in (
        record {
          sound = h.sound;
          few = (h.few.0, (let e = ap (λ (l : List Event). length l) (events_append joinings j) in let n = length-append (events_of joinings) (j.event ∷ []) in let f = h.few.1 in omega arith));
          stands = h.stands;
          up = h.up;
          each = each.0;
        },
        each.1,
      )

  abbrev Staged : Slot D → List Joining → List ℕ → Type 0
  Staged slot joinings weights = HasStaged port plan a first slot joinings weights

  -- nothing is staged
  pub none_staged : Staged first [] []
  none_staged = record { stages = λ s ready. ready.stands; weighed = λ s ready. tt; strictly = λ s disks h. h }

  module _ (slot : Slot D) (joinings : List Joining) (weights : List ℕ) (staged : Staged slot joinings weights) where
    pub staged_now : (s : Situation) → Ready s joinings → IsStaged port plan s a (events_of joinings) slot
    staged_now s ready = record { sound = ready.sound; few = ready.few; stands = staged.stages s ready; up = ready.up; each = take_each s joinings ready.each }

    -- a message was refused
    pub staged_still : (new : Slot D)
        → ((s : Situation) (events : List Event) → SlotStages port plan s a events slot → SlotStages port plan s a events new)
        → ((s : Situation) (disks : Disks) → IsStrictSlot port plan s disks a slot → IsStrictSlot port plan s disks a new)
        → Staged new joinings weights
    staged_still new still strictly =
        record {
          stages = λ s ready. still s (events_of joinings) (staged.stages s ready);
          weighed = staged.weighed;
          strictly = λ s disks h. strictly s disks (staged.strictly s disks h);
        }

    module _ (j : Joining) where
      pub asks_behind : (s : Situation) → Ready s joinings → MayTake (cluster_of plan) (whole s) a (event_in s j.event) j.act → IsAskedBehind port plan s (events_of joinings) (step_by a j.event j.act) slot
      asks_behind s ready may = record { behind = staged_now s ready; may = may }

      -- a message was staged
      pub staged_more : (new : Slot D) (weight : ℕ) → length weights ≡ length joinings
          → ((s : Situation) (events : List Event) → IsAskedBehind port plan s events (step_by a j.event j.act) slot
          → weight ≡ weight_of (entry_of (cluster_of plan) (entered_all (cluster_of plan) s a events false) a j.event false))
          → ((s : Situation) (events : List Event) → IsAskedBehind port plan s events (step_by a j.event j.act) slot → SlotStages port plan s a (events ++ j.event ∷ []) new)
          → ((s : Situation) (disks : Disks) → IsStrictSlot port plan s disks a slot → IsStrictSlot port plan s disks a new)
          → Staged new (joinings ++ j ∷ []) (weights ++ weight ∷ [])
      staged_more new weight long weighs stages strictly =
          let back = sym (events_append joinings j) in
          record {
            stages = λ s ready.
                let front = ready_front s joinings j ready in
                subst (λ events. SlotStages port plan s a events new) back (stages s (events_of joinings) (asks_behind s front.0 front.1.0));
            weighed = λ s ready.
                let front = ready_front s joinings j ready in
                subst (λ events. AreWeighed (cluster_of plan) s a events (weights ++ weight ∷ [])) back
                (weighed_more (cluster_of plan) a (events_of joinings) weights s j.event weight (long ∙ sym (length-map joinings (λ (one : Joining). one.event)))
                (staged.weighed s front.0) (weighs s (events_of joinings) (asks_behind s front.0 front.1.0)));
            strictly = λ s disks h. strictly s disks (staged.strictly s disks h);
          }

-- ---- at a desk

module _ {D : Type 0} (port : Ghosts D) (strict_run : Bool) (plan : Content) (a : Actor) (items : List Item) (first : Slot D) (left : List Step) (joinings : List Joining)
    (known : Contains (actors plan.topology) a) (few : length items ≤ most_items) (up : is_down a items ≡ false) (at : IsAt port strict_run plan a items first left) (joined : CanAllJoin plan items a left joinings) where
  abbrev pub here : Situation
  here = alone items at.stopped

  pub may_at : (event : Event) (act : Act) → MayTake (cluster_of plan) items a event act → MayTake (cluster_of plan) (whole here) a (event_in here event) act
  may_at event act may =
      subst (λ e. MayTake (cluster_of plan) (whole here) a e act) (sym (alone_event items at.stopped event))
      (subst (λ own. MayTake (cluster_of plan) own a event act) (sym (alone_whole items at.stopped)) may)

  up_here : is_down a (whole here) ≡ false
  up_here = ap (is_down a) (alone_whole items at.stopped) ∙ up

  pub ready_here : IsReady port plan here a joinings first
  ready_here =
      record {
        sound = at.serving.sound;
        few = (few_alone items at.stopped few, (let n = length-map joinings (λ (one : Joining). one.event) in let f = joined.few in omega arith));
        stands = at.stands;
        up = up_here;
        each = each_weaker (CanJoin plan items a left) (λ (j : Joining). MayTake (cluster_of plan) (whole here) a (event_in here j.event) j.act × (is_journalled a j.event ≡ true)) joinings
            (λ j h. (may_at j.event j.act h.may.may, h.journalled)) joined.each;
      }

  of_events : (Q : Event → Type 0) (js : List Joining) → ((j : Joining) → CanJoin plan items a left j → Q j.event) → AllByRecursion (CanJoin plan items a left) js → AllByRecursion Q (events_of js)
  of_events Q [] f h = tt
  of_events Q (j ∷ js) f h = (f j h.0, of_events Q js f h.1)

  -- its disk failed, and takes it down
  module _ (new : Slot D) (settles : Settles port plan a first joinings new None) (strictly : SettlesStrictly port plan a first joinings new None) where
    pub went_down : IsAt port strict_run plan a (Down a ∷ items) new left
    went_down =
        let events = events_of joinings in
        record {
          stopped = stops_of a events ++ without a at.stopped;
          stands = (settles here ready_here).stands;
          serving =
              serving_stopped plan here at.serving a known events
              (of_events (λ (event : Event). (act : Act) × MayTake (cluster_of plan) (whole here) a (event_in here event) act × (is_journalled a event ≡ true)) joinings
              (λ j h. (j.act, may_at j.event j.act h.may.may, h.journalled)) joined.each)
              joined.different
              (of_events (IsUntaken items) joinings (λ j h. h.may.untaken) joined.each)
              (let n = length-map joinings (λ (one : Joining). one.event) in let f = joined.few in omega arith);
          stops = stops_put a events at.stopped at.stops;
          gone = messages_stopped plan here a events left (of_events (λ (event : Event). is_message event ≡ true) joinings (λ j h. h.message) joined.each) up at.gone;
          stayed = λ on. absurd (true≢false (strictly here fresh_disks ready_here (at.stayed on).unarmed).fails);
        }

  -- it was settled
  module _ (new : Slot D) (weights : List ℕ) (given : List Unsent) (weighed : (s : Situation) → IsReady port plan s a joinings first → AreWeighed (cluster_of plan) s a (events_of joinings) weights)
      (settles : Settles port plan a first joinings new (Some given)) (strictly : SettlesStrictly port plan a first joinings new (Some given)) where
    pub begins_entering : IsEntering port strict_run plan a items new (to_enter left (events_of joinings) given weights)
    begins_entering =
        let settled = settles here ready_here in
        record {
          stopped = at.stopped;
          before = items;
          untouched = nothing_new (cluster_of plan) items a;
          none = none_stopped (cluster_of plan) here a at.serving.sound up_here;
          stands = settled.stands;
          steps = settled.given_are;
          weighed = weighed here ready_here;
          could =
              of_events (λ (event : Event). (act : Act) × MayTake (cluster_of plan) items a event act × MayTake (cluster_of plan) items a event act) joinings
              (λ j h. (j.act, h.may.may, h.may.may)) joined.each;
          joined = record {
            each = of_events (MayJoin plan items a left) joinings (λ j h. record { act = j.act; may = h.may; message = h.message }) joined.each;
            different = joined.different;
          };
          serving = at.serving;
          stops = at.stops;
          gone = at.gone;
          stayed = λ on.
              let h = at.stayed on in (
                stepped_fresh port plan (entered_all (cluster_of plan) here a (events_of joinings) false) a new true (strictly here fresh_disks ready_here h.unarmed).strictly,
                h.none,
                h.up,
              );
        }

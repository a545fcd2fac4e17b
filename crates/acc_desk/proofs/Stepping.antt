-- A step of the actor of a desk.
use Rattle.std.proofs.Common.{◌≡◌, ℕ, ◌≤◌, Bool, true, false, List, [], ◌∷◌, ◌++◌, length, Option, None, Some, Contains, refl, sym, ◌∙◌, ap, subst, arith, inl, inr}
use Rattle.std.specs.Prelude.{All, is_none}
use Rattle.std.proofs.Math.Bool.{and-false}
use Rattle.std.proofs.lemmas.Bool.{true≢false}
use Rattle.acc_stamp.specs.declared.actors.Actor.{Actor}
use Rattle.acc_ports.specs.declared.disk.Disk.{Ghosts}
use Rattle.acc_message.specs.declared.entry.Event.{Event}
use Rattle.acc_message.specs.declared.entry.Emitted.{Emitted}
use Rattle.acc_message.specs.declared.item.Item.{Item}
use Rattle.acc_message.specs.declared.item.Item.TheVariants.{Step as StepItem}
use Rattle.acc_message.specs.Items.{sent_in}
use Rattle.acc_message.specs.NodeRules.{Act}
use Rattle.acc_message.specs.Run.{is_down}
use Rattle.acc_message_code.specs.Short.{IsShortMessage}
use Rattle.acc_message_code.specs.Weight.{weight_of}
use Rattle.acc_run_laws.specs.Sends.{AreSendable}
use Rattle.acc_run_laws.proofs.Sendable.{next_sendable}
use Rattle.acc_run_laws.specs.Asks.{emits_if}
use Rattle.acc_schedule.specs.Actors.{actors}
use Rattle.acc_schedule.specs.Content.{Content}
use Rattle.acc_schedule.specs.declared.plan.Step.{Step}
use Rattle.acc_pasts.specs.Entries.{entering, MayTake}
use Rattle.acc_pasts.proofs.Sound.{sound_standing}
use Rattle.acc_schedule_runs.specs.Situations.{Stopped, Situation, whole, without, stops_of}
use Rattle.acc_schedule_runs.specs.Moves.{event_in, entry_of, tried_if, is_journalled}
use Rattle.acc_schedule_runs.specs.Schedules.{cluster_of}
use Rattle.acc_schedule_runs.proofs.StopLists.{without_other, stopped_other}
use Rattle.acc_schedule_runs.specs.Disks.{Disks, fresh_disks, after_step}
use Rattle.acc_schedule_runs.specs.Limits.{most_items}
use Rattle.acc_actors.specs.declared.slot.Slot.{Slot}
use Rattle.acc_actors.specs.Slots.{SlotStands, IsStrictSlot}
use Rattle.acc_actors.specs.Asked.{step_by, over_disks, IsFew, IsAsked, IsEmitted, HasTried, HasTriedStrictly}
use Rattle.acc_actors.proofs.Few.{few_whole}
use Rattle.acc_free_laws.specs.FreeRun.{AreOthers, IsFreeRun, alone}
use Rattle.acc_free_laws.specs.Serving.{IsServing, HasGone, AreStopsOf}
use Rattle.acc_free_laws.proofs.Alone.{alone_whole, alone_event, entry_is}
use Rattle.acc_free_laws.proofs.Fitting.{down_fits}
use Rattle.acc_free_laws.proofs.Over.{turn_fits}
use Rattle.acc_free_laws.proofs.Others.{untouched_by, may_over, untaken_over}
use Rattle.acc_free_laws.proofs.Serving.{serving_tried}
use Rattle.acc_free_laws.proofs.Going.{command_went, message_went}
use Rattle.acc_desk.specs.Desks.{HasStayed, IsAt, IsTurn, MayStep, item_of}
use Rattle.acc_desk.proofs.Unarmed.{stepped_fresh}

-- ---- what may be taken, after others' items

pub step_on : (plan : Content) (a : Actor) (seen others : List Item) (event : Event) (act : Act) (left later : List Step) → AreOthers a others → IsFreeRun plan (others ++ seen)
    → MayStep plan seen a event act left later → MayStep plan (others ++ seen) a event act left later
step_on plan a seen others event act left later apart free may =
    record {
      up = (untouched_by (cluster_of plan) seen a others apart).down ∙ may.up;
      may = may_over (cluster_of plan) seen a event act others apart free.run.stands may.plain may.may;
      plain = may.plain;
      kept = may.kept;
      untaken = untaken_over (cluster_of plan) seen a event act others apart free.run.stands may.may may.untaken;
      turn = may.turn;
    }

-- ---- what is asked

pub few_alone : (items : List Item) (stopped : List Stopped) → length items ≤ most_items → IsFew (alone items stopped)
few_alone items stopped few = (omega arith, few)

-- a stopped step of another isn't there
pub stops_put : (a : Actor) (events : List Event) (stopped : List Stopped) → AreStopsOf a stopped → AreStopsOf a (stops_of a events ++ without a stopped)
stops_put a events stopped stops b apart = stopped_other a b events stopped apart ∙ stops b apart

pub stops_without : (a : Actor) (stopped : List Stopped) → AreStopsOf a stopped → AreStopsOf a (without a stopped)
stops_without a stopped stops b apart = without_other b a apart stopped ∙ stops b apart

module _ {D : Type 0} (port : Ghosts D) (strict_run : Bool) (plan : Content) (a : Actor) (items : List Item) (slot : Slot D) (left later : List Step) (event : Event) (act : Act)
    (known : Contains (actors plan.topology) a) (few : length items ≤ most_items) (at : IsAt port strict_run plan a items slot left) (may : MayStep plan items a event act left later) where
  abbrev pub here : Situation
  here = alone items at.stopped

  may_here : MayTake (cluster_of plan) (whole here) a (event_in here event) act
  may_here =
      subst (λ e. MayTake (cluster_of plan) (whole here) a e act) (sym (alone_event items at.stopped event))
      (subst (λ own. MayTake (cluster_of plan) own a event act) (sym (alone_whole items at.stopped)) may.may)

  up_here : is_down a (whole here) ≡ false
  up_here = ap (is_down a) (alone_whole items at.stopped) ∙ may.up

  pub asked : IsAsked port plan here (step_by a event act) slot
  asked = record { sound = at.serving.sound; few = few_alone items at.stopped few; stands = at.stands; up = up_here; may = may_here }

  -- what it emits is what its entry has
  emitted_is : (emitted : Emitted) → IsEmitted (cluster_of plan) here a event (Some emitted) → item_of a event (Some emitted) ≡ entry_of (cluster_of plan) here a event false
  emitted_is emitted is = ap (λ (e : Emitted). StepItem (record { actor = a; event = event; emitted = e; lost = false })) is

  entering_is : (emitted : Emitted) → IsEmitted (cluster_of plan) here a event (Some emitted) → item_of a event (Some emitted) ≡ entering (cluster_of plan) items a event false
  entering_is emitted is = emitted_is emitted is ∙ entry_is (cluster_of plan) here refl a event false

  -- after others' items too
  pub item_behind : (given : Option Emitted) → IsEmitted (cluster_of plan) here a event given → (others : List Item) → AreOthers a others → IsFreeRun plan (others ++ items) → IsFreeRun plan (item_of a event given ∷ others ++ items)
  item_behind None is others apart free = down_fits plan (others ++ items) a known free
  item_behind (Some emitted) is others apart free =
      subst (λ item. IsFreeRun plan (item ∷ others ++ items)) (sym (entering_is emitted is))
      (turn_fits plan items others a event act known apart may.may may.plain may.kept may.up may.untaken free)

  -- its messages are short, and are weighed
  sendable : (emitted : Emitted) → IsEmitted (cluster_of plan) here a event (Some emitted) → AreSendable emitted.out
  sendable emitted is =
      subst (λ (e : Emitted). AreSendable e.out) (sym (is ∙ ap (emits_if (cluster_of plan) (whole here) a) may_here.act_is))
      (next_sendable (cluster_of plan) (whole here) a act (sound_standing (cluster_of plan) here at.serving.sound)
      (record { event = event_in here event; act_is = may_here.act_is; place = may_here.place }) at.serving.sound.few_bodies (few_whole here (few_alone items at.stopped few)))

  pub item_short : (given : Option Emitted) → IsEmitted (cluster_of plan) here a event given → All IsShortMessage (sent_in (item_of a event given))
  item_short None is = λ k d low. absurd (omega arith)
  item_short (Some emitted) is = (sendable emitted is).short

  pub item_weighs : (given : Option Emitted) → IsEmitted (cluster_of plan) here a event given → (weight : ℕ) → weight ≡ weight_of (entry_of (cluster_of plan) here a event false) → weight_of (item_of a event given) ≤ weight
  item_weighs None is weight weighs = omega arith
  item_weighs (Some emitted) is weight weighs = let e = ap weight_of (emitted_is emitted is) in omega arith

  -- the command's turn, or a message's
  went : (fails : Bool) → IsTurn event left later → HasGone plan here a left → HasGone plan (tried_if fails (cluster_of plan) here a event) a later
  went fails (inl message) gone = subst (HasGone plan (tried_if fails (cluster_of plan) here a event) a) (sym message.1) (message_went plan here a event fails left message.0 (λ _. may.up) gone)
  went fails (inr command) gone = command_went plan here a event fails command.0 later command.2 command.3 (λ _. may.up) (subst (HasGone plan here a) command.1 gone)

  module _ (given : Option Emitted) (new_slot : Slot D) (tried : HasTried port plan here a event new_slot given)
      (strictly : (disks : Disks) → IsStrictSlot port plan here disks a slot → HasTriedStrictly port plan (over_disks here disks) a event new_slot given) where
    journalled : is_none given ≡ true → is_journalled a event ≡ true
    journalled = by given tried.emitted
      where
        by : (given : Option Emitted) → IsEmitted (cluster_of plan) here a event given → is_none given ≡ true → is_journalled a event ≡ true
        by None is none = is
        by (Some emitted) is none = absurd (cc)

    serving : IsServing plan (tried_if (is_none given) (cluster_of plan) here a event)
    serving = serving_tried plan here at.serving a known event act (is_none given) may_here may.plain may.kept up_here may.untaken journalled

    abbrev Stays : Situation → Type 0
    Stays s = HasStayed port plan s a new_slot

    -- its disk didn't fail
    stays_by : (given : Option Emitted) → is_none given ≡ false
        → IsStrictSlot port plan (tried_if (is_none given) (cluster_of plan) here a event) (after_step (is_journalled a event) a fresh_disks) a new_slot
        → HasStayed port plan here a slot → Stays (tried_if (is_none given) (cluster_of plan) here a event)
    stays_by None went_on there h = absurd (true≢false went_on)
    stays_by (Some emitted) went_on there h = record {
      unarmed = stepped_fresh port plan (tried_if false (cluster_of plan) here a event) a new_slot (is_journalled a event) there;
      none = h.none;
      up = h.up;
    }

    stays : strict_run ≡ true → Stays (tried_if (is_none given) (cluster_of plan) here a event)
    stays on =
        let h = at.stayed on in
        let t = strictly fresh_disks h.unarmed in
        stays_by given (t.fails ∙ and-false (is_journalled a event)) t.strictly h

    stepped_by : (given : Option Emitted) → IsEmitted (cluster_of plan) here a event given → SlotStands port plan (tried_if (is_none given) (cluster_of plan) here a event) a new_slot
        → IsServing plan (tried_if (is_none given) (cluster_of plan) here a event) → HasGone plan (tried_if (is_none given) (cluster_of plan) here a event) a later
        → (strict_run ≡ true → Stays (tried_if (is_none given) (cluster_of plan) here a event))
        → IsAt port strict_run plan a (item_of a event given ∷ items) new_slot later
    stepped_by None is stands serves gone stayed =
        record { stopped = stops_of a (event ∷ []) ++ without a at.stopped; stands = stands; serving = serves; stops = stops_put a (event ∷ []) at.stopped at.stops; gone = gone; stayed = stayed }
    stepped_by (Some emitted) is stands serves gone stayed =
        let e : alone (item_of a event (Some emitted) ∷ items) at.stopped ≡ tried_if false (cluster_of plan) here a event = ap (λ (item : Item). alone (item ∷ items) at.stopped) (emitted_is emitted is) in
        record {
          stopped = at.stopped;
          stands = subst (λ (s : Situation). SlotStands port plan s a new_slot) (sym e) stands;
          serving = subst (IsServing plan) (sym e) serves;
          stops = at.stops;
          gone = subst (λ (s : Situation). HasGone plan s a later) (sym e) gone;
          stayed = λ on. subst (λ (s : Situation). Stays s) (sym e) (stayed on);
        }

    -- the actor stands after its item
    pub stepped : IsAt port strict_run plan a (item_of a event given ∷ items) new_slot later
    stepped = stepped_by given tried.emitted tried.stands serving (went (is_none given) may.turn at.gone) stays

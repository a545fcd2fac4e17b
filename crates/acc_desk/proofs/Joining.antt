-- A message joins those that a store staged.
use Rattle.std.proofs.Common.{◌≡◌, ◌≢◌, ℕ, zero, suc, ◌+◌, ◌<◌, ◌≤◌, Bool, false, List, [], ◌∷◌, ◌++◌, length, get_or, take, drop, Option, None, Some, refl, sym, ◌∙◌, ap, subst, arith, length-append}
use Rattle.std.specs.Prelude.{sum_by}
use Rattle.std.specs.List.{AllByRecursion}
use Rattle.std.proofs.lemmas.List.{length-map}
use Rattle.std.proofs.lemmas.List.Sums.{sum_by_push}
use Rattle.acc_stamp.specs.declared.actors.Actor.{Actor}
use Rattle.acc_ports.specs.declared.disk.Disk.{Ghosts}
use Rattle.acc_message.specs.declared.entry.Event.{Event}
use Rattle.acc_message.specs.declared.error.Which.{Which}
use Rattle.acc_message.specs.declared.item.Item.{Item}
use Rattle.acc_message.specs.Run.{is_node, is_down}
use Rattle.acc_message_code.specs.Weight.{weight_of}
use Rattle.acc_payloads.specs.declared.stops.Unsent.{Unsent}
use Rattle.acc_schedule.specs.Content.{Content}
use Rattle.acc_schedule.specs.declared.plan.Step.{Step}
use Rattle.acc_pasts.specs.Stopped.{AreDifferent}
use Rattle.acc_schedule_runs.specs.Situations.{Situation}
use Rattle.acc_schedule_runs.specs.Moves.{entry_of, entered_all}
use Rattle.acc_schedule_runs.specs.Schedules.{cluster_of}
use Rattle.acc_schedule_runs.specs.Limits.{most_items}
use Rattle.acc_schedule_runs.specs.Disks.{Disks, fresh_disks}
use Rattle.acc_actors.specs.declared.slot.Slot.{Slot}
use Rattle.acc_actors.specs.Slots.{SlotStages, IsStrictSlot}
use Rattle.acc_actors.specs.Asked.{step_by, over_disks, IsStaged, IsAskedBehind, MayAskBehind, HasSettled, HasSettledStrictly}
use Rattle.acc_free_laws.specs.FreeRun.{IsFreeRun}
use Rattle.acc_free_laws.proofs.Alone.{entry_is}
use Rattle.acc_tape.specs.declared.error.TapeError.TheVariants.{Full}
use Rattle.acc_tape.specs.Refusals.{Refuses}
use Rattle.acc_tape.specs.ItemViews.{actor_of_item}
use Rattle.acc_tape.specs.Seats.{TapeName, SeatView, Turns}
use Rattle.acc_desk.specs.declared.hold.Hold.{Hold}
use Rattle.acc_desk.specs.Desks.{desk_with, run_with, newest, no_hold, IsSeated, IsDesk}
use Rattle.acc_desk.specs.Fits.{fits_plan}
use Rattle.acc_desk.specs.Groups.{gathered, Joining, events_of, CanJoin, CanAllJoin, IsGathering, IsStopping, IsEnteringDesk, Settles, SettlesStrictly}
use Rattle.acc_desk.specs.Outcomes.{HasNoRoom}
use Rattle.acc_desk.proofs.Stepping.{step_on}
use Rattle.acc_desk.proofs.Seating.{came, newest_few}
use Rattle.acc_desk.proofs.Rooms.{passed, lacks_room}
use Rattle.acc_desk.proofs.Gathering.{joined_more, joined_over, none_staged, staged_still, staged_more, staged_now, steps_long, asks_behind, here, may_at, ready_here, begins_entering}

module _ {D : Type 0} (port : Ghosts D) (strict_run : Bool) (plan : Content) (tape : TapeName) (limits : tape.limits.items ≤ most_items) (a : Actor) (commands : List Step) (gone : ℕ)
    (first slot : Slot D) (joinings : List Joining) (used : ℕ) (held : Hold) (seat : SeatView Item)
    (gathering : IsGathering port (run_with strict_run plan tape) (desk_with a seat slot commands gone) (gathered first joinings used held)) where
  -- ---- one message more

  module _ (j : Joining) (can : CanJoin plan (newest seat) a (drop gone commands) j) where
    -- the slot may be asked
    pub asks_now : MayAskBehind port plan (step_by a j.event j.act) slot
    asks_now =
        let items = newest seat in
        let left = drop gone commands in
        let few = newest_few plan tape limits a held seat gathering.desk.seated in (
          here port strict_run plan a items first left joinings gathering.desk.known few gathering.up gathering.desk.at gathering.joined,
          events_of joinings,
          asks_behind port plan a first slot joinings gathering.weights gathering.staged j
              (here port strict_run plan a items first left joinings gathering.desk.known few gathering.up gathering.desk.at gathering.joined)
              (ready_here port strict_run plan a items first left joinings gathering.desk.known few gathering.up gathering.desk.at gathering.joined)
              (may_at port strict_run plan a items first left joinings gathering.desk.known few gathering.up gathering.desk.at gathering.joined j.event j.act can.may.may),
        )

    -- it was staged
    pub joins : (next : Slot D) (weight total : ℕ) → total ≡ used + weight → total ≤ held.weight → length joinings < held.items → length joinings < 16
        → AllByRecursion (λ (other : Event). other ≢ j.event) (events_of joinings)
        → ((s : Situation) (events : List Event) → IsAskedBehind port plan s events (step_by a j.event j.act) slot
        → weight ≡ weight_of (entry_of (cluster_of plan) (entered_all (cluster_of plan) s a events false) a j.event false))
        → ((s : Situation) (events : List Event) → IsAskedBehind port plan s events (step_by a j.event j.act) slot → SlotStages port plan s a (events ++ j.event ∷ []) next)
        → ((s : Situation) (disks : Disks) → IsStrictSlot port plan s disks a slot → IsStrictSlot port plan s disks a next)
        → IsGathering port (run_with strict_run plan tape) (desk_with a seat next commands gone) (gathered first (joinings ++ j ∷ []) total held)
    joins next weight total is within more few another weighs stages strictly =
        record {
          kind = gathering.kind;
          desk = gathering.desk;
          up = gathering.up;
          joined = joined_more plan (newest seat) a (drop gone commands) joinings j gathering.joined can another few;
          weights = gathering.weights ++ weight ∷ [];
          long = (let n = length-append gathering.weights (weight ∷ []) in let m = length-append joinings (j ∷ []) in let l = gathering.long in omega arith);
          staged = staged_more port plan a first slot joinings gathering.weights gathering.staged j next weight gathering.long weighs stages strictly;
          used_is = (let n = sum_by_push (λ n. n) gathering.weights weight in let u = gathering.used_is in omega arith);
          within = within;
          few = (let m = length-append joinings (j ∷ []) in omega arith);
        }

  -- a message was refused
  pub refused : (next : Slot D)
      → ((s : Situation) (events : List Event) → SlotStages port plan s a events slot → SlotStages port plan s a events next)
      → ((s : Situation) (disks : Disks) → IsStrictSlot port plan s disks a slot → IsStrictSlot port plan s disks a next)
      → IsGathering port (run_with strict_run plan tape) (desk_with a seat next commands gone) (gathered first joinings used held)
  refused next still strictly =
      record {
        kind = gathering.kind;
        desk = gathering.desk;
        up = gathering.up;
        joined = gathering.joined;
        weights = gathering.weights;
        long = gathering.long;
        staged = staged_still port plan a first slot joinings gathering.weights gathering.staged next still strictly;
        used_is = gathering.used_is;
        within = gathering.within;
        few = gathering.few;
      }

  -- ---- what was staged is settled

  pub settle_asks : (s : Situation) × (events : List Event) × IsStaged port plan s a events slot
  settle_asks =
      let items = newest seat in
      let left = drop gone commands in
      let few = newest_few plan tape limits a held seat gathering.desk.seated in (
        here port strict_run plan a items first left joinings gathering.desk.known few gathering.up gathering.desk.at gathering.joined,
        events_of joinings,
        staged_now port plan a first slot joinings gathering.weights gathering.staged
            (here port strict_run plan a items first left joinings gathering.desk.known few gathering.up gathering.desk.at gathering.joined)
            (ready_here port strict_run plan a items first left joinings gathering.desk.known few gathering.up gathering.desk.at gathering.joined),
      )

  no_events : (js : List Joining) → js ≢ [] → events_of js ≢ []
  no_events [] some is = some refl
  no_events (j ∷ js) some is = absurd (cc)

  some_long : (js : List Joining) → js ≢ [] → 0 < length js
  some_long [] some = absurd (some refl)
  some_long (j ∷ js) some = omega arith

  module _ (next : Slot D) (given : Option (List Unsent))
      (settled : (s : Situation) (staged : List Event) → IsStaged port plan s a staged slot → HasSettled port plan s a staged next given)
      (strictly : (s : Situation) (staged : List Event) (disks : Disks) → IsStaged port plan s a staged slot → staged ≢ [] → IsStrictSlot port plan s disks a slot
      → HasSettledStrictly port plan (over_disks s disks) a staged next given) (some : joinings ≢ []) where
    all_settle : Settles port plan a first joinings next given
    all_settle s ready = settled s (events_of joinings) (staged_now port plan a first slot joinings gathering.weights gathering.staged s ready)

    all_settle_strictly : SettlesStrictly port plan a first joinings next given
    all_settle_strictly s disks ready h =
        strictly s (events_of joinings) disks (staged_now port plan a first slot joinings gathering.weights gathering.staged s ready) (no_events joinings some)
        (gathering.staged.strictly s disks h)

  -- its disk failed
  pub settled_none : (next : Slot D)
      → ((s : Situation) (staged : List Event) → IsStaged port plan s a staged slot → HasSettled port plan s a staged next None)
      → ((s : Situation) (staged : List Event) (disks : Disks) → IsStaged port plan s a staged slot → staged ≢ [] → IsStrictSlot port plan s disks a slot
      → HasSettledStrictly port plan (over_disks s disks) a staged next None) → joinings ≢ []
      → IsStopping port (run_with strict_run plan tape) (desk_with a seat next commands gone) first joinings held
  settled_none next settled strictly some =
      record {
        desk = gathering.desk;
        up = gathering.up;
        joined = gathering.joined;
        settles = all_settle next None settled strictly some;
        strictly = all_settle_strictly next None settled strictly some;
        some = let n = some_long joinings some in let f = gathering.few in omega arith;
      }

  -- it gives what is to be entered
  pub settled_some : (next : Slot D) (given : List Unsent)
      → ((s : Situation) (staged : List Event) → IsStaged port plan s a staged slot → HasSettled port plan s a staged next (Some given))
      → ((s : Situation) (staged : List Event) (disks : Disks) → IsStaged port plan s a staged slot → staged ≢ [] → IsStrictSlot port plan s disks a slot
      → HasSettledStrictly port plan (over_disks s disks) a staged next (Some given)) → joinings ≢ []
      → IsEnteringDesk port (run_with strict_run plan tape) held (desk_with a seat next commands gone) (events_of joinings) given
  settled_some next given settled strictly some =
      let entering = begins_entering port strict_run plan a (newest seat) first (drop gone commands) joinings gathering.desk.known
      (newest_few plan tape limits a held seat gathering.desk.seated) gathering.up gathering.desk.at gathering.joined next gathering.weights given gathering.staged.weighed
      (all_settle next (Some given) settled strictly some) (all_settle_strictly next (Some given) settled strictly some) in
      let steps = steps_long (cluster_of plan) _ a (events_of joinings) false given entering.steps in
      let events = length-map joinings (λ (one : Joining). one.event) in
      record {
        known = gathering.desk.known;
        all = gathering.desk.all;
        seated = gathering.desk.seated;
        weights = gathering.weights;
        entering = entering;
        light = let u = gathering.used_is in let w = gathering.within in omega arith;
        few = let f = gathering.few in omega arith;
        most = let f = gathering.joined.few in omega arith;
      }

  -- nothing joined, so the slot stands for what the seat has seen
  pub none_joined : length joinings ≡ 0 → IsDesk port (run_with strict_run plan tape) held (desk_with a seat slot commands gone)
  none_joined none =
      let at = gathering.desk.at in
      let few = newest_few plan tape limits a held seat gathering.desk.seated in
      let s : Situation = here port strict_run plan a (newest seat) first (drop gone commands) joinings gathering.desk.known few gathering.up at gathering.joined in
      let ready = ready_here port strict_run plan a (newest seat) first (drop gone commands) joinings gathering.desk.known few gathering.up at gathering.joined in
      record {
        known = gathering.desk.known;
        all = gathering.desk.all;
        seated = gathering.desk.seated;
        at = record {
          stopped = at.stopped;
          stands = subst (λ events. SlotStages port plan s a events slot) (nothing joinings none) (gathering.staged.stages s ready);
          serving = at.serving;
          stops = at.stops;
          gone = at.gone;
          stayed = λ on. let h = at.stayed on in record { unarmed = gathering.staged.strictly s fresh_disks h.unarmed; none = h.none; up = h.up };
        };
      }
    where
      nothing : (js : List Joining) → length js ≡ 0 → events_of js ≡ []
      nothing [] none = refl
      nothing (j ∷ js) none = absurd (omega arith)

-- ---- a desk that stages nothing yet

module _ {D : Type 0} (port : Ghosts D) (strict_run : Bool) (plan : Content) (tape : TapeName) (limits : tape.limits.items ≤ most_items) (a : Actor) (commands : List Step) (gone : ℕ) where
  pub begins_gathering : (slot : Slot D) (seat : SeatView Item) → is_node a ≡ false → is_down a (newest seat) ≡ false
      → IsDesk port (run_with strict_run plan tape) no_hold (desk_with a seat slot commands gone)
      → IsGathering port (run_with strict_run plan tape) (desk_with a seat slot commands gone) (gathered slot [] 0 no_hold)
  begins_gathering slot seat kind up desk =
      record {
        kind = kind;
        desk = desk;
        up = up;
        joined = record { each = tt; different = tt; few = omega arith };
        weights = [];
        long = refl;
        staged = none_staged port plan a slot;
        used_is = refl;
        within = omega arith;
        few = omega arith;
      }

  -- a store that has staged nothing was asked what it would send for its oldest message, and the tape has no room for it
  pub first_no_room : (slot : Slot D) (seat : SeatView Item) (j : Joining) → IsGathering port (run_with strict_run plan tape) (desk_with a seat slot commands gone) (gathered slot [] 0 no_hold)
      → CanJoin plan (newest seat) a (drop gone commands) j → (weight : ℕ)
      → ((s : Situation) (events : List Event) → IsAskedBehind port plan s events (step_by a j.event j.act) slot
      → weight ≡ weight_of (entry_of (cluster_of plan) (entered_all (cluster_of plan) s a events false) a j.event false))
      → (which : Which) (number : ℕ) → Refuses tape.limits (length seat.seen + seat.out_count) (sum_by weight_of seat.seen + seat.out_weight) 1 weight (Full which number)
      → HasNoRoom plan tape a (drop gone commands) seat
  first_no_room slot seat j gathering can weight weighs which number refuses =
      let items = newest seat in
      let left = drop gone commands in
      let few = newest_few plan tape limits a no_hold seat gathering.desk.seated in
      let s : Situation = here port strict_run plan a items slot left [] gathering.desk.known few gathering.up gathering.desk.at gathering.joined in
      let is = weighs s [] (asks_behind port plan a slot slot [] gathering.weights gathering.staged j s
      (ready_here port strict_run plan a items slot left [] gathering.desk.known few gathering.up gathering.desk.at gathering.joined)
      (may_at port strict_run plan a items slot left [] gathering.desk.known few gathering.up gathering.desk.at gathering.joined j.event j.act can.may.may)) in
      lacks_room plan tape a left left seat j.event j.act can.may weight (is ∙ ap weight_of (entry_is (cluster_of plan) s refl a j.event false))
      (passed tape.limits (length seat.seen + seat.out_count) (sum_by weight_of seat.seen + seat.out_weight) weight which number refuses)

-- ---- after what others entered

module _ (plan : Content) (tape : TapeName) (limits : tape.limits.items ≤ most_items) (a : Actor) (held : Hold) (left : List Step) (old new : SeatView Item) (seated : IsSeated tape a held old)
    (turns : Turns actor_of_item weight_of (fits_plan plan) old new) (same : new.mine ≡ old.mine) where
  pub can_moves : (j : Joining) → CanJoin plan (newest old) a left j → CanJoin plan (newest new) a left j
  can_moves j can =
      let b = came plan tape limits a held old new seated turns same in
      subst (λ items. CanJoin plan items a left j) (sym b.items_are)
      (record {
        may = step_on plan a (newest old) b.others j.event j.act left left b.apart (subst (IsFreeRun plan) b.items_are turns.fitting) can.may;
        message = can.message;
        journalled = can.journalled;
      })

  pub all_can_move : (joinings : List Joining) → CanAllJoin plan (newest old) a left joinings → CanAllJoin plan (newest new) a left joinings
  all_can_move joinings can =
      let b = came plan tape limits a held old new seated turns same in
      subst (λ items. CanAllJoin plan items a left joinings) (sym b.items_are) (joined_over plan a (newest old) b.others left joinings b.apart (subst (IsFreeRun plan) b.items_are turns.fitting) can)

-- ---- one of those that were found

-- the message at a place can join, and is none of those before it
pub each_at : (P : Joining → Type 0) (js : List Joining) (place : ℕ) (d : Joining) → place < length js → AllByRecursion P js → P (get_or js place d)
each_at P [] place d low h = absurd (omega (arith, low))
each_at P (j ∷ js) zero d low h = h.0
each_at P (j ∷ js) (suc place) d low h = each_at P js place d (omega (arith, low)) h.1

apart_at : (event : Event) (js : List Joining) (place : ℕ) (d : Joining) → place < length js → AllByRecursion (λ (other : Event). event ≢ other) (events_of js) → event ≢ (get_or js place d).event
apart_at event [] place d low h = absurd (omega (arith, low))
apart_at event (j ∷ js) zero d low h = h.0
apart_at event (j ∷ js) (suc place) d low h = apart_at event js place d (omega (arith, low)) h.1

pub another_at : (js : List Joining) (place : ℕ) (d : Joining) → place < length js → AreDifferent (events_of js) → AllByRecursion (λ (other : Event). other ≢ (get_or js place d).event) (events_of (take place js))
another_at [] place d low h = absurd (omega (arith, low))
another_at (j ∷ js) zero d low h = tt
another_at (j ∷ js) (suc place) d low h = (apart_at j.event js place d (omega (arith, low)) h.0, another_at js place d (omega (arith, low)) h.1)

-- what holds of four values holds of their equals
pub along : {A B C E : Type 0} (P : A → B → C → E → Type 0) {a a' : A} {b b' : B} {c c' : C} {e e' : E} → a' ≡ a → b' ≡ b → c' ≡ c → e' ≡ e → P a b c e → P a' b' c' e'
along P {a} {a'} {b} {b'} {c} {c'} {e} {e'} p q r s h =
    subst (λ x. P x b' c' e') (sym p) (subst (λ x. P a x c' e') (sym q) (subst (λ x. P a b x e') (sym r) (subst (λ x. P a b c x) (sym s) h)))

pub some_joined : (joinings : List Joining) (n : ℕ) → length joinings ≡ n → n ≢ 0 → joinings ≢ []
some_joined joinings n long some none = some (sym long ∙ ap (λ (l : List Joining). length l) none)

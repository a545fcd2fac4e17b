-- From actors that each stand for what all entered, and for the steps of their own that a fault stopped, to one situation of them all.
use Rattle.std.proofs.Common.{◌≡◌, Bool, true, false, List, [], ◌∷◌, ◌++◌, map, reverse, Contains, refl, sym, ◌∙◌, ap, subst}
use Rattle.std.specs.List.{AllByRecursion, IsDistinct}
use Rattle.std.specs.List.{filter}
use Rattle.std.proofs.lemmas.List.{append-nil, map-append}
use Rattle.std.proofs.lemmas.List.Elements.{filter-append}
use Rattle.acc_stamp.specs.declared.actors.Actor.{Actor}
use Rattle.acc_ports.specs.declared.disk.Disk.{Ghosts}
use Rattle.acc_message.specs.declared.entry.Event.{Event}
use Rattle.acc_message.specs.declared.item.Item.{Item}
use Rattle.acc_message.specs.Items.{same_actor}
use Rattle.acc_payloads.specs.Items.{downs_in}
use Rattle.acc_safety.proofs.Bridge.{same}
use Rattle.acc_safety.proofs.PlaceOrder.{Contains-IsIn, each_at}
use Rattle.acc_schedule.specs.Actors.{actors}
use Rattle.acc_schedule.specs.Content.{Content}
use Rattle.acc_schedule.specs.Plan.{IsPlan}
use Rattle.acc_schedule.specs.declared.plan.Step.{Step}
use Rattle.acc_schedule_runs.specs.Laws.{NobodyIsDown}
use Rattle.acc_schedule_runs.specs.Situations.{Stopped, stopped_at}
use Rattle.acc_schedule_runs.specs.Schedules.{cluster_of}
use Rattle.acc_schedule_runs.specs.Disks.{fresh_disks}
use Rattle.acc_schedule_runs.specs.Limits.{IsWithin}
use Rattle.acc_cluster.specs.Over.{AreStrictSlots}
use Rattle.acc_actors.specs.Slots.{SlotStands, IsStrictSlot}
use Rattle.acc_actors.proofs.Apart.{IsApart, apart_stopped}
use Rattle.acc_actors.proofs.Slots.{slot_apart, strict_apart}
use Rattle.acc_free_laws.specs.FreeRun.{IsFreeRun, alone}
use Rattle.acc_free_laws.specs.Serving.{IsServing, HasGone}
use Rattle.acc_desk.specs.Desks.{IsAt}
use Rattle.acc_free_ending.specs.declared.rest.Rest.{Rest}
use Rattle.acc_free_ending.specs.Finish.{HaveRested}
use Rattle.acc_free_ending.specs.Queues.{placed_in, queue_in, left_in, rest_actor, AreAllActors}
use Rattle.acc_free_ending.proofs.Lists.{apart_sym}

-- ---- stopped steps of two lists

-- an actor's steps in both lists, where one of them has none
both_stopped : (a : Actor) (xs ys : List Stopped) → stopped_at a (xs ++ ys) ≡ stopped_at a xs ++ stopped_at a ys
both_stopped a xs ys =
    ap (map (λ (one : Stopped). one.event)) (filter-append (λ (one : Stopped). same_actor one.actor a) xs ys)
    ∙ map-append (λ (one : Stopped). one.event) (filter (λ (one : Stopped). same_actor one.actor a) xs) (filter (λ (one : Stopped). same_actor one.actor a) ys)

first_none : (a : Actor) (xs ys : List Stopped) → stopped_at a xs ≡ [] → stopped_at a (xs ++ ys) ≡ stopped_at a ys
first_none a xs ys none = both_stopped a xs ys ∙ ap (λ events. events ++ stopped_at a ys) none

second_none : (a : Actor) (xs ys : List Stopped) → stopped_at a ys ≡ [] → stopped_at a (xs ++ ys) ≡ stopped_at a xs
second_none a xs ys none = both_stopped a xs ys ∙ ap (λ events. stopped_at a xs ++ events) none ∙ append-nil (stopped_at a xs)

-- ---- all actors

module _ {D : Type 0} (port : Ghosts D) (strict_run : Bool) (plan : Content) (items : List Item) where
  -- the actor stands for its part in the items, and its commands but these went by
  abbrev pub IsEnd : Rest D → Type 0
  IsEnd rest = IsAt port strict_run plan rest.actor items rest.slot (left_in (queue_in rest))

  -- what port stopped of each
  stops_of : (rests : List (Rest D)) → AllByRecursion IsEnd rests → List Stopped
  stops_of [] all = []
  stops_of (rest ∷ rests) all = all.0.stopped ++ stops_of rests all.1

  others_none : (b : Actor) (rests : List (Rest D)) (all : AllByRecursion IsEnd rests) → AllByRecursion (λ (a : Actor). same_actor b a ≡ false) (map rest_actor rests)
      → stopped_at b (stops_of rests all) ≡ []
  unfolding stops_of
  others_none b [] all apart = refl
  others_none b (rest ∷ rests) all apart =
      first_none b all.0.stopped (stops_of rests all.1) (all.0.stops b (apart_sym b rest.actor apart.0))
      ∙ others_none b rests all.1 apart.1

  -- where nothing was stopped of each
  none_stopped : (rests : List (Rest D)) (all : AllByRecursion IsEnd rests) → strict_run ≡ true → stops_of rests all ≡ []
  unfolding stops_of
  none_stopped [] all is = refl
  none_stopped (rest ∷ rests) all is = ap (λ (l : List Stopped). l ++ stops_of rests all.1) (all.0.stayed is).none ∙ none_stopped rests all.1 is

  -- whose stopped steps they are
  abbrev FoundIn : Actor → List Event → Type 0
  FoundIn a events = (one : List Stopped) × (stopped_at a one ≡ events) × IsServing plan (alone items one)

  -- all that was stopped is of one actor, the first or another
  found_by : (rest : Rest D) (at : IsEnd rest) (others : List Stopped) (a : Actor) (events : List Event)
      → (same_actor rest.actor a ≡ true → stopped_at a others ≡ []) → (stopped_at a others ≡ events → FoundIn a events)
      → stopped_at a (at.stopped ++ others) ≡ events → FoundIn a events
  found_by rest at others a events mine later is = by (same_actor rest.actor a) refl
    where
      by : (here : Bool) → same_actor rest.actor a ≡ here → FoundIn a events
      by true here = (at.stopped, sym (second_none a at.stopped others (mine here)) ∙ is, at.serving)
      by false here = later (sym (first_none a at.stopped others (at.stops a here)) ∙ is)

  whose : (rests : List (Rest D)) (all : AllByRecursion IsEnd rests) → IsDistinct same_actor (map rest_actor rests) → (a : Actor) (event : Event) (events : List Event)
      → stopped_at a (stops_of rests all) ≡ event ∷ events → FoundIn a (event ∷ events)
  unfolding IsDistinct stops_of
  whose [] all apart a event events is = absurd (cc)
  whose (rest ∷ rests) all apart a event events is =
      found_by rest all.0 (stops_of rests all.1) a (event ∷ events)
      (λ here. subst (λ b. stopped_at b (stops_of rests all.1) ≡ []) (same rest.actor a here) (others_none rest.actor rests all.1 apart.0))
      (whose rests all.1 apart.1 a event events) is

  -- ---- by one list of stopped steps

  module _ (stopped : List Stopped) where
    record StandsBy (rest : Rest D) : Type 0 where
      stands : SlotStands port plan (alone items stopped) rest.actor rest.slot
      gone : HasGone plan (alone items stopped) rest.actor (left_in (queue_in rest))
      strictly : strict_run ≡ true → IsStrictSlot port plan (alone items stopped) fresh_disks rest.actor rest.slot
      up : strict_run ≡ true → downs_in rest.actor items ≡ 0

    abbrev GoneLaw : Type 0
    GoneLaw =
        (plan : Content) (items : List Item) (stopped other : List Stopped) (a : Actor) (left : List Step) → stopped_at a other ≡ stopped_at a stopped
        → HasGone plan (alone items stopped) a left → HasGone plan (alone items other) a left

    stands_by : GoneLaw → (rest : Rest D) (at : IsEnd rest) → stopped_at rest.actor stopped ≡ stopped_at rest.actor at.stopped → StandsBy rest
    stands_by law rest at is =
        let before = alone items at.stopped in
        let apart : IsApart (cluster_of plan) before (alone items stopped) rest.actor = apart_stopped (cluster_of plan) before stopped rest.actor is in
        record {
          stands = slot_apart plan before (alone items stopped) rest.actor apart port rest.slot at.stands;
          gone = law plan items at.stopped stopped rest.actor (left_in (queue_in rest)) is at.gone;
          strictly = λ s. strict_apart plan before (alone items stopped) rest.actor apart port fresh_disks fresh_disks rest.slot refl refl (at.stayed s).unarmed;
          up = λ s. (at.stayed s).up;
        }

    -- the lists agree at each of these actors
    abbrev Agrees : List Stopped → List (Rest D) → Type 0
    Agrees other rests = AllByRecursion (λ (a : Actor). stopped_at a stopped ≡ stopped_at a other) (map rest_actor rests)

    tail_agrees : (rest : Rest D) (at : IsEnd rest) (other : List Stopped) (rests : List (Rest D)) → AllByRecursion (λ (a : Actor). same_actor rest.actor a ≡ false) (map rest_actor rests)
        → Agrees (at.stopped ++ other) rests → Agrees other rests
    tail_agrees rest at other [] apart h = tt
    tail_agrees rest at other (one ∷ rests) apart h =
        (h.0 ∙ first_none one.actor at.stopped other (at.stops one.actor apart.0), tail_agrees rest at other rests apart.1 h.1)

    each_stands : GoneLaw → (rests : List (Rest D)) (all : AllByRecursion IsEnd rests) → IsDistinct same_actor (map rest_actor rests) → Agrees (stops_of rests all) rests
        → AllByRecursion StandsBy rests
    unfolding IsDistinct stops_of
    each_stands law [] all apart h = tt
    each_stands law (rest ∷ rests) all apart h = (
      stands_by law rest all.0 (h.0 ∙ second_none rest.actor all.0.stopped (stops_of rests all.1) (others_none rest.actor rests all.1 apart.0)),
      each_stands law rests all.1 apart.1 (tail_agrees rest all.0 (stops_of rests all.1) rests apart.0 h.1),
    )

    itself : (rests : List (Rest D)) → Agrees stopped rests
    itself [] = tt
    itself (rest ∷ rests) = (refl, itself rests)

    slots_stand : (rests : List (Rest D)) → AllByRecursion StandsBy rests
        → AllByRecursion (λ (one : Actor × _). SlotStands port plan (alone items stopped) one.0 one.1) (map placed_in rests)
    slots_stand [] all = tt
    slots_stand (rest ∷ rests) all = (all.0.stands, slots_stand rests all.1)

    slots_strict : (rests : List (Rest D)) → AllByRecursion StandsBy rests → strict_run ≡ true
        → AreStrictSlots port plan (alone items stopped) fresh_disks (map placed_in rests)
    slots_strict [] all is = tt
    slots_strict (rest ∷ rests) all is = (all.0.strictly is, slots_strict rests all.1 is)

    each_gone : (rests : List (Rest D)) → AllByRecursion StandsBy rests
        → AllByRecursion (λ (rest : Rest D). HasGone plan (alone items stopped) rest.actor (left_in (queue_in rest))) rests
    each_gone [] all = tt
    each_gone (rest ∷ rests) all = (all.0.gone, each_gone rests all.1)

    each_up : (rests : List (Rest D)) → AllByRecursion StandsBy rests → strict_run ≡ true → AllByRecursion (λ (a : Actor). downs_in a items ≡ 0) (map rest_actor rests)
    each_up [] all is = tt
    each_up (rest ∷ rests) all is = (all.0.up is, each_up rests all.1 is)

-- ---- the whole

-- the laws of all actors together
abbrev pub TogetherLaw : Type 0
TogetherLaw =
    (plan : Content) (items : List Item) (stopped : List Stopped) → IsPlan plan → IsFreeRun plan items
    → ((a : Actor) (event : Event) (events : List Event) → stopped_at a stopped ≡ event ∷ events → (one : List Stopped) × (stopped_at a one ≡ event ∷ events) × IsServing plan (alone items one))
    → IsServing plan (alone items stopped)

abbrev pub EachLaw : Type 0
EachLaw =
    (plan : Content) (items : List Item) (stopped other : List Stopped) (a : Actor) (left : List Step) → stopped_at a other ≡ stopped_at a stopped
    → HasGone plan (alone items stopped) a left → HasGone plan (alone items other) a left

abbrev pub UpLaw : Type 0
UpLaw = (plan : Content) (items : List Item) → IsFreeRun plan items → ((a : Actor) → Contains (actors plan.topology) a → downs_in a items ≡ 0) → NobodyIsDown items

pub rested : {D : Type 0} (port : Ghosts D) (strict_run : Bool) (plan : Content)
    → IsPlan plan → TogetherLaw → EachLaw → UpLaw → (entered : List Item) → IsFreeRun plan (reverse entered) → IsWithin (reverse entered)
    → (rests : List (Rest D)) → AreAllActors plan (map rest_actor rests)
    → AllByRecursion (IsEnd port strict_run plan (reverse entered)) rests
    → HaveRested port strict_run plan rests entered
rested port strict_run plan valid together each nobody entered free within rests are all =
    let items = reverse entered in
    let stopped = stops_of port strict_run plan items rests all in
    let serving = together plan items stopped valid free (whose port strict_run plan items rests all are.apart) in
    let stand = each_stands port strict_run plan items stopped each rests all are.apart
    (itself port strict_run plan items stopped rests) in
    record {
      stopped = stopped;
      resting =
          record {
            over =
                record {
                  sound = serving.sound;
                  within = within;
                  stand = slots_stand port strict_run plan items stopped rests stand;
                };
            serving = serving;
            gone = each_gone port strict_run plan items stopped rests stand;
          };
      strictly = slots_strict port strict_run plan items stopped rests stand;
      up = λ is.
          nobody plan items free
          (λ a member.
          each_at (λ (b : Actor). downs_in b items ≡ 0) a (map rest_actor rests) (each_up port strict_run plan items stopped rests stand is)
          (Contains-IsIn a (map rest_actor rests) (are.each a member)));
    }

-- Which steps of an actor are stopped, where its own or another's are put in or taken out.
use Rattle.std.proofs.Common.{◌≡◌, Bool, true, false, not, cond, List, [], ◌∷◌, ◌++◌, map, filter, refl, sym, ◌∙◌, ap, subst}
use Rattle.acc_stamp.specs.declared.actors.Actor.{Actor}
use Rattle.acc_message.specs.declared.entry.Event.{Event}
use Rattle.acc_message.specs.Items.{same_actor}
use Rattle.acc_message.specs.Run.{Cluster}
use Rattle.acc_safety.proofs.Bridge.{same, same_itself}
use Rattle.acc_schedule_runs.specs.Situations.{Stopped, Situation, stopped_at, without, stops_of}
use Rattle.acc_schedule_runs.specs.Moves.{entered, entered_all}

-- those of one actor
abbrev of_actor : Actor → List Stopped → List Stopped
of_actor a stopped = filter (λ (one : Stopped). same_actor one.actor a) stopped

abbrev events_of : List Stopped → List Event
events_of stopped = map (λ (one : Stopped). one.event) stopped

pub without_other : (a b : Actor) → same_actor b a ≡ false → (stopped : List Stopped) → stopped_at a (without b stopped) ≡ stopped_at a stopped
without_other a b apart [] = refl
without_other a b apart (one ∷ others) = by (same_actor one.actor b) refl (without_other a b apart others)
  where
    by : (here : Bool) → same_actor one.actor b ≡ here → stopped_at a (without b others) ≡ stopped_at a others
        → stopped_at a (cond (not here) (one ∷ without b others) (without b others)) ≡ stopped_at a (one ∷ others)
    by false is rest = both (same_actor one.actor a)
      where
        both : (mine : Bool)
            → events_of (cond mine (one ∷ of_actor a (without b others)) (of_actor a (without b others)))
            ≡ events_of (cond mine (one ∷ of_actor a others) (of_actor a others))
        both true = ap (λ events. one.event ∷ events) rest
        both false = rest
    by true is rest =
        rest
        ∙ sym (ap (λ mine. events_of (cond mine (one ∷ of_actor a others) (of_actor a others)))
        (ap (λ c. same_actor c a) (same one.actor b is) ∙ apart))

pub without_own : (a : Actor) (stopped : List Stopped) → stopped_at a (without a stopped) ≡ []
without_own a [] = refl
without_own a (one ∷ others) = by (same_actor one.actor a) refl (without_own a others)
  where
    by : (here : Bool) → same_actor one.actor a ≡ here → stopped_at a (without a others) ≡ []
        → stopped_at a (cond (not here) (one ∷ without a others) (without a others)) ≡ []
    by true is rest = rest
    by false is rest =
        ap (λ mine. events_of (cond mine (one ∷ of_actor a (without a others)) (of_actor a (without a others)))) is ∙ rest

pub stopped_own : (a : Actor) (events : List Event) (stopped : List Stopped) → stopped_at a (stops_of a events ++ without a stopped) ≡ events
stopped_own a [] stopped = without_own a stopped
stopped_own a (event ∷ events) stopped =
    let rest : List Stopped = of_actor a (stops_of a events ++ without a stopped) in
    ap (λ mine. events_of (cond mine (record { actor = a; event = event } ∷ rest) rest)) (same_itself a)
    ∙ ap (λ more. event ∷ more) (stopped_own a events stopped)

pub stopped_other : (a b : Actor) (events : List Event) (stopped : List Stopped) → same_actor a b ≡ false
    → stopped_at b (stops_of a events ++ without a stopped) ≡ stopped_at b stopped
stopped_other a b [] stopped apart = without_other b a apart stopped
stopped_other a b (event ∷ events) stopped apart =
    let rest : List Stopped = of_actor b (stops_of a events ++ without a stopped) in
    ap (λ mine. events_of (cond mine (record { actor = a; event = event } ∷ rest) rest)) apart ∙ stopped_other a b events stopped apart

-- ---- what holds of an actor's stopped steps

module _ (Q : List Event → Type 0) (a b : Actor) (stopped : List Stopped) where
  -- the steps of one actor are taken out
  pub by_without : (same_actor a b ≡ true → Q []) → (same_actor a b ≡ false → Q (stopped_at b stopped)) → Q (stopped_at b (without a stopped))
  by_without own other = by (same_actor a b) refl
    where
      by : (here : Bool) → same_actor a b ≡ here → Q (stopped_at b (without a stopped))
      by true is = subst (λ c. Q (stopped_at c (without a stopped))) (same a b is) (subst Q (sym (without_own a stopped)) (own is))
      by false is = subst Q (sym (without_other b a is stopped)) (other is)

  -- these are put in their place
  pub by_stops : (events : List Event) → (same_actor a b ≡ true → Q events) → (same_actor a b ≡ false → Q (stopped_at b stopped))
      → Q (stopped_at b (stops_of a events ++ without a stopped))
  by_stops events own other = by (same_actor a b) refl
    where
      by : (here : Bool) → same_actor a b ≡ here → Q (stopped_at b (stops_of a events ++ without a stopped))
      by true is =
          subst (λ c. Q (stopped_at c (stops_of a events ++ without a stopped))) (same a b is)
          (subst Q (sym (stopped_own a events stopped)) (own is))
      by false is = subst Q (sym (stopped_other a b events stopped is)) (other is)

-- ---- what entering some events leaves alone

module _ (cluster : Cluster) (a : Actor) (lost : Bool) where
  pub all_earlier : (s : Situation) (events : List Event) → (entered_all cluster s a events lost).earlier ≡ s.earlier
  all_earlier s [] = refl
  all_earlier s (event ∷ events) = all_earlier (entered cluster s a event lost) events

  pub all_dropped : (s : Situation) (events : List Event) → (entered_all cluster s a events lost).dropped ≡ s.dropped
  all_dropped s [] = refl
  all_dropped s (event ∷ events) = all_dropped (entered cluster s a event lost) events

  pub all_stopped : (s : Situation) (events : List Event) → (entered_all cluster s a events lost).stopped ≡ s.stopped
  all_stopped s [] = refl
  all_stopped s (event ∷ events) = all_stopped (entered cluster s a event lost) events

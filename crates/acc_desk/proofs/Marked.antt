-- What a desk is after memory was refused.
use Rattle.std.proofs.Common.{◌≡◌, ◌≢◌, ◌⊎◌, ℕ, zero, suc, ◌<◌, ◌==◌, Bool, true, false, List, [], ◌∷◌, length, map, drop, set, get_or, Option, Some, Result, Ok, Err, inl, inr, refl, sym, ◌∙◌, ap, subst, arith, eqb-true, eq-eqb}
use Rattle.std.specs.Prelude.{OnErr, IsErrAnd, All}
use Rattle.std.specs.List.{slice_get}
use Rattle.std.proofs.lemmas.Bool.{true≢false}
use Rattle.std.specs.Option.{option_map}
use Rattle.std.proofs.lemmas.Option.{slice_get-get_or, slice_get-map, slice_get_within, get_or_from_slice_get}
use Rattle.std.proofs.lemmas.List.{length-map}
use Rattle.std.proofs.lemmas.Result.{err_from_is_err_and}
use Rattle.std.proofs.lemmas.List.Elements.{All-head, All-tail}
use Rattle.acc_base.specs.declared.memory.OutOfMemory.{OutOfMemory}
use Rattle.acc_ports.specs.declared.disk.Disk.{Ghosts}
use Rattle.acc_stamp.specs.declared.actors.Actor.{Actor}
use Rattle.acc_message.specs.declared.item.Item.{Item}
use Rattle.acc_schedule.specs.Content.{Content}
use Rattle.acc_schedule.specs.declared.plan.Step.{Step}
use Rattle.acc_schedule_runs.specs.Disks.{fresh_disks}
use Rattle.acc_actors.specs.declared.slot.Slot.{Slot}
use Rattle.acc_actors.specs.Slots.{StaysIn, is_down_in}
use Rattle.acc_free_laws.specs.FreeRun.{alone}
use Rattle.acc_tape.specs.Seats.{TapeName, SeatView}
use Rattle.acc_desk.specs.declared.desk.Desk.{Desk}
use Rattle.acc_desk.specs.Desks.{newest, DeskRun, run_with, desk_with, no_hold, IsSeated, IsAt, IsSound, IsSoundOrMarked, IsMarkedDown, IsToRestart, MarksDown, MarksAtTurn, AreMarkedDown, MarksAtTurns, mark_of, AreSound, AreSoundButOne, AreSeated, state_of}

-- what holds, holds after an error
pub on_err : {X E P : Type 0} (r : Result X E) → P → OnErr r P
on_err (Ok x) h = tt
on_err (Err e) h = h

-- an error is no answer
pub no_answer : {X E : Type 0} (P : E → Type 0) (r : Result X E) (x : X) → IsErrAnd r P → r ≢ Ok x
no_answer P r x failed is = let e = err_from_is_err_and r failed in absurd (cc (is, e.1))

pub not_ok : {X E : Type 0} (e : E) (x : X) → Err e ≢ Ok x
not_ok e x is = absurd (cc)

-- ---- the mark of a desk

module _ {D J : Type 0} (old new : Desk D J) where
  pub kept_down : new.unsound ≡ old.unsound → IsMarkedDown old new
  kept_down same = λ mark. inl (sym same ∙ mark)

  -- a step that refused memory, after one that kept the mark
  pub down_since : (mid : Desk D J) → mid.unsound ≡ old.unsound → IsMarkedDown mid new → IsMarkedDown old new
  down_since mid same down = λ mark. by (down mark)
    where
      by : (mid.unsound ≡ true) ⊎ (is_down_in new.slot ≡ true) → (old.unsound ≡ true) ⊎ (is_down_in new.slot ≡ true)
      by (inl was) = inl (sym same ∙ was)
      by (inr broken) = inr broken

  module _ {X : Type 0} where
    pub keeps : (r : Result X OutOfMemory) → new.unsound ≡ old.unsound → MarksDown r old new
    keeps (Ok x) same = same
    keeps (Err e) same = kept_down same

    pub since : (r : Result X OutOfMemory) (mid : Desk D J) → mid.unsound ≡ old.unsound → MarksDown r mid new → MarksDown r old new
    since (Ok x) mid same kept = kept ∙ same
    since (Err e) mid same down = down_since mid same down

    pub refuses : (P : OutOfMemory → Type 0) (r : Result X OutOfMemory) → IsErrAnd r P → IsMarkedDown old new → MarksDown r old new
    refuses P (Ok x) failed down = absurd failed
    refuses P (Err e) failed down = down

    pub at_turn : (r : Result X OutOfMemory) → MarksDown r old new → MarksAtTurn r old new
    at_turn (Ok x) kept = kept
    at_turn (Err e) down = inl down

    pub refuses_turn : (P : OutOfMemory → Type 0) (r : Result X OutOfMemory) → IsErrAnd r P → IsMarkedDown old new ⊎ IsToRestart new → MarksAtTurn r old new
    refuses_turn P (Ok x) failed down = absurd failed
    refuses_turn P (Err e) failed down = down

-- ---- one desk

module _ {D J : Type 0} (port : Ghosts D) (strict_run : Bool) (plan : Content) (tape : TapeName) (desk : Desk D J) where
  pub still_sound : IsSound port (run_with strict_run plan tape) (state_of desk) → IsSoundOrMarked port strict_run plan tape desk
  still_sound sound = record { seated = sound.seated; sound = λ _. sound }

  pub marked : IsSeated tape desk.actor no_hold desk.seat → desk.unsound ≡ true → IsSoundOrMarked port strict_run plan tape desk
  marked seated mark = record { seated = seated; sound = λ none. absurd (true≢false (sym mark ∙ none)) }

-- The actor stays in its slot as it was.
pub at_stays : {D : Type 0} (port : Ghosts D) (strict_run : Bool) (plan : Content) (a : Actor) (items : List Item) (old new : Slot D) (left : List Step) → StaysIn port plan a old new
    → IsAt port strict_run plan a items old left → IsAt port strict_run plan a items new left
at_stays port strict_run plan a items old new left stays at =
    record {
      stopped = at.stopped;
      stands = stays.stands (alone items at.stopped) at.stands;
      serving = at.serving;
      stops = at.stops;
      gone = at.gone;
      stayed = λ on. let h = at.stayed on in record { unarmed = stays.strictly (alone items at.stopped) fresh_disks h.unarmed; none = h.none; up = h.up };
    }

pub desk_stays : {D : Type 0} (port : Ghosts D) (run : DeskRun) (a : Actor) (seat : SeatView Item) (old new : Slot D) (commands : List Step) (gone : ℕ) → StaysIn port run.plan a old new
    → IsSound port run (desk_with a seat old commands gone) → IsSound port run (desk_with a seat new commands gone)
desk_stays port run a seat old new commands gone stays desk =
    record { known = desk.known; all = desk.all; seated = desk.seated; at = at_stays port run.strict_run run.plan a (newest seat) old new (drop gone commands) stays desk.at }

-- ---- lists of which one is set

at_place : {X : Type 0} (P : X → Type 0) (xs : List X) (k : ℕ) (x : X) → slice_get xs k ≡ Some x → All P xs → P x
at_place P [] zero x is all = absurd (cc)
at_place P [] (suc k) x is all = absurd (cc)
at_place P (y ∷ xs) zero x is all = let same : y ≡ x = cc in subst P same (All-head P y xs all)
at_place P (y ∷ xs) (suc k) x is all = at_place P xs k x is (All-tail P y xs all)

set_there : {X : Type 0} (xs : List X) (place : ℕ) (new x : X) → slice_get (set xs place new) place ≡ Some x → new ≡ x
set_there [] zero new x is = absurd (cc)
set_there [] (suc place) new x is = absurd (cc)
set_there (y ∷ xs) zero new x is = cc
set_there (y ∷ xs) (suc place) new x is = set_there xs place new x is

set_elsewhere : {X : Type 0} (xs : List X) (place k : ℕ) (new x : X) → k ≢ place → slice_get (set xs place new) k ≡ Some x → slice_get xs k ≡ Some x
set_elsewhere [] zero k new x apart is = is
set_elsewhere [] (suc place) k new x apart is = is
set_elsewhere (y ∷ xs) zero zero new x apart is = absurd (apart refl)
set_elsewhere (y ∷ xs) zero (suc k) new x apart is = is
set_elsewhere (y ∷ xs) (suc place) zero new x apart is = is
set_elsewhere (y ∷ xs) (suc place) (suc k) new x apart is = set_elsewhere xs place k new x (λ e. apart (ap suc e)) is

-- ---- the marks of desks

module _ {D J : Type 0} (xs ys : List (Desk D J)) (same : map mark_of ys ≡ map mark_of xs) where
  low_too : (k : ℕ) (old : Desk D J) → slice_get xs k ≡ Some old → k < length ys
  low_too k old was =
      let low = slice_get_within xs k old was in
      let long = sym (length-map ys mark_of) ∙ ap (λ (l : List Bool). length l) same ∙ length-map xs mark_of in
      omega arith

  mark_at : (k : ℕ) (old new : Desk D J) → slice_get xs k ≡ Some old → slice_get ys k ≡ Some new → new.unsound ≡ old.unsound
  mark_at k old new was is =
      let here : Some new.unsound ≡ Some old.unsound =
      sym (slice_get-map mark_of ys k ∙ ap (λ (o : Option (Desk D J)). option_map mark_of o) is)
      ∙ ap (λ (l : List Bool). slice_get l k) same
      ∙ slice_get-map mark_of xs k
      ∙ ap (λ (o : Option (Desk D J)). option_map mark_of o) was in
      cc

  pub marks_kept : AreMarkedDown xs ys
  marks_kept k old new was is = inl (kept_down old new (mark_at k old new was is))

  -- later desks
  pub marks_since : (zs : List (Desk D J)) → AreMarkedDown ys zs → AreMarkedDown xs zs
  marks_since zs down k old new was is =
      let mid = get_or ys k old in
      let there = slice_get-get_or ys k old (low_too k old was) in
      by mid (mark_at k old mid was there) (down k mid new there is)
    where
      by : (mid : Desk D J) → mid.unsound ≡ old.unsound → IsMarkedDown mid new ⊎ IsToRestart new → IsMarkedDown old new ⊎ IsToRestart new
      by mid mark (inl marked) = inl (down_since old new mid mark marked)
      by mid mark (inr next) = inr next

-- one of them had a turn
pub marks_turned : {D J : Type 0} (xs : List (Desk D J)) (place : ℕ) (new d : Desk D J) → d ≡ get_or xs place d → IsMarkedDown d new ⊎ IsToRestart new → AreMarkedDown xs (set xs place new)
marks_turned {D} {J} xs place new d value turned k old after was is = by (k == place) refl
  where
    by : (here : Bool) → (k == place) ≡ here → IsMarkedDown old after ⊎ IsToRestart after
    by true there =
        let k_is = eqb-true k place there in
        let after_is = set_there xs place new after (subst (λ n. slice_get (set xs place new) n ≡ Some after) k_is is) in
        let old_is : d ≡ old = value ∙ get_or_from_slice_get xs place old d (subst (λ n. slice_get xs n ≡ Some old) k_is was) in
        subst (λ (x : Desk D J). IsMarkedDown old x ⊎ IsToRestart x) after_is (subst (λ (x : Desk D J). IsMarkedDown x new ⊎ IsToRestart new) old_is turned)
    by false apart =
        let still = set_elsewhere xs place k new after (λ e. absurd (true≢false (sym (eq-eqb k place e) ∙ apart))) is in
        let one : Some after ≡ Some old = sym still ∙ was in
        let same : after ≡ old = cc in
        inl (kept_down old after (ap (λ (x : Desk D J). x.unsound) same))

module _ {D J X : Type 0} (r : Result X OutOfMemory) (xs ys : List (Desk D J)) where
  pub refuse : (P : OutOfMemory → Type 0) → IsErrAnd r P → AreMarkedDown xs ys → MarksAtTurns r xs ys
  refuse P failed down = by r failed
    where
      by : (q : Result X OutOfMemory) → IsErrAnd q P → MarksAtTurns q xs ys
      by (Ok x) failed = absurd failed
      by (Err e) failed = down

  pub either : MarksAtTurns r xs ys → AreMarkedDown xs ys
  either down = by r down
    where
      by : (q : Result X OutOfMemory) → MarksAtTurns q xs ys → AreMarkedDown xs ys
      by (Ok x) kept = marks_kept xs ys kept
      by (Err e) down = down

-- ---- desks of which one had a turn

module _ {D J : Type 0} (port : Ghosts D) (strict_run : Bool) (plan : Content) (tape : TapeName) (desks : List (Desk D J)) where
  pub one_turned : (place : ℕ) (new : Desk D J) → AreSound port strict_run plan tape desks → IsSoundOrMarked port strict_run plan tape new → AreSoundButOne port strict_run plan tape (set desks place new)
  one_turned place new sound kept =
      record {
        one = place;
        others = λ k desk is apart.
            at_place (λ (d : Desk D J). IsSound port (run_with strict_run plan tape) (state_of d)) desks k desk (set_elsewhere desks place k new desk apart is) sound;
        marked = λ desk is. subst (IsSoundOrMarked port strict_run plan tape) (set_there desks place new desk is) kept;
      }

  -- each has its seat all the same
  pub all_seated : AreSoundButOne port strict_run plan tape desks → AreSeated tape desks
  all_seated kept k d low =
      let desk = get_or desks k d in
      let is = slice_get-get_or desks k d low in
      by (k == kept.one) refl desk is
    where
      by : (here : Bool) → (k == kept.one) ≡ here → (desk : Desk D J) → slice_get desks k ≡ Some desk → IsSeated tape desk.actor no_hold desk.seat
      by true same desk is = (kept.marked desk (subst (λ n. slice_get desks n ≡ Some desk) (eqb-true k kept.one same) is)).seated
      by false apart desk is = (kept.others k desk is (λ e. absurd (true≢false (sym (eq-eqb k kept.one e) ∙ apart)))).seated

-- Sound desks in their parts.
use Rattle.std.proofs.Common.{◌≡◌, ℕ, ◌≤◌, Bool, true, false, List, [], ◌∷◌, length, map, reverse, drop, Contains, refl, sym, ◌∙◌, ap, subst}
use Rattle.std.specs.Prelude.{All, Any}
use Rattle.std.specs.List.{AllByRecursion}
use Rattle.std.specs.List.Sorted.{IsPermutation}
use Rattle.std.proofs.lemmas.List.{length-map}
use Rattle.std.proofs.lemmas.List.Elements.{All-map, All-weaker, All-head, All-tail, All-contains_itself, All-same, recursion_from_All, All-from_recursion}
use Rattle.std.proofs.lemmas.List.Sorted.{IsPermutation-map, All-permutation, Contains-permutation, length_permutation}
use Rattle.std.proofs.lemmas.Map.Keys.{IsDistinct-IsPermutation}
use Rattle.std.proofs.lemmas.Bool.{eq-eqb, eqb-true}
use mathlib.Core.List.{IsPrefix}
use Rattle.acc_stamp.specs.declared.actors.Actor.{Actor}
use Rattle.acc_ports.specs.declared.disk.Disk.{Ghosts}
use Rattle.acc_message.specs.declared.item.Item.{Item}
use Rattle.acc_message.specs.Items.{same_actor}
use Rattle.acc_schedule.specs.Actors.{actors}
use Rattle.acc_schedule.specs.Content.{Content}
use Rattle.acc_schedule.specs.declared.plan.Step.{Step}
use Rattle.acc_schedule.specs.Plan.{IsPlan}
use Rattle.acc_schedule_runs.specs.Limits.{most_items, most_bytes, IsWithin}
use Rattle.acc_actors.specs.declared.slot.Slot.{Slot}
use Rattle.acc_tape.specs.ItemViews.{actor_of_item}
use Rattle.acc_tape.specs.Lists.{items_of}
use Rattle.acc_tape.specs.Seats.{TapeName, SeatView}
use Rattle.acc_desk.specs.declared.desk.Desk.{Desk}
use Rattle.acc_desk.specs.declared.hold.Hold.{Hold}
use Rattle.acc_desk.specs.Desks.{desk_with, run_with, IsAt, IsSeated, IsSound, AreSound, name_of, no_hold, state_of}
use Rattle.acc_desk.specs.Fits.{fits_plan}
use Rattle.acc_free_ending.specs.declared.rest.Rest.{Rest}
use Rattle.acc_free_ending.specs.Finish.{HaveRested}
use Rattle.acc_free.specs.Opened.{desk_actor, number_of, AreOpened}
use Rattle.acc_free.specs.Parts.{seat_in, rest_in}
use Rattle.acc_free_ending.specs.Queues.{rest_actor, AreAllActors}
use Rattle.acc_free.proofs.Joined.{IsEnd, TogetherLaw, EachLaw, UpLaw, rested}
use Rattle.acc_free_ending.proofs.Lists.{apart_sym}

-- ---- the seats and the actors

-- the seat came to the end of the tape
abbrev pub HasComeTo : List ℕ → List Item → SeatView Item → Type 0
HasComeTo made items seat = IsPrefix seat.seen items × (items_of actor_of_item seat.actor items ≡ seat.mine) × Contains made seat.actor

-- the law of desks at the end
abbrev pub EndLaw : {D : Type 0} → Ghosts D → Type 0
EndLaw {D} port =
    (strict_run : Bool) (plan : Content) (tape : TapeName) (a : Actor) (seat : SeatView Item) (slot : Slot D) (commands : List Step) (gone : ℕ) → tape.limits.items ≤ most_items
    → IsSound port (run_with strict_run plan tape) (desk_with a seat slot commands gone) → (items : List Item) → IsPrefix seat.seen items
    → items_of actor_of_item seat.actor items ≡ seat.mine → fits_plan plan items
    → IsAt port strict_run plan a (reverse items) slot (drop gone commands)

module _ {D J : Type 0} (port : Ghosts D) (strict_run : Bool) (plan : Content) (tape : TapeName) where
  abbrev Sound : Desk D J → Type 0
  Sound desk = IsSound port (run_with strict_run plan tape) (state_of desk)

  -- as the closing of the tape asks
  pub seats_ready : (desks : List (Desk D J)) (seats : List (SeatView Item)) → seats ≡ map seat_in desks → All Sound desks
      → All (λ (seat : SeatView Item). (seat.tape ≡ tape) × (seat.held_items ≡ 0) × (seat.held_weight ≡ 0)) seats
  seats_ready desks seats are all =
      All-same (λ (seat : SeatView Item). (seat.tape ≡ tape) × (seat.held_items ≡ 0) × (seat.held_weight ≡ 0)) seats (map seat_in desks) are
      (All-map (λ (seat : SeatView Item). (seat.tape ≡ tape) × (seat.held_items ≡ 0) × (seat.held_weight ≡ 0)) seat_in desks
      (All-weaker Sound (λ (desk : Desk D J). (desk.seat.tape ≡ tape) × (desk.seat.held_items ≡ 0) × (desk.seat.held_weight ≡ 0)) (λ desk s. (s.seated.tape_is, ap (λ (h : Hold). h.items) s.seated.held_is, ap (λ (h : Hold). h.weight) s.seated.held_is)) desks all))

  pub seats_seated : (desks : List (Desk D J)) (seats : List (SeatView Item)) → seats ≡ map seat_in desks → All Sound desks
      → All (λ (seat : SeatView Item). (a : Actor) × IsSeated tape a no_hold seat) seats
  seats_seated desks seats are all =
      All-same (λ (seat : SeatView Item). (a : Actor) × IsSeated tape a no_hold seat) seats (map seat_in desks) are
      (All-map (λ (seat : SeatView Item). (a : Actor) × IsSeated tape a no_hold seat) seat_in desks
      (All-weaker Sound (λ (desk : Desk D J). (a : Actor) × IsSeated tape a no_hold desk.seat) (λ desk s. (desk.actor, s.seated)) desks all))

  pub each_ends : EndLaw port → tape.limits.items ≤ most_items → (made : List ℕ) (items : List Item) → fits_plan plan items → (desks : List (Desk D J)) → All Sound desks
      → All (HasComeTo made items) (map seat_in desks)
      → AllByRecursion (IsEnd port strict_run plan (reverse items)) (map rest_in desks)
  each_ends law few made items fits [] all come = tt
  each_ends law few made items fits (desk ∷ desks) all come =
      let own = All-head Sound desk desks all in
      let here = All-head (HasComeTo made items) desk.seat (map seat_in desks) come in (
        law strict_run plan tape desk.actor desk.seat desk.slot desk.commands desk.gone few own items here.0 here.1 fits,
        each_ends law few made items fits desks (All-tail Sound desk desks all) (All-tail (HasComeTo made items) desk.seat (map seat_in desks) come),
      )

-- the same by its parts
pub same_rest : {D : Type 0} (one other : Rest D) → one.actor ≡ other.actor → one.slot ≡ other.slot → one.commands ≡ other.commands → one.gone ≡ other.gone → one ≡ other
same_rest one other actor slot commands gone = λ i. record { actor = actor i; slot = slot i; commands = commands i; gone = gone i }

pub actors_of_rests : {D J : Type 0} (desks : List (Desk D J)) → map rest_actor (map rest_in desks) ≡ map desk_actor desks
actors_of_rests [] = refl
actors_of_rests (desk ∷ desks) = ap (λ (l : List Actor). desk.actor ∷ l) (actors_of_rests desks)

-- ---- all of them, in any order

actors_by_names : {D J : Type 0} (desks : List (Desk D J)) → map desk_actor desks ≡ map (λ (name : Actor × List Step). name.0) (map name_of desks)
actors_by_names [] = refl
actors_by_names (desk ∷ desks) = ap (λ (l : List Actor). desk.actor ∷ l) (actors_by_names desks)

pub same_actors : {D J : Type 0} (desks other : List (Desk D J)) → map name_of desks ≡ map name_of other → map desk_actor desks ≡ map desk_actor other
same_actors desks other is = actors_by_names desks ∙ ap (map (λ (name : Actor × List Step). name.0)) is ∙ sym (actors_by_names other)

flips : (a b : Actor) → same_actor a b ≡ same_actor b a
flips a b = by (same_actor b a) refl
  where
    by : (test : Bool) → same_actor b a ≡ test → same_actor a b ≡ test
    by true is = eq-eqb a.0 b.0 (sym (eqb-true b.0 a.0 is))
    by false is = apart_sym b a is

module _ {D J : Type 0} (plan : Content) where
  -- the desks that were opened have all actors
  pub are_all : (port : Ghosts D) (strict_run : Bool) (tape : TapeName)
      (rank : ℕ) (first : SeatView Item) (desks : List (Desk D J))
      → AreOpened port (run_with strict_run plan tape) (actors plan.topology) rank first desks → AreAllActors plan (map desk_actor desks)
  are_all port strict_run tape rank first desks h =
      subst (AreAllActors plan) (sym h.named)
      (record {
        known = recursion_from_All (λ (a : Actor). Contains (actors plan.topology) a) (actors plan.topology) (All-contains_itself (actors plan.topology));
        each = λ a member. member;
        apart = h.before.apart;
      })

  -- in another order
  pub all_dealt : (desks dealt served : List (Desk D J)) → IsPermutation desks dealt → map name_of served ≡ map name_of dealt → AreAllActors plan (map desk_actor desks)
      → AreAllActors plan (map desk_actor served)
  all_dealt desks dealt served moved same are =
      let before = map desk_actor desks in
      let after = map desk_actor dealt in
      let p : IsPermutation before after = IsPermutation-map desk_actor desks dealt moved in
      let known : AreAllActors plan after =
      record {
        known =
            recursion_from_All (λ (a : Actor). Contains (actors plan.topology) a) after
            (All-permutation (λ (a : Actor). Contains (actors plan.topology) a) before after p
            (All-from_recursion (λ (a : Actor). Contains (actors plan.topology) a) before are.known));
        each = λ a member. Contains-permutation before after a p (are.each a member);
        apart = IsDistinct-IsPermutation same_actor flips before after p are.apart;
      } in
      subst (AreAllActors plan) (sym (same_actors served dealt same)) known

  -- each is sound there too
  pub sound_dealt : (port : Ghosts D) (strict_run : Bool) (tape : TapeName)
      (desks dealt : List (Desk D J)) → IsPermutation desks dealt → AreSound port strict_run plan tape desks
      → AreSound port strict_run plan tape dealt
  sound_dealt port strict_run tape desks dealt moved all =
      All-permutation (λ (desk : Desk D J). IsSound port (run_with strict_run plan tape) (state_of desk)) desks dealt moved all

  -- as many as seats were made
  pub as_many : (made : List ℕ) (names : List Actor) (desks dealt served : List (Desk D J)) → made ≡ map number_of names → map desk_actor desks ≡ names → IsPermutation desks dealt
      → map name_of served ≡ map name_of dealt → length made ≡ length served
  as_many made names desks dealt served made_is named moved same =
      ap length made_is ∙ length-map names number_of ∙ ap length (sym named) ∙ length-map desks desk_actor ∙ sym (length_permutation desks dealt moved)
      ∙ sym (length-map dealt name_of) ∙ ap length (sym same) ∙ length-map served name_of

-- ---- the closed tape

-- the law of the limits
abbrev pub WithinLaw : Type 0
WithinLaw =
    (tape : TapeName) (made : List ℕ) (seats : List (SeatView Item)) (items : List Item) → tape.limits.items ≤ most_items → tape.limits.weight ≤ most_bytes
    → All (λ (seat : SeatView Item). (a : Actor) × IsSeated tape a no_hold seat) seats
    → All (λ (seat : SeatView Item). IsPrefix seat.seen items × (items_of actor_of_item seat.actor items ≡ seat.mine) × Contains made seat.actor) seats
    → All (λ (item : Item). Any (λ (seat : SeatView Item). seat.actor ≡ actor_of_item item) seats) items → IsWithin (reverse items)

-- what the closing tells
pub record IsClosed (plan : Content) (made : List ℕ) (seats : List (SeatView Item)) (items : List Item) : Type 0 where
  pub come : All (λ (seat : SeatView Item). IsPrefix seat.seen items × (items_of actor_of_item seat.actor items ≡ seat.mine) × Contains made seat.actor) seats
  pub owned : All (λ (item : Item). Any (λ (seat : SeatView Item). seat.actor ≡ actor_of_item item) seats) items
  pub fits : fits_plan plan items

module _ {D J : Type 0} (port : Ghosts D) (strict_run : Bool) (plan : Content) (tape : TapeName) where
  pub closes : IsPlan plan → TogetherLaw → EachLaw → UpLaw → WithinLaw → EndLaw port
      → tape.limits.items ≤ most_items → tape.limits.weight ≤ most_bytes → (desks : List (Desk D J)) → AreAllActors plan (map desk_actor desks)
      → All (λ (desk : Desk D J). IsSound port (run_with strict_run plan tape) (state_of desk)) desks
      → (made : List ℕ) (seats : List (SeatView Item)) (items entered : List Item) (rests : List (Rest D)) → seats ≡ map seat_in desks → rests ≡ map rest_in desks → entered ≡ items
      → IsClosed plan made seats items → HaveRested port strict_run plan rests entered
  closes valid together each nobody bounds ends few light desks are all made seats items entered rests seats_are rests_are same closed =
      subst (HaveRested port strict_run plan rests) (sym same)
      (subst (λ (l : List (Rest D)). HaveRested port strict_run plan l items) (sym rests_are)
      (rested port strict_run plan valid together each nobody items closed.fits
      (bounds tape made seats items few light (seats_seated port strict_run plan tape desks seats seats_are all) closed.come closed.owned)
      (map rest_in desks) (subst (AreAllActors plan) (sym (actors_of_rests desks)) are)
      (each_ends port strict_run plan tape ends few made items closed.fits desks all
      (subst (All (HasComeTo made items)) seats_are closed.come))))

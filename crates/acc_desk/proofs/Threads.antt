-- What desks entered is one run, once their tape is closed.
use Rattle.std.proofs.Common.{◌≡◌, ℕ, zero, suc, ◌<◌, Bool, List, [], ◌∷◌, length, map, get_or, Contains, refl, sym, ◌∙◌, ap, arith}
use Rattle.std.specs.Prelude.{All, Any}
use Rattle.std.proofs.lemmas.List.Elements.{All-nil, All-cons, All-head, All-tail, All-weaker}
use mathlib.Core.List.{IsPrefix}
use Rattle.acc_ports.specs.declared.disk.Disk.{Ghosts}
use Rattle.acc_message.specs.declared.item.Item.{Item}
use Rattle.acc_schedule.specs.Content.{Content}
use Rattle.acc_tape.specs.Lists.{items_of}
use Rattle.acc_tape.specs.ItemViews.{actor_of_item}
use Rattle.acc_tape.specs.Seats.{TapeName, SeatView}
use Rattle.acc_desk.specs.declared.desk.Desk.{Desk}
use Rattle.acc_desk.specs.Desks.{run_with, IsSound, AreSound, state_of}
use Rattle.acc_desk.specs.Fits.{fits_plan}
use Rattle.acc_desk.specs.Threads.{seat_of, AreEnteredBy}
use Rattle.acc_desk.proofs.Seating.{at_actor}

-- the seat came to the end of the tape
abbrev HasComeTo : List ℕ → List Item → SeatView Item → Type 0
HasComeTo made items seat = IsPrefix seat.seen items × (items_of actor_of_item seat.actor items ≡ seat.mine) × Contains made seat.actor

module _ {D J : Type 0} (port : Ghosts D) (strict_run : Bool) (plan : Content) (tape : TapeName) (made : List ℕ) (items : List Item) where
  abbrev Sound : Desk D J → Type 0
  Sound desk = IsSound port (run_with strict_run plan tape) (state_of desk)

  abbrev HasOwn : Desk D J → Type 0
  HasOwn desk = items_of actor_of_item desk.actor.0 items ≡ desk.seat.mine

  each_own : (desks : List (Desk D J)) → All Sound desks → All (HasComeTo made items) (map seat_of desks) → All HasOwn desks
  each_own [] all come = All-nil HasOwn
  each_own (desk ∷ desks) all come =
      let s = All-head Sound desk desks all in
      let here = All-head (HasComeTo made items) desk.seat (map seat_of desks) come in
      All-cons HasOwn desk desks (at_actor desk.actor desk.seat.actor items desk.seat.mine s.seated.actor_is here.1)
      (each_own desks (All-tail Sound desk desks all) (All-tail (HasComeTo made items) desk.seat (map seat_of desks) come))

  abbrev IsOf : Item → Desk D J → Type 0
  IsOf item desk = actor_of_item item ≡ desk.actor.0

  -- the desk with the seat
  desk_of : (item : Item) (desks : List (Desk D J)) → All Sound desks → (k : ℕ) (seat : SeatView Item) → k < length (map seat_of desks) → get_or (map seat_of desks) k seat ≡ seat
      → seat.actor ≡ actor_of_item item → Any (IsOf item) desks
  desk_of item [] all k seat low at is = absurd (omega (arith, low))
  desk_of item (desk ∷ desks) all zero seat low at is =
      let s = All-head Sound desk desks all in
      (0, desk, omega arith, refl, sym is ∙ sym (ap (λ (x : SeatView Item). x.actor) at) ∙ s.seated.actor_is)
  desk_of item (desk ∷ desks) all (suc k) seat low at is =
      let a = desk_of item desks (All-tail Sound desk desks all) k seat (omega (arith, low)) at is in
      (suc a.0, a.1, omega (arith, a.2), a.3, a.4)

  pub one_run : (desks : List (Desk D J)) → AreSound port strict_run plan tape desks → All (HasComeTo made items) (map seat_of desks)
      → All (λ (item : Item). Any (λ (seat : SeatView Item). seat.actor ≡ actor_of_item item) (map seat_of desks)) items → fits_plan plan items → AreEnteredBy plan desks items
  one_run desks all come owned free =
      record {
        run = free.run;
        own = each_own desks all come;
        owned = All-weaker (λ (item : Item). Any (λ (seat : SeatView Item). seat.actor ≡ actor_of_item item) (map seat_of desks)) (λ (item : Item). Any (IsOf item) desks)
            (λ item o. desk_of item desks all o.0 o.1 o.2 o.3 o.4) items owned;
      }

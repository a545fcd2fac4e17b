-- What a closed tape gives back.
use Rattle.std.proofs.Common.{◌≡◌, ◌⊎◌, ⊎_elim, inl, inr, ℕ, zero, suc, ◌<◌, List, [], ◌∷◌, ◌++◌, length, map, Contains, All, Any, get_or, refl, sym, ap, ◌∙◌, subst, arith, length-append}
use Rattle.std.proofs.lemmas.List.{length-map}
use mathlib.Core.Option.{some, some-injective}
use mathlib.Core.List.{IsPrefix}
use lib.ListN.{get_elem?}
use Rattle.atomic_table.specs.Seated.{TableId}
use Rattle.atomic_table.specs.Table.{State, Me, Final, Seen}
use Rattle.acc_tape.specs.declared.content.Limits.{Limits}
use Rattle.acc_tape.specs.declared.content.Content.{Content}
use Rattle.acc_tape.specs.declared.view.View.{View}
use Rattle.acc_tape.specs.declared.view.Gone.{Gone}
use Rattle.acc_tape.specs.declared.view.Visit.{Visit}
use Rattle.acc_tape.specs.Lists.{items_of}
use Rattle.acc_tape.specs.Seats.{SeatView, InOneOrder}
use Rattle.acc_tape.specs.Turn.{IsResting, with_joined, seat_view, gone_seat}
use Rattle.acc_tape.specs.Rule.{Holds, one_if}
use Rattle.acc_tape.proofs.Weights.{sum_at}
use Rattle.acc_tape.proofs.Joining.{home, joined_left, joined_all, joined_logged, joined_visits}

module _ {X Y : Type 0} (f : X → Y) where
  in_map : (xs : List X) (k : ℕ) (d : X) → k < length xs → Contains (map f xs) (f (get_or xs k d))
  in_map [] k d low = absurd (omega arith)
  in_map (x ∷ xs) zero d low = (0, omega arith, refl)
  in_map (x ∷ xs) (suc k) d low = let r = in_map xs k d (omega arith) in (suc r.0, (let l = r.1 in omega arith), r.2)

  from_map_at : (xs : List X) (y : Y) (k : ℕ) → k < length (map f xs) → get_or (map f xs) k y ≡ y → Any (λ x. f x ≡ y) xs
  from_map_at [] y k low is = absurd (omega arith)
  from_map_at (x ∷ xs) y zero low is = (0, x, omega arith, refl, is)
  from_map_at (x ∷ xs) y (suc k) low is = let r = from_map_at xs y k (omega arith) is in (suc r.0, r.1, (let l = r.2 in omega arith), r.3, r.4)

  from_map : (xs : List X) (y : Y) → Contains (map f xs) y → Any (λ x. f x ≡ y) xs
  from_map xs y is = from_map_at xs y is.0 is.1 is.2

itself : {X : Type 0} (xs : List X) (k : ℕ) (d : X) → k < length xs → Contains xs (get_or xs k d)
itself [] k d low = absurd (omega arith)
itself (x ∷ xs) zero d low = (0, omega arith, refl)
itself (x ∷ xs) (suc k) d low = let r = itself xs k d (omega arith) in (suc r.0, (let l = r.1 in omega arith), r.2)

none_before : {X : Type 0} (xs : List X) → length xs ≡ 0 → xs ≡ []
none_before [] e = refl
none_before (x ∷ xs) e = absurd (omega arith)

module _ {E : Type 0} (actor_of : E → ℕ) (limits : Limits) where
  pub record Ends (seen : List E) (made : List ℕ) (others : List (SeatView E)) (items : List E) : Type 0 where
    pub first : IsPrefix seen items
    pub seats : All (λ (seat : SeatView E). IsPrefix seat.seen items × (items_of actor_of seat.actor items ≡ seat.mine) × Contains made seat.actor) others
    pub owned : All (λ item. Any (λ (seat : SeatView E). seat.actor ≡ actor_of item) others) items

  module _ (s : State (Content E) (View E)) (h : Holds actor_of limits s) (id : ℕ) (v : View E) (at : get_elem? s.views id ≡ some v) (rests : IsResting (v, [])) (first : v.actor ≡ 0)
      (before : List (Gone E)) (others : List (SeatView E)) (joined : v.joined ≡ before ++ map gone_seat others) (count : length others ≡ length v.made) where
    none_earlier : before ≡ []
    none_earlier = none_before before (
        let sit = h.live id v at rests.is_live in
        let a = sum_at (λ (u : View E). one_if u.is_live) s.views id v at in
        let o : one_if v.is_live ≡ 1 = ap one_if rests.is_live in
        let k = h.counted in
        let m = ap length (sit.first first).0 in
        let g = ap length (sit.first first).1 in
        let j = ap length joined ∙ length-append before (map gone_seat others) in
        let n = length-map others gone_seat in
        omega arith)

    joined_is : v.joined ≡ map gone_seat others
    joined_is = joined ∙ ap (λ l. l ++ map gone_seat others) none_earlier

    all_joined : length v.joined ≡ length v.made
    all_joined = ap length joined_is ∙ length-map others gone_seat ∙ count

    pub ends : Ends v.seen v.made others h.b.items
    ends = record {
      first = (h.live id v at rests.is_live).seen;
      seats = λ k d low.
          let seat = get_or others k d in
          let l = joined_left actor_of limits s h id v at rests first all_joined (gone_seat seat) (subst (λ l. Contains l (gone_seat seat)) (sym joined_is) (in_map gone_seat others k d low)) in
          (l.seen, sym l.mine, subst (λ m. Contains m seat.actor) (sym ((h.live id v at rests.is_live).first first).0) l.among);
      owned = λ k d low.
          let item = get_or h.b.items k d in
          let g = joined_all actor_of limits s h id v at rests first all_joined item (itself h.b.items k d low) in
          let a = from_map gone_seat others g.0 (subst (λ l. Contains l g.0) joined_is g.1) in
          (a.0, a.1, a.2, a.3, ap (λ (x : Gone E). x.actor) a.4 ∙ g.2);
    }

    -- whose a visit is
    owner : (visit : Visit) → Contains h.log visit → (visit.actor ≡ v.actor) ⊎ Any (λ (seat : SeatView E). seat.actor ≡ visit.actor) others
    owner visit is = ⊎_elim
        (λ (z : visit.actor ≡ 0). inl (z ∙ sym first))
        (λ (j : (g : Gone E) × Contains v.joined g × (g.actor ≡ visit.actor)).
        let a = from_map gone_seat others j.0 (subst (λ l. Contains l j.0) joined_is j.1) in
        inr (a.0, a.1, a.2, a.3, ap (λ (x : Gone E). x.actor) a.4 ∙ j.2))
        (joined_visits actor_of limits s h id v at rests first all_joined visit is)

    pub in_order : (table : TableId) → InOneOrder (seat_view table v) others
    in_order table =
        let knows = h.logged id v at rests.is_live in record {
          all = h.log;
          first_knew = knows.visits;
          first_own = sym knows.own;
          seats = λ k d low.
              let seat = get_or others k d in
              let l = joined_logged actor_of limits s h id v at rests first all_joined (gone_seat seat) (subst (λ l. Contains l (gone_seat seat)) (sym joined_is) (in_map gone_seat others k d low)) in
              (l.visits, sym l.own);
          owned = λ k d low. owner (get_or h.log k d) (itself h.log k d low);
        }

    pub slot_home : h.slot ≡ some h.b
    slot_home = home actor_of limits s h id v at rests first all_joined

  -- what the table has at the end, as the first seat and the result are seen
  pub closes : (id : ℕ) (m n : Me (Content E) (View E)) (table : TableId) (seat : SeatView E) (others : List (SeatView E)) → IsResting m → seat_view table m.0 ≡ seat → seat.actor ≡ 0 → n ≡ with_joined m (map gone_seat others) → length others ≡ length seat.made
      → (words : List ℕ) (slots : List (Content E)) → Final (Seen (Holds actor_of limits) id n.0) words slots → (board : Content E) → get_elem? slots 0 ≡ some board → (items : List E) → items ≡ board.items → Ends seat.seen seat.made others items
  closes id m n table seat others rests is first joined count words slots final board there items items_are =
      let s = final.0 in
      let h = final.1.0 in
      let v = (with_joined m (map gone_seat others)).0 in
      let at : get_elem? s.views id ≡ some v = final.1.1 ∙ ap (λ (x : Me (Content E) (View E)). some x.0) joined in
      let bare : IsResting (v, []) = record { is_live = rests.is_live; no_ticket = rests.no_ticket; no_turn = rests.no_turn; no_slot = refl; first = rests.first } in
      let z : m.0.actor ≡ 0 = ap (λ (x : SeatView E). x.actor) is ∙ first in
      let all : length others ≡ length m.0.made = count ∙ ap (λ (x : SeatView E). length x.made) (sym is) in
      let e = ends s h id v at bare z m.0.joined others refl all in
      let home' = slot_home s h id v at bare z m.0.joined others refl all in
      let same : h.b ≡ board = some-injective h.b board (sym (final.4 0 h.b (ap (λ l. get_elem? l 0) h.homes_are ∙ ap (λ x. some x) home')) ∙ there) in
      subst (λ (x : SeatView E × List E). Ends x.0.seen x.0.made others x.1) (λ i. (is i, (ap (λ (b : Content E). b.items) same ∙ sym items_are) i)) e

  -- and all visits that there were
  pub closes_visits : (id : ℕ) (m n : Me (Content E) (View E)) (table : TableId) (seat : SeatView E) (others : List (SeatView E)) → IsResting m → seat_view table m.0 ≡ seat → seat.actor ≡ 0 → n ≡ with_joined m (map gone_seat others) → length others ≡ length seat.made
      → (words : List ℕ) (slots : List (Content E)) → Final (Seen (Holds actor_of limits) id n.0) words slots → InOneOrder seat others
  closes_visits id m n table seat others rests is first joined count words slots final =
      let s = final.0 in
      let h = final.1.0 in
      let v = (with_joined m (map gone_seat others)).0 in
      let at : get_elem? s.views id ≡ some v = final.1.1 ∙ ap (λ (x : Me (Content E) (View E)). some x.0) joined in
      let bare : IsResting (v, []) = record { is_live = rests.is_live; no_ticket = rests.no_ticket; no_turn = rests.no_turn; no_slot = refl; first = rests.first } in
      let z : m.0.actor ≡ 0 = ap (λ (x : SeatView E). x.actor) is ∙ first in
      let all : length others ≡ length m.0.made = count ∙ ap (λ (x : SeatView E). length x.made) (sym is) in
      subst (λ (x : SeatView E). InOneOrder x others) is (in_order s h id v at bare z m.0.joined others refl all table)

-- Where the only seats of a tape reserved nothing and entered nothing, nothing stands on it and nothing is reserved.
use Rattle.std.proofs.Common.{◌≡◌, ◌⊎◌, ⊎_elim, inl, inr, ℕ, suc, ◌+◌, ◌<◌, ◌≤◌, ◌==◌, Bool, true, false, cond, List, [], ◌∷◌, length, get_or, All, Any, Contains, Result, Ok, Err, IfOk, IsOk, refl, sym, ap, ◌∙◌, subst, arith, eq-eqb}
use Rattle.std.specs.Prelude.{sum_by}
use Rattle.std.proofs.lemmas.List.Sums.{sum_by-cons, sum_by-append}
use mathlib.Core.List.{IsPrefix}
use Rattle.acc_tape.specs.declared.view.Visit.{Visit}
use Rattle.acc_tape.specs.declared.content.Limits.{Limits}
use Rattle.acc_tape.specs.declared.error.TapeError.{TapeError}
use Rattle.acc_tape.specs.Lists.{items_of}
use Rattle.acc_tape.specs.Refusals.{Refuses}
use Rattle.acc_tape.specs.Seats.{SeatView, InOneOrder}
use Rattle.acc_tape.specs.Visits.{visits_of, AreReserved, plain_visit}

-- ---- visits of two seats

module _ (f : Visit → ℕ) (visit : Visit) (visits : List Visit) where
  no_less : (is : Bool) → sum_by f visits ≤ sum_by f (cond is (visit ∷ visits) visits)
  no_less true = let c = sum_by-cons f visit visits in omega arith
  no_less false = omega arith

with_own : (f : Visit → ℕ) (actor : ℕ) (visit : Visit) (visits : List Visit) → visit.actor ≡ actor → sum_by f (visits_of actor (visit ∷ visits)) ≡ f visit + sum_by f (visits_of actor visits)
with_own f actor visit visits is =
    ap (λ b. sum_by f (cond b (visit ∷ visits_of actor visits) (visits_of actor visits))) (eq-eqb visit.actor actor is) ∙ sum_by-cons f visit (visits_of actor visits)

-- where each visit is of one of two seats, all of them come to no more than those of the two
of_two : (f : Visit → ℕ) (a b : ℕ) (all : List Visit) → All (λ (visit : Visit). (visit.actor ≡ a) ⊎ (visit.actor ≡ b)) all → sum_by f all ≤ sum_by f (visits_of a all) + sum_by f (visits_of b all)
of_two f a b [] each = omega arith
of_two f a b (visit ∷ visits) each =
    let rest = of_two f a b visits (λ k d low. each (suc k) d (omega arith)) in
    let all = sum_by-cons f visit visits in
    let a' : sum_by f (visits_of a visits) ≤ sum_by f (visits_of a (visit ∷ visits)) = no_less f visit (visits_of a visits) (visit.actor == a) in
    let b' : sum_by f (visits_of b visits) ≤ sum_by f (visits_of b (visit ∷ visits)) = no_less f visit (visits_of b visits) (visit.actor == b) in
    ⊎_elim
    (λ (is : visit.actor ≡ a). let more = with_own f a visit visits is in omega arith)
    (λ (is : visit.actor ≡ b). let more = with_own f b visit visits is in omega arith)
    (each 0 visit (omega arith))

-- ---- one seat

one_any : {X : Type 0} (P : X → Type 0) (x : X) → Any P (x ∷ []) → P x
one_any P x a =
    let low : a.0 < 1 = a.2 in
    let first : a.0 ≡ 0 = omega arith in
    subst P (sym (ap (λ k. get_or (x ∷ []) k a.1) (sym first) ∙ a.3)) a.4

module _ {E : Type 0} (actor_of : E → ℕ) where
  -- where each item is of an actor that has none, there are none
  no_items : (actor : ℕ) (items : List E) → All (λ item. actor ≡ actor_of item) items → items_of actor_of actor items ≡ [] → items ≡ []
  no_items actor [] each none = refl
  no_items actor (item ∷ items) each none =
      let own = ap (λ b. cond b (item ∷ items_of actor_of actor items) (items_of actor_of actor items)) (eq-eqb (actor_of item) actor (sym (each 0 item (omega arith)))) in
      let count = ap (λ l. length l) (sym own ∙ none) in
      absurd (omega arith)

  none_first : (xs ys : List E) → IsPrefix xs ys → ys ≡ [] → xs ≡ []
  none_first [] ys is none = refl
  none_first (x ∷ xs) ys is none = let count = ap (λ l. length l) (is.1 ∙ none) in absurd (omega arith)

  module _ (first seat : SeatView E) (own : first.own ≡ plain_visit first.actor ∷ []) (seat_own : seat.own ≡ plain_visit seat.actor ∷ []) (order : InOneOrder first (seat ∷ [])) where
    each : All (λ (visit : Visit). (visit.actor ≡ first.actor) ⊎ (visit.actor ≡ seat.actor)) order.all
    each k d low = ⊎_elim
        (λ (z : (get_or order.all k d).actor ≡ first.actor). inl z)
        (λ (a : Any (λ (s : SeatView E). s.actor ≡ (get_or order.all k d).actor) (seat ∷ [])). inr (sym (one_any (λ (s : SeatView E). s.actor ≡ (get_or order.all k d).actor) seat a)))
        (order.owned k d low)

    nothing : (f : Visit → ℕ) → f (plain_visit first.actor) ≡ 0 → f (plain_visit seat.actor) ≡ 0 → sum_by f seat.visits ≡ 0
    nothing f a b =
        let s = order.seats 0 seat (omega arith) in
        let all = of_two f first.actor seat.actor order.all each in
        let x : sum_by f (visits_of first.actor order.all) ≡ 0 = ap (λ l. sum_by f l) (order.first_own ∙ own) ∙ sum_by-cons f (plain_visit first.actor) [] ∙ ap (λ n. n + 0) a in
        let y : sum_by f (visits_of seat.actor order.all) ≡ 0 = ap (λ l. sum_by f l) (s.1 ∙ seat_own) ∙ sum_by-cons f (plain_visit seat.actor) [] ∙ ap (λ n. n + 0) b in
        let parts = ap (λ l. sum_by f l) (sym s.0.1) ∙ sum_by-append f seat.visits s.0.0 in
        omega arith

    none_reserved : AreReserved seat.visits seat.out_count seat.out_weight → (seat.out_count ≡ 0) × (seat.out_weight ≡ 0)
    none_reserved is =
        let a = is.items_are in
        let b = is.weight_is in
        let x = nothing (λ (visit : Visit). visit.items) refl refl in
        let y = nothing (λ (visit : Visit). visit.weight) refl refl in
        (omega arith, omega arith)

    -- so what a reservation was refused for is itself
    pub refused_alone : (bytes : E → ℕ) (items : List E) → seat.mine ≡ [] → AreReserved seat.visits seat.out_count seat.out_weight → IsPrefix seat.seen items → items_of actor_of seat.actor items ≡ seat.mine → All (λ item. Any (λ (s : SeatView E). s.actor ≡ actor_of item) (seat ∷ [])) items
        → (limits : Limits) (count weight : ℕ) (error : TapeError) → Refuses limits (length seat.seen + seat.out_count) (sum_by bytes seat.seen + seat.out_weight) count weight error → Refuses limits 0 0 count weight error
    refused_alone bytes items mine reserved begins has owned limits count weight error refuses =
        let none = no_items seat.actor items (λ k d low. one_any (λ (s : SeatView E). s.actor ≡ actor_of (get_or items k d)) seat (owned k d low)) (has ∙ mine) in
        let seen : seat.seen ≡ [] = none_first seat.seen items begins none in
        let out = none_reserved reserved in
        subst (λ (x : List E × ℕ × ℕ). Refuses limits (length x.0 + x.1) (sum_by bytes x.0 + x.2) count weight error) (λ i. (seen i, out.0 i, out.1 i)) refuses

-- ---- what a closed tape tells of its only seat

both_ok : {T F : Type 0} (P Q : T → Type 0) (r : Result T F) → IsOk r → IfOk r P → IfOk r Q → (x : T) × P x × Q x
both_ok P Q (Ok x) ok p q = (x, p, q)
both_ok P Q (Err e) ok p q = absurd (cc)

module _ {E L : Type 0} (actor_of bytes : E → ℕ) (in_list : L → List E) where
  pub refused_first : (first seat : SeatView E) (others : List (SeatView E)) → others ≡ seat ∷ [] → first.own ≡ plain_visit first.actor ∷ [] → seat.own ≡ plain_visit seat.actor ∷ [] → seat.mine ≡ [] → AreReserved seat.visits seat.out_count seat.out_weight → InOneOrder first others
      → {F : Type 0} (closed : Result L F) (made : List ℕ) → IsOk closed → IfOk closed (λ list. All (λ (s : SeatView E). IsPrefix s.seen (in_list list) × (items_of actor_of s.actor (in_list list) ≡ s.mine) × Contains made s.actor) others)
      → IfOk closed (λ list. All (λ item. Any (λ (s : SeatView E). s.actor ≡ actor_of item) others) (in_list list))
      → (limits : Limits) (count weight : ℕ) (error : TapeError) → Refuses limits (length seat.seen + seat.out_count) (sum_by bytes seat.seen + seat.out_weight) count weight error → Refuses limits 0 0 count weight error
  refused_first first seat others is own seat_own mine reserved order closed made ok seats owned limits count weight error refuses =
      let b = both_ok (λ list. All (λ (s : SeatView E). IsPrefix s.seen (in_list list) × (items_of actor_of s.actor (in_list list) ≡ s.mine) × Contains made s.actor) others) (λ list. All (λ item. Any (λ (s : SeatView E). s.actor ≡ actor_of item) others) (in_list list)) closed ok seats owned in
      let items = in_list b.0 in
      let one = subst (λ (l : List (SeatView E)). All (λ (s : SeatView E). IsPrefix s.seen items × (items_of actor_of s.actor items ≡ s.mine) × Contains made s.actor) l) is b.1 0 seat (omega arith) in
      let all = subst (λ (l : List (SeatView E)). All (λ item. Any (λ (s : SeatView E). s.actor ≡ actor_of item) l) items) is b.2 in
      refused_alone actor_of first seat own seat_own (subst (λ (l : List (SeatView E)). InOneOrder first l) is order) bytes items mine reserved one.0 one.1 all limits count weight error refuses

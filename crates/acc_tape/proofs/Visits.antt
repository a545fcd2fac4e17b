-- What a call on the tape may leave in the slot, and what its seat knows then.
use Rattle.std.proofs.Common.{◌≡◌, ◌≢◌, ℕ, ◌+◌, ◌-◌, ◌≤◌, ◌==◌, true, List, [], ◌∷◌, ◌++◌, length, Contains, Result, Ok, Err, OnOk, OnErr, All, get_or, refl, sym, ap, ◌∙◌, subst, arith, length-append, append-nil}
use Rattle.std.specs.Prelude.{sum_by}
use mathlib.Core.List.{IsPrefix}
use Rattle.std.proofs.Math.Seq.{get_or-append_seam}
use Rattle.std.proofs.lemmas.List.Elements.{filter-append}
use Rattle.atomic_table.specs.Table.{Me, rest}
use Rattle.atomic_table.specs.Seated.{TableId}
use Rattle.acc_tape.specs.declared.content.Content.{Content}
use Rattle.acc_tape.specs.declared.content.Limits.{Limits}
use Rattle.acc_tape.specs.declared.view.View.{View}
use Rattle.acc_tape.specs.declared.view.Gone.{Gone}
use Rattle.acc_tape.specs.declared.view.Visit.{Visit}
use Rattle.acc_tape.specs.Lists.{items_of}
use Rattle.acc_tape.specs.Seats.{SeatView, Turns, Visited, ComeLast}
use Rattle.acc_tape.specs.Visits.{plain_visit, reserving, giving_up}
use Rattle.acc_tape.specs.Rule.{splitter}
use Rattle.acc_tape.specs.Turn.{IsResting, Learns, HasTurn, MayLeave, CanLeave, IsWithin, waiting, knowing, turning, visit_of, left, view_after, held_after, now_of, seat_view, with_joined}
use Rattle.acc_tape.proofs.Logs.{own_more, all_more, holds_more, plain_is, reserving_is, giving_up_is}
use Rattle.acc_tape.proofs.Weights.{prefix_longer, in_none, in_one, in_all, all_of}

-- what is reserved for a seat after the same, more, and less is reserved for all
same_held : (held before now : ℕ) → now ≡ before → held_after held before now ≡ held
same_held held before now is = omega arith

more_held : (held before now more : ℕ) → now ≡ before + more → held_after held before now ≡ held + more
more_held held before now more is = omega arith

less_held : (held before now less : ℕ) → less ≤ held → held ≤ before → now ≡ before - less → held_after held before now ≡ held - less
less_held held before now less low high is = omega arith

-- a fact of a result that is Ok
pub on_ok : {T F P Q : Type 0} (r : Result T F) → (P → Q) → OnOk r P → OnOk r Q
on_ok (Ok x) f p = f p
on_ok (Err e) f p = tt

pub on_err : {T F P Q : Type 0} (r : Result T F) → (P → Q) → OnErr r P → OnErr r Q
on_err (Ok x) f p = tt
on_err (Err e) f p = f p

module _ {E : Type 0} (actor_of bytes : E → ℕ) (fits : List E → Type 0) where
  abbrev M : Type 0
  M = Me (Content E) (View E)

  -- what a seat may leave
  abbrev pub May : View E → Content E → Content E → Type 0
  May v x now = MayLeave actor_of v.actor v.held_items v.held_weight x now

  -- ---- the turn

  -- what a seat has once its turn has come
  abbrev pub Opened : View E → M → Content E → Type 0
  Opened v m x = (ticket : ℕ) × (log : List Visit) × (m ≡ (turning (waiting v ticket) x log, (0, x) ∷ [])) × Learns actor_of v x log

  pub opened : (v : View E) (m : M) → HasTurn actor_of v m → (x : Content E) → m.1 ≡ (0, x) ∷ rest m.1 → Opened v m x
  opened v m turn x value =
      let same : turn.1 ≡ x = sym (ap now_of (sym value) ∙ ap (λ n. now_of n.1) turn.3) in
      subst (Opened v m) same (turn.0, turn.2, turn.3, turn.4)

  pub can_leave : (v : View E) (m : M) (x now : Content E) → Opened v m x → v.is_live ≡ true → May v x now → CanLeave actor_of (m.0, (0, now) ∷ rest m.1)
  can_leave v m x now o is_live may =
      subst (λ (n : M). CanLeave actor_of (n.0, (0, now) ∷ rest n.1)) (sym o.2) (is_live, (x, now, refl, refl, may))

  pub closed : (v : View E) (m : M) (x now : Content E) (o : Opened v m x) → (after : M) → after ≡ left actor_of (m.0, (0, now) ∷ rest m.1) → after ≡ (view_after actor_of (knowing v o.1) x now, [])
  closed v m x now o after is = is ∙ ap (λ (n : M). left actor_of (n.0, (0, now) ∷ rest n.1)) o.2

  -- ---- what may be left

  pub same_may : (v : View E) (x now : Content E) → IsResting (v, []) → now.items ≡ x.items → now.reserved ≡ x.reserved → now.reserved_weight ≡ x.reserved_weight → now.limits ≡ x.limits → May v x now
  same_may v x now rests items reserved weight limits = record {
    new = [];
    grows = items ∙ sym (append-nil x.items);
    by_it = λ item is. absurd (in_none item is);
    limits = limits;
    counts = omega arith;
    weights = omega arith;
    first = λ z. (reserved, weight);
  }

  pub still_may : (v : View E) (x now : Content E) → IsResting (v, []) → now ≡ x → May v x now
  still_may v x now rests is = same_may v x now rests (ap (λ (c : Content E). c.items) is) (ap (λ (c : Content E). c.reserved) is) (ap (λ (c : Content E). c.reserved_weight) is) (ap (λ (c : Content E). c.limits) is)

  pub more_may : (v : View E) (x now : Content E) (k w : ℕ) → v.actor ≢ 0 → now ≡ record x { reserved = x.reserved + k; reserved_weight = x.reserved_weight + w } → May v x now
  more_may v x now k w nz is =
      let r : now.reserved ≡ x.reserved + k = ap (λ (c : Content E). c.reserved) is in
      let rw' : now.reserved_weight ≡ x.reserved_weight + w = ap (λ (c : Content E). c.reserved_weight) is in record {
        new = [];
        grows = ap (λ (c : Content E). c.items) is ∙ sym (append-nil x.items);
        by_it = λ item is. absurd (in_none item is);
        limits = ap (λ (c : Content E). c.limits) is;
        counts = omega arith;
        weights = omega arith;
        first = λ z. absurd (nz z);
      }

  -- the board with so much less reserved, and some items more
  abbrev pub Less : Content E → ℕ → ℕ → List E → Content E
  Less x k w new = record x { items = x.items ++ new; reserved = x.reserved - k; reserved_weight = x.reserved_weight - w }

  abbrev pub Released : Content E → ℕ → ℕ → Content E
  Released x k w = record x { reserved = x.reserved - k; reserved_weight = x.reserved_weight - w }

  pub released : (x : Content E) (k w : ℕ) → Released x k w ≡ Less x k w []
  released x k w i = record x { items = sym (append-nil x.items) i; reserved = x.reserved - k; reserved_weight = x.reserved_weight - w }

  -- so much less is reserved for the seat, and some items of its actor are more
  pub less_may : (v : View E) (x now : Content E) (k w : ℕ) (new : List E) → IsResting (v, []) → k ≤ v.held_items → w ≤ v.held_weight → ((item : E) → Contains new item → (actor_of item ≡ v.actor) × (1 ≤ k)) → now ≡ Less x k w new → May v x now
  less_may v x now k w new rests low low' own is =
      let r : now.reserved ≡ x.reserved - k = ap (λ (c : Content E). c.reserved) is in
      let rw' : now.reserved_weight ≡ x.reserved_weight - w = ap (λ (c : Content E). c.reserved_weight) is in
      record {
        new = new;
        grows = ap (λ (c : Content E). c.items) is;
        by_it = λ item in'. let o = own item in' in let some = o.1 in (o.0, λ z. let none = (rests.first z).0 in omega arith);
        limits = ap (λ (c : Content E). c.limits) is;
        counts = omega arith;
        weights = omega arith;
        first = λ z. let f = rests.first z in let f0 = f.0 in let f1 = f.1 in (omega arith, omega arith);
      }

  -- ---- what the seat knows after the turn

  pub record After (old new : SeatView E) (x now : Content E) : Type 0 where
    pub turns : Turns actor_of bytes fits old new
    pub made : new.made ≡ old.made
    pub held_items : new.held_items ≡ held_after old.held_items x.reserved now.reserved
    pub held_weight : new.held_weight ≡ held_after old.held_weight x.reserved_weight now.reserved_weight
    pub counted : old.held_items ≤ x.reserved
    pub weighed : old.held_weight ≤ x.reserved_weight
    pub begins : IsPrefix old.seen x.items
    pub seen : new.seen ≡ now.items
    pub out_count : new.out_count ≡ now.reserved
    pub out_weight : new.out_weight ≡ now.reserved_weight
    pub visited : Visited old new (visit_of old.actor x now)
    pub had : old.mine ≡ items_of actor_of old.actor x.items
    pub has : new.mine ≡ items_of actor_of old.actor now.items

  turned : (v : View E) (x now : Content E) (log : List Visit) (table : TableId) → Learns actor_of v x log → May v x now → IsWithin bytes fits now → After (seat_view table v) (seat_view table (view_after actor_of (knowing v log) x now)) x now
  turned v x now log table learns may within =
      let visit = visit_of v.actor x now in
      let limits : now.limits ≡ v.limits = may.limits ∙ learns.limits in
      let c = may.counts in
      let w = may.weights in
      let c0 = learns.counted in
      let c1 = learns.weighed in record {
        turns = record {
          tape = refl;
          actor = refl;
          seen = prefix_longer v.seen x.items now.items may.new learns.seen may.grows;
          mine = refl;
          within_items = subst (λ (l : Limits). length now.items + now.reserved ≤ l.items) limits within.items;
          within_weight = subst (λ (l : Limits). sum_by bytes now.items + now.reserved_weight ≤ l.weight) limits within.weight;
          counted = omega arith;
          weighed = omega arith;
          visits = prefix_longer v.visits log (log ++ visit ∷ []) (visit ∷ []) learns.visits refl;
          own = sym (own_more v.actor log v.own visit refl learns.own);
          reserved = all_more v.actor log x now learns.summed;
          holds = holds_more v.actor v.own x now v.held_items v.held_weight may.counts may.weights learns.holds;
          fitting = within.fitting;
        };
        made = refl;
        held_items = refl;
        held_weight = refl;
        counted = learns.counted;
        weighed = learns.weighed;
        begins = learns.seen;
        seen = refl;
        out_count = refl;
        out_weight = refl;
        visited = record { before = log; last = refl; begins = learns.visits; own_last = refl };
        had = learns.mine;
        has = refl;
      }

  pub after : (v : View E) (x now : Content E) (log : List Visit) (table table' : TableId) (m : M) (old : SeatView E) → Learns actor_of v x log → May v x now → IsWithin bytes fits now → seat_view table v ≡ old → table' ≡ table → m ≡ (view_after actor_of (knowing v log) x now, []) → After old (seat_view table' m.0) x now
  after v x now log table table' m old learns may within is same left =
      subst (λ (p : SeatView E × SeatView E). After p.0 p.1 x now) (λ i. (is i, seat_view (sym same i) (sym left i).0)) (turned v x now log table learns may within)

  pub rests_after : (v : View E) (x now : Content E) (log : List Visit) (m : M) → IsResting (v, []) → May v x now → m ≡ (view_after actor_of (knowing v log) x now, []) → IsResting m
  rests_after v x now log m rests may left =
      subst IsResting (sym left) record {
        is_live = rests.is_live;
        no_ticket = refl;
        no_turn = refl;
        no_slot = refl;
        first = λ z. let f = rests.first z in let s = may.first z in let f0 = f.0 in let f1 = f.1 in let s0 = s.0 in let s1 = s.1 in (omega arith, omega arith);
      }

  -- the items that the seat entered are the same, or some more
  pub same_mine : (old new : SeatView E) (x now : Content E) → After old new x now → now.items ≡ x.items → new.mine ≡ old.mine
  same_mine old new x now a is = a.has ∙ ap (items_of actor_of old.actor) is ∙ sym a.had

  pub more_mine : (old new : SeatView E) (x now : Content E) (items : List E) → After old new x now → now.items ≡ x.items ++ items → ((item : E) → Contains items item → actor_of item ≡ old.actor) → new.mine ≡ old.mine ++ items
  more_mine old new x now items a is own =
      a.has ∙ ap (items_of actor_of old.actor) is ∙ filter-append (λ i. actor_of i == old.actor) x.items items ∙ (λ i. sym a.had i ++ all_of actor_of old.actor items own i)

  -- they stand last
  pub last_come : (old new : SeatView E) (x now : Content E) (items : List E) → After old new x now → now.items ≡ x.items ++ items → fits x.items → ComeLast actor_of fits old new.seen items
  last_come old new x now items a is fitting = record { before = x.items; seen_is = a.seen ∙ is; begins = a.begins; mine = sym a.had; fitting = fitting }

  -- what is reserved for the seat
  pub same_kept : (old new : SeatView E) (x now : Content E) → After old new x now → now.reserved ≡ x.reserved → now.reserved_weight ≡ x.reserved_weight → (new.held_items ≡ old.held_items) × (new.held_weight ≡ old.held_weight)
  same_kept old new x now a count weight = (a.held_items ∙ same_held old.held_items x.reserved now.reserved count, a.held_weight ∙ same_held old.held_weight x.reserved_weight now.reserved_weight weight)

  pub more_kept : (old new : SeatView E) (x now : Content E) (k w : ℕ) → After old new x now → now ≡ record x { reserved = x.reserved + k; reserved_weight = x.reserved_weight + w } → (new.held_items ≡ old.held_items + k) × (new.held_weight ≡ old.held_weight + w)
  more_kept old new x now k w a is = (
    a.held_items ∙ more_held old.held_items x.reserved now.reserved k (ap (λ (c : Content E). c.reserved) is),
    a.held_weight ∙ more_held old.held_weight x.reserved_weight now.reserved_weight w (ap (λ (c : Content E). c.reserved_weight) is),
  )

  pub less_kept : (old new : SeatView E) (x now : Content E) (k w : ℕ) (items : List E) → After old new x now → k ≤ old.held_items → w ≤ old.held_weight → now ≡ Less x k w items → (new.held_items ≡ old.held_items - k) × (new.held_weight ≡ old.held_weight - w)
  less_kept old new x now k w items a low low' is = (
    a.held_items ∙ less_held old.held_items x.reserved now.reserved k low a.counted (ap (λ (c : Content E). c.reserved) is),
    a.held_weight ∙ less_held old.held_weight x.reserved_weight now.reserved_weight w low' a.weighed (ap (λ (c : Content E). c.reserved_weight) is),
  )

  -- ---- what the visit was

  pub visit_plain : (old new : SeatView E) (x now : Content E) → After old new x now → now.reserved ≡ x.reserved → now.reserved_weight ≡ x.reserved_weight → Visited old new (plain_visit old.actor)
  visit_plain old new x now a count weight = subst (Visited old new) (plain_is old.actor x now count weight) a.visited

  pub visit_reserving : (old new : SeatView E) (x now : Content E) (k w : ℕ) → After old new x now → now ≡ record x { reserved = x.reserved + k; reserved_weight = x.reserved_weight + w } → Visited old new (reserving old.actor k w)
  visit_reserving old new x now k w a is = subst (Visited old new) (reserving_is old.actor x now k w (ap (λ (c : Content E). c.reserved) is) (ap (λ (c : Content E). c.reserved_weight) is)) a.visited

  pub visit_giving_up : (old new : SeatView E) (x now : Content E) (k w : ℕ) (items : List E) → After old new x now → k ≤ old.held_items → w ≤ old.held_weight → now ≡ Less x k w items → Visited old new (giving_up old.actor k w)
  visit_giving_up old new x now k w items a low low' is =
      let c = a.counted in
      let d = a.weighed in
      subst (Visited old new) (giving_up_is old.actor x now k w (omega arith) (omega arith) (ap (λ (c : Content E). c.reserved) is) (ap (λ (c : Content E). c.reserved_weight) is)) a.visited

  -- ---- a reservation

  pub reserves : (v : View E) (x now : Content E) (k w : ℕ) {F : Type 0} (r : Result (Unit {0}) F) → IsResting (v, []) → v.actor ≢ 0 → OnOk r (now ≡ record x { reserved = x.reserved + k; reserved_weight = x.reserved_weight + w }) → OnErr r (now ≡ x) → May v x now
  reserves v x now k w (Ok u) rests nz ok err = more_may v x now k w nz ok
  reserves v x now k w (Err e) rests nz ok err = still_may v x now rests err

  -- ---- a whole call

  pub bare : (m : M) → IsResting m → IsResting (m.0, [])
  bare m r = record { is_live = r.is_live; no_ticket = r.no_ticket; no_turn = r.no_turn; no_slot = refl; first = r.first }

  pub may_leave : (m : M) → IsResting m → (m1 : M) → HasTurn actor_of m.0 m1 → (x : Content E) → m1.1 ≡ (0, x) ∷ rest m1.1
      → (now : Content E) → May m.0 x now → CanLeave actor_of (m1.0, (0, now) ∷ rest m1.1)
  may_leave m rests m1 turn x value now may = can_leave m.0 m1 x now (opened m.0 m1 turn x value) rests.is_live may

  pub learns_of : (m m1 : M) (turn : HasTurn actor_of m.0 m1) (x : Content E) (value : m1.1 ≡ (0, x) ∷ rest m1.1) → Learns actor_of m.0 x (opened m.0 m1 turn x value).1
  learns_of m m1 turn x value = (opened m.0 m1 turn x value).3

  pub visits : (m : M) (table : TableId) (old : SeatView E) → IsResting m → seat_view table m.0 ≡ old → (m1 : M) → HasTurn actor_of m.0 m1 → (x : Content E) → m1.1 ≡ (0, x) ∷ rest m1.1
      → (now : Content E) → May m.0 x now → IsWithin bytes fits now → (table' : TableId) → table' ≡ table → (m2 : M) → m2 ≡ left actor_of (m1.0, (0, now) ∷ rest m1.1)
      → (IsResting m2) × After old (seat_view table' m2.0) x now
  visits m table old rests is m1 turn x value now may within table' same m2 left' =
      let o = opened m.0 m1 turn x value in
      let e = closed m.0 m1 x now o m2 left' in
      (rests_after m.0 x now o.1 m2 (bare m rests) may e, after m.0 x now o.1 table table' m2 old o.3 may within is same e)

  -- ---- what is reserved is given up, and items are entered

  -- what a seat holds, as it is seen
  pub holds_of : (m : M) (table : TableId) (old : SeatView E) (k w : ℕ) → seat_view table m.0 ≡ old → k ≤ old.held_items → w ≤ old.held_weight → (k ≤ m.0.held_items) × (w ≤ m.0.held_weight)
  holds_of m table old k w is low low' = (subst (λ (s : SeatView E). k ≤ s.held_items) (sym is) low, subst (λ (s : SeatView E). w ≤ s.held_weight) (sym is) low')

  pub enters : (m : M) (table : TableId) (old : SeatView E) (x now : Content E) (k w : ℕ) (items : List E) → IsResting m → seat_view table m.0 ≡ old → k ≤ old.held_items → w ≤ old.held_weight → ((item : E) → Contains items item → (actor_of item ≡ old.actor) × (1 ≤ k)) → now ≡ Less x k w items → May m.0 x now
  enters m table old x now k w items rests same low low' own is =
      let h = holds_of m table old k w same low low' in
      less_may m.0 x now k w items (bare m rests) h.0 h.1 (λ item in'. let o = own item in' in (o.0 ∙ ap (λ (s : SeatView E). s.actor) (sym same), o.1)) is

  pub releases : (m : M) (table : TableId) (old : SeatView E) (x now : Content E) (k w : ℕ) → IsResting m → seat_view table m.0 ≡ old → k ≤ old.held_items → w ≤ old.held_weight → now ≡ Released x k w → May m.0 x now
  releases m table old x now k w rests same low low' is = enters m table old x now k w [] rests same low low' (λ item in'. absurd (in_none item in')) (is ∙ released x k w)

  -- one item is entered
  pub one_own : (k : ℕ) (item : E) (actor : ℕ) → 1 ≤ k → actor_of item ≡ actor → (y : E) → Contains (item ∷ []) y → (actor_of y ≡ actor) × (1 ≤ k)
  one_own k item actor some own y in' = (ap actor_of (in_one item y in') ∙ own, some)

  -- each of some items is of the actor
  pub each_own : (k : ℕ) (entering : List E) (actor : ℕ) → length entering ≤ k → All (λ item. actor_of item ≡ actor) entering → (y : E) → Contains entering y → (actor_of y ≡ actor) × (1 ≤ k)
  each_own k entering actor low own y in' = let f = in_all (λ item. actor_of item ≡ actor) entering own y in' in let some = f.1 in (f.0, omega arith)

  -- the slot names an actor, and nothing else changes
  pub stays_named : (m : M) (x now : Content E) (actor : ℕ) → IsResting m → now ≡ record x { named = actor } → May m.0 x now
  stays_named m x now actor rests is = same_may m.0 x now (bare m rests) (ap (λ (c : Content E). c.items) is) (ap (λ (c : Content E). c.reserved) is) (ap (λ (c : Content E). c.reserved_weight) is) (ap (λ (c : Content E). c.limits) is)

  -- what the first seat knows once another was split from it
  pub turns_split : (old : SeatView E) (v w : View E) (table table' : TableId) → Turns actor_of bytes fits old (seat_view table v) → table' ≡ table → w ≡ splitter v → Turns actor_of bytes fits old (seat_view table' w)
  turns_split old v w table table' t same is =
      subst (λ (x : TableId × View E). Turns actor_of bytes fits old (seat_view x.0 x.1)) (λ i. (sym same i, sym is i)) record {
        tape = t.tape;
        actor = t.actor;
        seen = t.seen;
        mine = t.mine;
        within_items = t.within_items;
        within_weight = t.within_weight;
        counted = t.counted;
        weighed = t.weighed;
        visits = t.visits;
        own = t.own;
        reserved = t.reserved;
        holds = t.holds;
        fitting = t.fitting;
      }

  -- the first seat rests, however many were joined to it
  pub joined_rests : (m : M) (gone : List (Gone E)) (m' : M) → m' ≡ with_joined m gone → IsResting m → IsResting (m'.0, [])
  joined_rests m gone m' is rests = subst (λ (n : M). IsResting (n.0, [])) (sym is) record { is_live = rests.is_live; no_ticket = rests.no_ticket; no_turn = rests.no_turn; no_slot = refl; first = rests.first }

-- a fact of all values holds of the one that comes next
pub of_next : {X : Type 0} (P : X → Type 0) (all before left after : List X) (x : X) → before ++ left ≡ all → left ≡ x ∷ after → All P all → P x
of_next P all before left after x is next holds =
    let e : all ≡ before ++ x ∷ after = sym is ∙ ap (λ l. before ++ l) next in
    subst P (ap (λ l. get_or l (length before) x) e ∙ get_or-append_seam before x after x)
    (holds (length before) x (let n = ap length e ∙ length-append before (x ∷ after) in omega arith))

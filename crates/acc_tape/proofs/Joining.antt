-- Seats are joined to the first one, which keeps the rule. When all are, the slot is at home.
use Rattle.std.proofs.Common.{◌≡◌, ◌≢◌, ℕ, ◌+◌, true, false, List, [], ◌∷◌, ◌++◌, length, set, None, Some, Contains, refl, sym, ap, ◌∙◌, subst, arith, inl, inr, ◌⊎◌, ⊎_elim, length-append}
use Rattle.std.specs.Prelude.{sum_by}
use Rattle.std.proofs.lemmas.List.Elements.{Contains-append_left, Contains-append_right, Contains-append_cases}
use mathlib.Core.Option.{some, some-injective}
use mathlib.Core.Logic.{dite}
use native.Mathlib.Decide.{ℕ_discrete}
use lib.ListN.{get_elem?}
use Rattle.atomic_table.specs.Table.{State, Joins}
use Rattle.atomic_table.proofs.Lists.{at_set, set_else}
use Rattle.acc_tape.specs.declared.content.Limits.{Limits}
use Rattle.acc_tape.specs.declared.content.Content.{Content}
use Rattle.acc_tape.specs.declared.view.View.{View}
use Rattle.acc_tape.specs.declared.view.Gone.{Gone}
use Rattle.acc_tape.specs.declared.view.Visit.{Visit}
use Rattle.acc_tape.specs.Turn.{IsResting}
use Rattle.acc_tape.specs.Rule.{Holds, Sits, Left, SlotIs, IsSpent, IsLogged, WasLogged, one_if, joiner, gone_of, spent_view}
use Rattle.acc_tape.proofs.Weights.{sum_set, sum_at, in_one}

module _ {E : Type 0} (actor_of : E → ℕ) (limits : Limits) where
  abbrev T : Type 0
  T = State (Content E) (View E)

  no_some : {X : Type 0} (x : X) → None ≡ Some x → ⊥
  no_some x e = cc

  on : true ≡ false → ⊥
  on e = cc

  module _ (s : T) (h : Holds actor_of limits s) (id other : ℕ) (v w : View E) (at : get_elem? s.views id ≡ some v) (apart : other ≢ id) (there : get_elem? s.views other ≡ some w)
      (rests : IsResting (v, [])) (first : v.actor ≡ 0) (idle : IsResting (w, [])) (free : (w.held_items ≡ 0) × (w.held_weight ≡ 0)) where
    abbrev u : View E
    u = joiner v w

    abbrev views : List (View E)
    views = set (set s.views id u) other spent_view

    abbrev sit : Sits actor_of limits h.b h.ticket h.serving h.slot h.made h.gone h.seat_of h.holder id v
    sit = h.live id v at rests.is_live

    abbrev theirs : Sits actor_of limits h.b h.ticket h.serving h.slot h.made h.gone h.seat_of h.holder other w
    theirs = h.live other w there idle.is_live

    abbrev gone : List (Gone E)
    gone = h.gone ++ gone_of w ∷ []

    other_actor : w.actor ≢ 0
    other_actor z = apart (sym theirs.seat ∙ ap h.seat_of (z ∙ sym first) ∙ sit.seat)

    -- the seats that stay have other actors
    stays_apart : (j : ℕ) (x : View E) → j ≢ other → Sits actor_of limits h.b h.ticket h.serving h.slot h.made h.gone h.seat_of h.holder j x → (g : Gone E) → Contains gone g → g.actor ≢ x.actor
    stays_apart j x ne o g is same = ⊎_elim
        (λ (old : Contains h.gone g). o.apart g old same)
        (λ (new : Contains (gone_of w ∷ []) g). ne (sym o.seat ∙ ap h.seat_of (sym same ∙ ap (λ (y : Gone E). y.actor) (in_one (gone_of w) g new)) ∙ theirs.seat))
        (Contains-append_cases h.gone (gone_of w ∷ []) g is)

    other_now : (j : ℕ) (x : View E) → j ≢ id → j ≢ other → get_elem? s.views j ≡ some x → x.is_live ≡ true → Sits actor_of limits h.b h.ticket h.serving h.slot h.made gone h.seat_of h.holder j x
    other_now j x ne ne' here live =
        let o = h.live j x here live in record {
          limits_are = o.limits_are;
          seen = o.seen;
          mine = o.mine;
          seat = o.seat;
          first = λ z. absurd (ne (sym o.seat ∙ ap h.seat_of (z ∙ sym first) ∙ sit.seat));
          among = o.among;
          apart = stays_apart j x ne' o;
          waits = o.waits;
          turn = o.turn;
        }

    first_now : Sits actor_of limits h.b h.ticket h.serving h.slot h.made gone h.seat_of h.holder id u
    first_now = record {
      limits_are = sit.limits_are;
      seen = sit.seen;
      mine = sit.mine;
      seat = sit.seat;
      first = λ z. let f = sit.first z in (f.0, ap (λ l. l ++ gone_of w ∷ []) f.1, f.2, f.3);
      among = sit.among;
      apart = stays_apart id v (λ same. apart (sym same)) sit;
      waits = sit.waits;
      turn = sit.turn;
    }

    place_of : (P : ℕ → View E → Type 0) → P id u → P other spent_view → ((j : ℕ) (x : View E) → j ≢ id → j ≢ other → get_elem? s.views j ≡ some x → P j x) → (j : ℕ) (x : View E) → get_elem? views j ≡ some x → P j x
    place_of P here gone_there others j x is = ⊎_elim
        (λ (t : (j ≡ other) × (spent_view ≡ x)). subst (λ (y : ℕ × View E). P y.0 y.1) (λ k. (sym t.0 k, t.1 k)) gone_there)
        (λ (t : (j ≢ other) × (get_elem? (set s.views id u) j ≡ some x)). ⊎_elim
        (λ (r : (j ≡ id) × (u ≡ x)). subst (λ (y : ℕ × View E). P y.0 y.1) (λ k. (sym r.0 k, r.1 k)) here)
        (λ (r : (j ≢ id) × (get_elem? s.views j ≡ some x)). others j x r.0 t.0 r.1)
        (at_set s.views id j u x t.1))
        (at_set (set s.views id u) other j spent_view x is)

    stands_still : (j : ℕ) (x : View E) → j ≢ id → j ≢ other → get_elem? s.views j ≡ some x → get_elem? views j ≡ some x
    stands_still j x ne ne' is = set_else (set s.views id u) other j spent_view ne' ∙ set_else s.views id j u ne ∙ is

    total : (f : View E → ℕ) → sum_by f views + f v + f w ≡ sum_by f s.views + f u + f spent_view
    total f =
        let a = sum_set f s.views id v u at in
        let b = sum_set f (set s.views id u) other w spent_view (set_else s.views id other u apart ∙ there) in
        omega arith

    slot_now : SlotIs s.views h.b h.slot → SlotIs views h.b h.slot
    slot_now (inl home) = inl home
    slot_now (inr out) =
        let o = out.1 in
        let not : (k : ℕ) (x : View E) → get_elem? s.views k ≡ some x → x.taken ≡ None → o.0 ≢ k = λ k x is none same. no_some h.b (sym none ∙ ap (λ (y : View E). y.taken) (some-injective x o.1 (sym is ∙ ap (λ k. get_elem? s.views k) (sym same) ∙ o.2)) ∙ o.4) in
        inr (out.0, (o.0, o.1, stands_still o.0 o.1 (not id v at rests.no_turn) (not other w there idle.no_turn) o.2, o.3, o.4))

    left_now : (g : Gone E) → Contains gone g → Left actor_of h.b h.made g
    left_now g is = ⊎_elim
        (λ (old : Contains h.gone g). h.left g old)
        (λ (new : Contains (gone_of w ∷ []) g). subst (Left actor_of h.b h.made) (sym (in_one (gone_of w) g new)) record { seen = theirs.seen; mine = theirs.mine; among = theirs.among other_actor })
        (Contains-append_cases h.gone (gone_of w ∷ []) g is)

    first_logged : IsLogged h.log u
    first_logged = let l = h.logged id v at rests.is_live in record { visits = l.visits; own = l.own; turn = l.turn; holds = l.holds }

    gone_logged_now : (g : Gone E) → Contains gone g → WasLogged h.log g
    gone_logged_now g is = ⊎_elim
        (λ (old : Contains h.gone g). h.gone_logged g old)
        (λ (new : Contains (gone_of w ∷ []) g). let l = h.logged other w there idle.is_live in subst (WasLogged h.log) (sym (in_one (gone_of w) g new)) record { visits = l.visits; own = l.own })
        (Contains-append_cases h.gone (gone_of w ∷ []) g is)

    accounted_now : (actor : ℕ) → Contains h.made actor → ((g : Gone E) × Contains gone g × (g.actor ≡ actor)) ⊎ ((x : View E) × (get_elem? views (h.seat_of actor) ≡ some x) × (x.is_live ≡ true) × (x.actor ≡ actor))
    accounted_now actor is = ⊎_elim
        (λ (g : (g : Gone E) × Contains h.gone g × (g.actor ≡ actor)). inl (g.0, Contains-append_left h.gone (gone_of w ∷ []) g.0 g.1, g.2))
        (λ (x : (x : View E) × (get_elem? s.views (h.seat_of actor) ≡ some x) × (x.is_live ≡ true) × (x.actor ≡ actor)).
        let same : (k : ℕ) (y : View E) → get_elem? s.views k ≡ some y → h.seat_of actor ≡ k → y.actor ≡ actor = λ k y is e. ap (λ (z : View E). z.actor) (some-injective y x.0 (sym is ∙ ap (λ k. get_elem? s.views k) (sym e) ∙ x.1)) ∙ x.3 in
        dite (ℕ_discrete (h.seat_of actor) other)
        (λ e. inl (gone_of w, Contains-append_right h.gone (gone_of w ∷ []) (gone_of w) (0, omega arith, refl), same other w there e))
        (λ ne. inr (x.0, stands_still (h.seat_of actor) x.0 (λ e. h.no_first actor is (sym (same id v at e) ∙ first)) ne x.1, x.2, x.3)))
        (h.accounted actor is)

    pub join_kept : Holds actor_of limits record { words = s.words; homes = s.homes; views = views }
    join_kept = record {
      b = h.b;
      ticket = h.ticket;
      serving = h.serving;
      slot = h.slot;
      made = h.made;
      gone = gone;
      seat_of = h.seat_of;
      holder = h.holder;
      words_are = h.words_are;
      homes_are = h.homes_are;
      slot_is = slot_now h.slot_is;
      low = h.low;
      served = h.served;
      limits_are = h.limits_are;
      live = place_of (λ j x. x.is_live ≡ true → Sits actor_of limits h.b h.ticket h.serving h.slot h.made gone h.seat_of h.holder j x) (λ live. first_now) (λ live. absurd (on (sym live))) (λ j x ne ne' is live. other_now j x ne ne' is live);
      spent = place_of (λ j x. x.is_live ≡ false → IsSpent x) (λ dead. absurd (on (sym rests.is_live ∙ dead))) (λ dead. (refl, refl, refl, refl)) (λ j x ne ne' is dead. h.spent j x is dead);
      reserved = (let t = total (λ (x : View E). x.held_items) in let r = h.reserved in let f = free.0 in omega arith);
      reserved_weight = (let t = total (λ (x : View E). x.held_weight) in let r = h.reserved_weight in let f = free.1 in omega arith);
      log = h.log;
      logged = place_of (λ j x. x.is_live ≡ true → IsLogged h.log x) (λ live. first_logged) (λ live. absurd (on (sym live))) (λ j x ne ne' is live. h.logged j x is live);
      gone_logged = gone_logged_now;
      all_logged = h.all_logged;
      summed = h.summed;
      counted = (let t = total (λ (x : View E). one_if x.is_live) in let r = h.counted in let o : one_if w.is_live ≡ 1 = ap one_if idle.is_live in let l = length-append h.gone (gone_of w ∷ []) in omega arith);
      all_made = h.all_made;
      no_first = h.no_first;
      left = left_now;
      accounted = accounted_now;
    }

  pub joins_ok : (id other : ℕ) (v w : View E) → IsResting (v, []) → v.actor ≡ 0 → IsResting (w, []) → (w.held_items ≡ 0) × (w.held_weight ≡ 0) → Joins (Holds actor_of limits) id v other w (joiner v w) spent_view
  joins_ok id other v w rests first idle free s h at apart there = join_kept s h id other v w at apart (sym (set_else s.views id other (joiner v w) apart) ∙ there) rests first idle free

  -- ---- the first seat alone

  module _ (s : T) (h : Holds actor_of limits s) (id : ℕ) (v : View E) (at : get_elem? s.views id ≡ some v) (rests : IsResting (v, [])) (first : v.actor ≡ 0) (all : length v.joined ≡ length v.made) where
    abbrev mine : Sits actor_of limits h.b h.ticket h.serving h.slot h.made h.gone h.seat_of h.holder id v
    mine = h.live id v at rests.is_live

    -- no other seat is live
    alone : (j : ℕ) (x : View E) → get_elem? s.views j ≡ some x → x.is_live ≡ true → j ≡ id
    alone j x there live = dite (ℕ_discrete j id) (λ e. e)
        (λ ne.
        let f : View E → ℕ = λ y. one_if y.is_live in
        let a = sum_set f s.views id v spent_view at in
        let b = sum_at f (set s.views id spent_view) j x (set_else s.views id j spent_view ne ∙ there) in
        let o : f v ≡ 1 = ap one_if rests.is_live in
        let p : f x ≡ 1 = ap one_if live in
        let k = h.counted in
        let m = ap length (mine.first first).0 in
        let g = ap length (mine.first first).1 in
        absurd (omega arith))

    pub home : h.slot ≡ some h.b
    home = from h.slot_is
      where
        from : SlotIs s.views h.b h.slot → h.slot ≡ some h.b
        from (inl is) = is
        from (inr out) =
            let o = out.1 in
            let same = alone o.0 o.1 o.2 o.3 in
            absurd (no_some h.b (sym rests.no_turn ∙ ap (λ (y : View E). y.taken) (some-injective v o.1 (sym at ∙ ap (λ k. get_elem? s.views k) (sym same) ∙ o.2)) ∙ o.4))

    -- each joined seat has seen a beginning of the list, in which its actor's items are those that it entered
    pub joined_left : (g : Gone E) → Contains v.joined g → Left actor_of h.b h.made g
    joined_left g is = h.left g (subst (λ l. Contains l g) (mine.first first).1 is)

    -- each actor for which a seat was split has a joined one
    joined_actor : (actor : ℕ) → Contains h.made actor → (g : Gone E) × Contains v.joined g × (g.actor ≡ actor)
    joined_actor actor made = ⊎_elim
        (λ (g : (g : Gone E) × Contains h.gone g × (g.actor ≡ actor)). (g.0, subst (λ l. Contains l g.0) (sym (mine.first first).1) g.1, g.2))
        (λ (x : (x : View E) × (get_elem? s.views (h.seat_of actor) ≡ some x) × (x.is_live ≡ true) × (x.actor ≡ actor)).
        let e = alone (h.seat_of actor) x.0 x.1 x.2 in
        absurd (h.no_first actor made (sym x.3 ∙ ap (λ (y : View E). y.actor) (sym (some-injective v x.0 (sym at ∙ ap (λ k. get_elem? s.views k) (sym e) ∙ x.1))) ∙ first)))
        (h.accounted actor made)

    -- each item is of a joined seat
    pub joined_all : (item : E) → Contains h.b.items item → (g : Gone E) × Contains v.joined g × (g.actor ≡ actor_of item)
    joined_all item is = joined_actor (actor_of item) (h.all_made item is)

    -- each joined seat knew a beginning of all visits, each of which is of the first seat or of a joined one
    pub joined_logged : (g : Gone E) → Contains v.joined g → WasLogged h.log g
    joined_logged g is = h.gone_logged g (subst (λ l. Contains l g) (mine.first first).1 is)

    pub joined_visits : (visit : Visit) → Contains h.log visit → (visit.actor ≡ 0) ⊎ ((g : Gone E) × Contains v.joined g × (g.actor ≡ visit.actor))
    joined_visits visit is = ⊎_elim
        (λ (z : visit.actor ≡ 0). inl z)
        (λ (m : Contains h.made visit.actor). inr (joined_actor visit.actor m))
        (h.all_logged visit is)

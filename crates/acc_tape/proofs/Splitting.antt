-- A seat is split from the first one, which keeps the rule.
use Rattle.std.proofs.Common.{◌≡◌, ◌≢◌, ℕ, ◌+◌, ◌==◌, true, false, cond, List, [], ◌∷◌, ◌++◌, length, set, None, Some, Contains, refl, sym, ap, ◌∙◌, subst, arith, inl, inr, ◌⊎◌, ⊎_elim, eq-eqb, ne_eqb, length-append}
use Rattle.std.specs.Prelude.{sum_by}
use Rattle.std.proofs.lemmas.List.Sums.{sum_by_push}
use Rattle.std.proofs.lemmas.List.Elements.{Contains-append_left, Contains-append_right, Contains-append_cases}
use Rattle.std.proofs.Math.ListN.{length-set}
use mathlib.Core.Option.{some, some-injective}
use mathlib.Core.Logic.{dite}
use native.Mathlib.Decide.{dec_lt}
use lib.ListN.{get_elem?}
use Rattle.atomic_table.specs.Table.{State, Splits}
use Rattle.atomic_table.proofs.Lists.{at_set, set_here, set_else, at_longer, at_last}
use Rattle.acc_tape.specs.declared.content.Limits.{Limits}
use Rattle.acc_tape.specs.declared.content.Content.{Content}
use Rattle.acc_tape.specs.declared.view.View.{View}
use Rattle.acc_tape.specs.declared.view.Gone.{Gone}
use Rattle.acc_tape.specs.declared.view.Visit.{Visit}
use Rattle.acc_tape.specs.Turn.{IsResting}
use Rattle.acc_tape.specs.Rule.{Holds, Sits, SlotIs, IsSpent, IsLogged, one_if, splitter, newcomer}
use Rattle.acc_tape.proofs.Weights.{at_place, before_end, at_end, sum_set, in_one, none_of}
use Rattle.acc_tape.proofs.Logs.{whose}

module _ {E : Type 0} (actor_of : E → ℕ) (limits : Limits) where
  abbrev T : Type 0
  T = State (Content E) (View E)

  no_some : {X : Type 0} (x : X) → None ≡ Some x → ⊥
  no_some x e = cc

  module _ (s : T) (h : Holds actor_of limits s) (id : ℕ) (v : View E) (at : get_elem? s.views id ≡ some v) (rests : IsResting (v, [])) (first : v.actor ≡ 0) (apart : ¬ Contains v.made v.named) (some_actor : v.named ≢ 0) where
    abbrev u : View E
    u = splitter v

    abbrev w : View E
    w = newcomer v

    abbrev views : List (View E)
    views = set s.views id u ++ w ∷ []

    abbrev sit : Sits actor_of limits h.b h.ticket h.serving h.slot h.made h.gone h.seat_of h.holder id v
    sit = h.live id v at rests.is_live

    abbrev made : List ℕ
    made = h.made ++ v.named ∷ []

    made_is : v.made ≡ h.made
    made_is = (sit.first first).0

    abbrev new_id : ℕ
    new_id = length s.views

    abbrev seat_of : ℕ → ℕ
    seat_of actor = cond (actor == v.named) new_id (h.seat_of actor)

    old_seat : (actor : ℕ) → actor ≢ v.named → seat_of actor ≡ h.seat_of actor
    old_seat actor ne = ap (λ b. cond b new_id (h.seat_of actor)) (ne_eqb actor v.named ne)

    not_made : (actor : ℕ) → Contains h.made actor → actor ≢ v.named
    not_made actor is same = apart (subst (λ l. Contains l v.named) (sym made_is) (subst (Contains h.made) same is))

    more_made : (actor : ℕ) → Contains h.made actor → Contains made actor
    more_made actor is = Contains-append_left h.made (v.named ∷ []) actor is

    -- an actor of a live seat isn't the new one
    not_new : (j : ℕ) (x : View E) → get_elem? s.views j ≡ some x → x.is_live ≡ true → x.actor ≢ v.named
    not_new j x there live same = not_made x.actor ((h.live j x there live).among (λ z. some_actor (sym same ∙ z))) same

    none_gone : (g : Gone E) → Contains h.gone g → g.actor ≢ v.named
    none_gone g is = not_made g.actor (h.left g is).among

    other_now : (j : ℕ) (x : View E) → get_elem? s.views j ≡ some x → x.is_live ≡ true → x.actor ≢ 0 → Sits actor_of limits h.b h.ticket h.serving h.slot made h.gone seat_of h.holder j x
    other_now j x there live nz =
        let o = h.live j x there live in record {
          limits_are = o.limits_are;
          seen = o.seen;
          mine = o.mine;
          seat = old_seat x.actor (not_new j x there live) ∙ o.seat;
          first = λ z. absurd (nz z);
          among = λ n. more_made x.actor (o.among n);
          apart = o.apart;
          waits = o.waits;
          turn = o.turn;
        }

    first_now : Sits actor_of limits h.b h.ticket h.serving h.slot made h.gone seat_of h.holder id u
    first_now = record {
      limits_are = sit.limits_are;
      seen = sit.seen;
      mine = sit.mine;
      seat = old_seat v.actor (not_new id v at rests.is_live) ∙ sit.seat;
      first = λ z. let f = sit.first z in (ap (λ l. l ++ v.named ∷ []) f.0, f.1, f.2, f.3);
      among = λ n. more_made v.actor (sit.among n);
      apart = sit.apart;
      waits = sit.waits;
      turn = sit.turn;
    }

    new_now : Sits actor_of limits h.b h.ticket h.serving h.slot made h.gone seat_of h.holder new_id w
    new_now = record {
      limits_are = sit.limits_are;
      seen = sit.seen;
      mine = sym (none_of actor_of v.named h.b.items (λ item is same. not_made (actor_of item) (h.all_made item is) same));
      seat = ap (λ b. cond b new_id (h.seat_of v.named)) (eq-eqb v.named v.named refl);
      first = λ z. absurd (some_actor z);
      among = λ n. Contains-append_right h.made (v.named ∷ []) v.named (0, omega arith, refl);
      apart = none_gone;
      waits = λ t e. absurd (no_some t (sym rests.no_ticket ∙ e));
      turn = λ c e. absurd (no_some c (sym rests.no_turn ∙ e));
    }

    first_logged : IsLogged h.log u
    first_logged = let l = h.logged id v at rests.is_live in record { visits = l.visits; own = l.own; turn = l.turn; holds = l.holds }

    -- nobody has visited for the new actor
    not_visited : (visit : Visit) → Contains h.log visit → whose visit ≢ v.named
    not_visited visit is same = ⊎_elim
        (λ (z : visit.actor ≡ 0). some_actor (sym same ∙ z))
        (λ (m : Contains h.made visit.actor). not_made visit.actor m same)
        (h.all_logged visit is)

    new_logged : IsLogged h.log w
    new_logged = record {
      visits = (h.logged id v at rests.is_live).visits;
      own = sym (none_of whose v.named h.log not_visited);
      turn = λ c e. absurd (no_some c (sym rests.no_turn ∙ e));
      holds = record { items_are = refl; weight_is = refl };
    }

    -- where a seat stands now
    place_of : (P : ℕ → View E → Type 0) → P id u → ((j : ℕ) (x : View E) → j ≢ id → get_elem? s.views j ≡ some x → P j x) → P new_id w → (j : ℕ) (x : View E) → get_elem? views j ≡ some x → P j x
    place_of P here others new j x there = dite (dec_lt j (length s.views))
        (λ low. ⊎_elim
        (λ (t : (j ≡ id) × (u ≡ x)). subst (λ (y : ℕ × View E). P y.0 y.1) (λ k. (sym t.0 k, t.1 k)) here)
        (λ (t : (j ≢ id) × (get_elem? s.views j ≡ some x)). others j x t.0 t.1)
        (at_set s.views id j u x (sym (before_end (set s.views id u) w j (let l = length-set s.views id u in omega arith)) ∙ there)))
        (λ high.
        let e = at_end (set s.views id u) w j x (let l = length-set s.views id u in omega arith) there in
        subst (λ (y : ℕ × View E). P y.0 y.1) (λ k. ((sym (e.0 ∙ length-set s.views id u)) k, e.1 k)) new)

    same_first : (j : ℕ) (x : View E) → get_elem? s.views j ≡ some x → x.is_live ≡ true → x.actor ≡ 0 → j ≡ id
    same_first j x there live z = sym (h.live j x there live).seat ∙ ap h.seat_of (z ∙ sym first) ∙ sit.seat

    stands_still : (j : ℕ) (x : View E) → j ≢ id → get_elem? s.views j ≡ some x → get_elem? views j ≡ some x
    stands_still j x ne there = at_longer (set s.views id u) (w ∷ []) j x (set_else s.views id j u ne ∙ there)

    stands_first : get_elem? views id ≡ some u
    stands_first = at_longer (set s.views id u) (w ∷ []) id u (set_here s.views id u (at_place s.views id v at).0)

    stands_new : get_elem? views new_id ≡ some w
    stands_new = at_last (set s.views id u) w new_id (length-set s.views id u)

    total : (f : View E → ℕ) → sum_by f views + f v ≡ sum_by f s.views + f u + f w
    total f = let p = sum_by_push f (set s.views id u) w in let t = sum_set f s.views id v u at in omega arith

    slot_now : SlotIs s.views h.b h.slot → SlotIs views h.b h.slot
    slot_now (inl home) = inl home
    slot_now (inr out) =
        let o = out.1 in
        let ne : o.0 ≢ id = λ same. no_some h.b (sym rests.no_turn ∙ ap (λ (x : View E). x.taken) (some-injective v o.1 (sym at ∙ ap (λ k. get_elem? s.views k) (sym same) ∙ o.2)) ∙ o.4) in
        inr (out.0, (o.0, o.1, stands_still o.0 o.1 ne o.2, o.3, o.4))

    accounted_now : (actor : ℕ) → Contains made actor → ((g : Gone E) × Contains h.gone g × (g.actor ≡ actor)) ⊎ ((x : View E) × (get_elem? views (seat_of actor) ≡ some x) × (x.is_live ≡ true) × (x.actor ≡ actor))
    accounted_now actor is = ⊎_elim
        (λ (old : Contains h.made actor). ⊎_elim
        (λ (g : (g : Gone E) × Contains h.gone g × (g.actor ≡ actor)). inl g)
        (λ (x : (x : View E) × (get_elem? s.views (h.seat_of actor) ≡ some x) × (x.is_live ≡ true) × (x.actor ≡ actor)).
        let ne : h.seat_of actor ≢ id = λ same. h.no_first actor old (sym x.3 ∙ ap (λ (y : View E). y.actor) (sym (some-injective v x.0 (sym at ∙ ap (λ k. get_elem? s.views k) (sym same) ∙ x.1))) ∙ first) in
        inr (x.0, ap (λ k. get_elem? views k) (old_seat actor (not_made actor old)) ∙ stands_still (h.seat_of actor) x.0 ne x.1, x.2, x.3))
        (h.accounted actor old))
        (λ (new : Contains (v.named ∷ []) actor).
        let same : actor ≡ v.named = in_one v.named actor new in
        inr (w, ap (λ b. get_elem? views (cond b new_id (h.seat_of actor))) (eq-eqb actor v.named same) ∙ stands_new, rests.is_live, sym same))
        (Contains-append_cases h.made (v.named ∷ []) actor is)

    pub split_kept : Holds actor_of limits record { words = s.words; homes = s.homes; views = views }
    split_kept = record {
      b = h.b;
      ticket = h.ticket;
      serving = h.serving;
      slot = h.slot;
      made = made;
      gone = h.gone;
      seat_of = seat_of;
      holder = h.holder;
      words_are = h.words_are;
      homes_are = h.homes_are;
      slot_is = slot_now h.slot_is;
      low = h.low;
      served = h.served;
      limits_are = h.limits_are;
      live = place_of (λ j x. x.is_live ≡ true → Sits actor_of limits h.b h.ticket h.serving h.slot made h.gone seat_of h.holder j x) (λ live. first_now) (λ j x ne there live. other_now j x there live (λ z. ne (same_first j x there live z))) (λ live. new_now);
      spent = place_of (λ j x. x.is_live ≡ false → IsSpent x) (λ dead. absurd (on (sym rests.is_live ∙ dead))) (λ j x ne there dead. h.spent j x there dead) (λ dead. absurd (on (sym rests.is_live ∙ dead)));
      reserved = (let t = total (λ (x : View E). x.held_items) in let r = h.reserved in omega arith);
      reserved_weight = (let t = total (λ (x : View E). x.held_weight) in let r = h.reserved_weight in omega arith);
      log = h.log;
      logged = place_of (λ j x. x.is_live ≡ true → IsLogged h.log x) (λ live. first_logged) (λ j x ne there live. h.logged j x there live) (λ live. new_logged);
      gone_logged = h.gone_logged;
      all_logged = λ visit is. ⊎_elim (λ (z : visit.actor ≡ 0). inl z) (λ (m : Contains h.made visit.actor). inr (more_made visit.actor m)) (h.all_logged visit is);
      summed = h.summed;
      counted = (let t = total (λ (x : View E). one_if x.is_live) in let r = h.counted in let o : one_if v.is_live ≡ 1 = ap one_if rests.is_live in let l = length-append h.made (v.named ∷ []) in omega arith);
      all_made = λ item is. more_made (actor_of item) (h.all_made item is);
      no_first = λ actor is. ⊎_elim (λ (x : Contains h.made actor). h.no_first actor x) (λ (x : Contains (v.named ∷ []) actor). λ z. some_actor (sym (in_one v.named actor x) ∙ z)) (Contains-append_cases h.made (v.named ∷ []) actor is);
      left = λ g is. let l = h.left g is in record { seen = l.seen; mine = l.mine; among = more_made g.actor l.among };
      accounted = accounted_now;
    }
      where
        on : true ≡ false → ⊥
        on e = cc

  pub splits_ok : (id : ℕ) (v : View E) → IsResting (v, []) → v.actor ≡ 0 → ¬ Contains v.made v.named → v.named ≢ 0 → Splits (Holds actor_of limits) id v (splitter v) (newcomer v)
  splits_ok id v rests first apart some_actor s h at = split_kept s h id v at rests first apart some_actor

-- The steps of a turn keep the rule.
use Rattle.std.proofs.Common.{◌≡◌, ◌≢◌, ℕ, zero, suc, ◌+◌, ◌%◌, ◌<◌, ◌==◌, true, false, cond, List, [], ◌∷◌, ◌++◌, get_or, set, None, Some, refl, sym, ap, ◌∙◌, subst, arith, inl, inr, eq-eqb, ne_eqb, append-nil}
use Rattle.std.proofs.lemmas.List.{set-get_or}
use Rattle.std.proofs.Math.Nat.{mod-eq_of_lt}
use mathlib.Core.Option.{Option, none, some, some-injective, some-ne-none}
use mathlib.Core.Logic.{dite}
use mathlib.Core.List.{IsPrefix}
use native.Mathlib.Decide.{ℕ_discrete}
use lib.ListN.{get_elem?}
use prog.Atomic.{either}
use Rattle.atomic_table.specs.Table.{State, step, Me, Act, keeps, takes, gives, Valid, carried_after, Allows, stepped, opening}
use Rattle.atomic_table.proofs.Lists.{set_again, set_here, set_else, exchanged}
use Rattle.acc_tape.specs.declared.content.Limits.{Limits}
use Rattle.acc_tape.specs.declared.content.Content.{Content}
use Rattle.acc_tape.specs.declared.view.View.{View}
use Rattle.acc_tape.specs.declared.view.Visit.{Visit}
use Rattle.acc_tape.specs.Turn.{IsResting, Learns, MayLeave, waiting, turning, visit_of, draws, looks, left, view_after, taken_of, now_of, CanLeave}
use Rattle.acc_tape.specs.Visits.{AreReserved}
use Rattle.acc_tape.specs.Rule.{Holds, Sits, SlotIs, IsLogged, first_view}
use Rattle.acc_tape.proofs.Weights.{at_place, sum_at, prefix_itself, in_none, in_one}
use Rattle.acc_tape.proofs.Logs.{own_more, all_more, holds_more}
use Rattle.acc_tape.proofs.Keeps.{Changes, kept}

module _ {E : Type 0} (actor_of : E → ℕ) (limits : Limits) where
  abbrev T : Type 0
  T = State (Content E) (View E)

  pub no_some : {X : Type 0} (x : X) → None ≡ Some x → ⊥
  no_some x e = cc

  -- ---- the table at the start

  abbrev empty : Content E
  empty = record { items = []; reserved = 0; reserved_weight = 0; limits = limits; named = 0 }

  only : (id : ℕ) (v : View E) → get_elem? (first_view limits ∷ []) id ≡ some v → (id ≡ 0) × (first_view limits ≡ v)
  only zero v e = (refl, some-injective (first_view limits) v e)
  only (suc id) v e = absurd (some-ne-none v (sym e))

  pub starts : Holds actor_of limits (opening (0 ∷ 0 ∷ []) (empty ∷ []) (first_view limits))
  starts = record {
    b = empty;
    ticket = 0;
    serving = 0;
    slot = some empty;
    made = [];
    gone = [];
    seat_of = λ actor. 0;
    holder = λ t. 0;
    words_are = refl;
    homes_are = refl;
    slot_is = inl refl;
    low = omega arith;
    served = omega arith;
    limits_are = refl;
    live = λ id v at is. let o = only id v at in subst (λ (x : ℕ × View E). Sits actor_of limits empty 0 0 (some empty) [] [] (λ actor. 0) (λ t. 0) x.0 x.1) (λ k. (sym o.0 k, o.1 k)) first;
    spent = λ id v at is. let o = only id v at in absurd (off (ap (λ (x : View E). x.is_live) o.1 ∙ is));
    reserved = refl;
    reserved_weight = refl;
    log = [];
    logged = λ id v at is. subst (λ (x : View E). IsLogged [] x) (only id v at).1 first_logged;
    gone_logged = λ g is. absurd (in_none g is);
    all_logged = λ visit is. absurd (in_none visit is);
    summed = record { items_are = refl; weight_is = refl };
    counted = refl;
    all_made = λ item is. absurd (in_none item is);
    no_first = λ actor is. absurd (in_none actor is);
    left = λ g is. absurd (in_none g is);
    accounted = λ actor is. absurd (in_none actor is);
  }
    where
      off : true ≡ false → ⊥
      off e = cc

      first_logged : IsLogged {E = E} [] (first_view limits)
      first_logged = record {
        visits = ([], refl);
        own = refl;
        turn = λ c is. absurd (no_some c is);
        holds = record { items_are = refl; weight_is = refl };
      }

      first : Sits actor_of limits empty 0 0 (some empty) [] [] (λ actor. 0) (λ t. 0) 0 (first_view limits)
      first = record {
        limits_are = refl;
        seen = ([], refl);
        mine = refl;
        seat = refl;
        first = λ z. (refl, refl, refl, refl);
        among = λ nz. absurd (nz refl);
        apart = λ g is. absurd (in_none g is);
        waits = λ t is. absurd (no_some t is);
        turn = λ c is. absurd (no_some c is);
      }

  -- ---- steps that change nothing

  stays : (s : T) (id i : ℕ) (v : View E) (carried : List (ℕ × Content E)) → Holds actor_of limits s → get_elem? s.views id ≡ some v → Holds actor_of limits (stepped s i (get_or s.words i 0) id carried v keeps)
  stays s id i v carried h at = subst (Holds actor_of limits) (λ k. record { words = sym (set-get_or s.words i 0) k; homes = s.homes; views = sym (set_again s.views id v at) k }) h

  -- who has the turn is not a seat that has none
  slot_kept : (s : T) (id : ℕ) (v w : View E) (b : Content E) (slot : Option (Content E)) → get_elem? s.views id ≡ some v → v.taken ≡ None → SlotIs s.views b slot → SlotIs (set s.views id w) b slot
  slot_kept s id v w b slot at idle (inl home) = inl home
  slot_kept s id v w b slot at idle (inr out) =
      let o = out.1 in
      let apart : o.0 ≢ id = λ same. no_some b (sym idle ∙ ap (λ (x : View E). x.taken) (some-injective v o.1 (sym at ∙ ap (λ k. get_elem? s.views k) (sym same) ∙ o.2)) ∙ o.4) in
      inr (out.0, (o.0, o.1, set_else s.views id o.0 w apart ∙ o.2, o.3, o.4))

  -- ---- drawing a ticket

  module _ (s : T) (h : Holds actor_of limits s) (id : ℕ) (v : View E) (at : get_elem? s.views id ≡ some v) (is_live : v.is_live ≡ true) where
    abbrev sits : Sits actor_of limits h.b h.ticket h.serving h.slot h.made h.gone h.seat_of h.holder id v
    sits = h.live id v at is_live

    abbrev knows : IsLogged h.log v
    knows = h.logged id v at is_live

    next_is : get_or s.words 0 0 ≡ h.ticket
    next_is = ap (λ l. get_or l 0 0) h.words_are

    served_is : get_or s.words 1 0 ≡ h.serving
    served_is = ap (λ l. get_or l 1 0) h.words_are

    abbrev holder' : ℕ → ℕ
    holder' t = cond (t == h.ticket) id (h.holder t)

    drawn : v.taken ≡ None → h.ticket < 4611686018427387904 → (w : View E) → w ≡ waiting v h.ticket → Changes actor_of limits s h id v w h.b (h.ticket + 1) h.serving h.slot holder'
    drawn idle low w is = rw is record {
      is_live = is_live;
      same_limits = refl;
      same_actor = refl;
      same_made = refl;
      same_joined = refl;
      first_held = λ z. let f = sits.first z in (f.2, f.3);
      low = omega arith;
      served = (let l = h.served in omega arith);
      limits_are = refl;
      new = [];
      grows = sym (append-nil h.b.items);
      by_it = λ item is. absurd (in_none item is);
      seen = sits.seen;
      mine = sits.mine;
      waits = λ t e. let same : h.ticket ≡ t = cc in let l = h.served in (omega arith, omega arith, ap (λ b. cond b id (h.holder t)) (eq-eqb t h.ticket (sym same)));
      turn = λ c e. absurd (no_some c (sym idle ∙ e));
      others_wait = λ j t apart from below is. (from, omega arith, ap (λ b. cond b id (h.holder t)) (ne_eqb t h.ticket (λ e. omega arith)) ∙ is);
      others_turn = λ j u c apart there live e. (h.live j u there live).turn c e;
      slot_is = slot_kept s id v (waiting v h.ticket) h.b h.slot at idle h.slot_is;
      counts = refl;
      weights = refl;
      log = h.log;
      more = [];
      log_grows = sym (append-nil h.log);
      visits_by_it = λ visit is. absurd (in_none visit is);
      logged = record { visits = knows.visits; own = knows.own; turn = λ c e. absurd (no_some c (sym idle ∙ e)); holds = knows.holds };
      others_know = λ j u c apart there live e. (h.logged j u there live).turn c e;
      summed = h.summed;
    }

    -- ---- looking at the serving number

    -- the slot is at home where the ticket of a seat that waits is served
    at_home : v.taken ≡ None → v.ticket ≡ Some h.serving → SlotIs s.views h.b h.slot → h.slot ≡ some h.b
    at_home idle mine (inl home) = home
    at_home idle mine (inr out) =
        let o = out.1 in
        let theirs = h.live o.0 o.1 o.2 o.3 in
        let t = theirs.waits h.serving (theirs.turn h.b o.4).1 in
        let m = sits.waits h.serving mine in
        let same : o.0 ≡ id = sym t.2 ∙ m.2 in
        absurd (no_some h.b (sym idle ∙ ap (λ (x : View E). x.taken) (some-injective v o.1 (sym at ∙ ap (λ k. get_elem? s.views k) (sym same) ∙ o.2)) ∙ o.4))

    taken : v.taken ≡ None → v.ticket ≡ Some h.serving → h.slot ≡ some h.b → Changes actor_of limits s h id v (turning v h.b h.log) h.b h.ticket h.serving none h.holder
    taken idle mine home = record {
      is_live = is_live;
      same_limits = refl;
      same_actor = refl;
      same_made = refl;
      same_joined = refl;
      first_held = λ z. let f = sits.first z in (f.2, f.3);
      low = h.low;
      served = h.served;
      limits_are = refl;
      new = [];
      grows = sym (append-nil h.b.items);
      by_it = λ item is. absurd (in_none item is);
      seen = sits.seen;
      mine = sits.mine;
      waits = sits.waits;
      turn = λ c e. (let same : c ≡ h.b = cc in same, mine, refl);
      others_wait = λ j t apart from below is. (from, below, is);
      others_turn = λ j u c apart there live e. absurd (some-ne-none h.b (sym home ∙ ((h.live j u there live).turn c e).2));
      slot_is = inr (refl, (id, turning v h.b h.log, set_here s.views id (turning v h.b h.log) (at_place s.views id v at).0, is_live, refl));
      counts = refl;
      weights = refl;
      log = h.log;
      more = [];
      log_grows = sym (append-nil h.log);
      visits_by_it = λ visit is. absurd (in_none visit is);
      logged = record { visits = prefix_itself h.log; own = knows.own; turn = λ c e. refl; holds = knows.holds };
      others_know = λ j u c apart there live e. absurd (some-ne-none h.b (sym home ∙ ((h.live j u there live).turn c e).2));
      summed = h.summed;
    }

    learnt : Learns actor_of v h.b h.log
    learnt = record {
      seen = sits.seen;
      mine = sits.mine;
      counted = (let a = sum_at (λ (u : View E). u.held_items) s.views id v at in let r = h.reserved in omega arith);
      weighed = (let a = sum_at (λ (u : View E). u.held_weight) s.views id v at in let r = h.reserved_weight in omega arith);
      visits = knows.visits;
      own = knows.own;
      summed = h.summed;
      holds = knows.holds;
      limits = h.limits_are ∙ sym sits.limits_are;
    }

    -- ---- leaving

    left_logged : (c now : Content E) → v.taken ≡ Some c → MayLeave actor_of v.actor v.held_items v.held_weight c now → IsLogged (h.log ++ visit_of v.actor c now ∷ []) (view_after actor_of v c now)
    left_logged c now turn may =
        let visit = visit_of v.actor c now in record {
          visits = subst (λ (l : List Visit). IsPrefix (l ++ visit ∷ []) (h.log ++ visit ∷ [])) (sym (knows.turn c turn)) (prefix_itself (h.log ++ visit ∷ []));
          own = own_more v.actor h.log v.own visit refl knows.own;
          turn = λ x e. absurd (no_some x e);
          holds = holds_more v.actor v.own c now v.held_items v.held_weight may.counts may.weights knows.holds;
        }

    left_now : (c now : Content E) → v.taken ≡ Some c → MayLeave actor_of v.actor v.held_items v.held_weight c now → Changes actor_of limits s h id v (view_after actor_of v c now) now h.ticket (h.serving + 1) (some now) h.holder
    left_now c now turn may =
        let mine = sits.turn c turn in
        let w = sits.waits h.serving mine.1 in record {
          is_live = is_live;
          same_limits = refl;
          same_actor = refl;
          same_made = refl;
          same_joined = refl;
          first_held = λ z. let f = may.first z in let s = sits.first z in let f0 = f.0 in let f1 = f.1 in let s2 = s.2 in let s3 = s.3 in (omega arith, omega arith);
          low = h.low;
          served = (let l = w.1 in omega arith);
          limits_are = may.limits ∙ ap (λ (x : Content E). x.limits) mine.0;
          new = may.new;
          grows = may.grows ∙ ap (λ (x : Content E). x.items ++ may.new) mine.0;
          by_it = may.by_it;
          seen = prefix_itself now.items;
          mine = refl;
          waits = λ t e. absurd (no_some t e);
          turn = λ x e. absurd (no_some x e);
          others_wait = λ j t apart from below is. let not : t ≢ h.serving = (λ e. apart (sym is ∙ ap h.holder e ∙ w.2)) in (omega arith, below, is);
          others_turn = λ j u x apart there live e. let theirs = h.live j u there live in absurd (apart (sym (theirs.waits h.serving (theirs.turn x e).1).2 ∙ w.2));
          slot_is = inl refl;
          counts = (let e = ap (λ (x : Content E). x.reserved) mine.0 in let k = may.counts in omega arith);
          weights = (let e = ap (λ (x : Content E). x.reserved_weight) mine.0 in let k = may.weights in omega arith);
          log = h.log ++ visit_of v.actor c now ∷ [];
          more = visit_of v.actor c now ∷ [];
          log_grows = refl;
          visits_by_it = λ visit is. ap (λ (x : Visit). x.actor) (in_one (visit_of v.actor c now) visit is);
          logged = left_logged c now turn may;
          others_know = λ j u x apart there live e. let theirs = h.live j u there live in absurd (apart (sym (theirs.waits h.serving (theirs.turn x e).1).2 ∙ w.2));
          summed = all_more v.actor h.log c now (subst (λ (x : Content E). AreReserved h.log x.reserved x.reserved_weight) (sym mine.0) h.summed);
        }

  -- ---- the three steps, as the table asks for them

  -- the step can be taken: a view and an act keep the rule
  abbrev Can : T → ℕ → ℕ → Me (Content E) (View E) → (ℕ → Me (Content E) (View E) → Type 0) → ℕ → Type 0
  Can s id i m then x = (w : View E) × (a : Act (Content E)) × Valid s.homes m.1 a × Holds actor_of limits (stepped s i x id m.1 w a) × then (get_or s.words i 0) (w, carried_after m.1 a)

  pub draws_ok : (slots id old : ℕ) (m : Me (Content E) (View E)) → IsResting m → old < 4611686018427387904 → Allows (Holds actor_of limits) slots id m 0 (λ n. either (n == old) (old + 1) n) (draws (step slots 0 old (old + 1) none) m)
  draws_ok slots id old m rests low s h count at small =
      let next : get_or s.words 0 0 ≡ h.ticket = next_is s h id m.0 at rests.is_live in
      exchanged (get_or s.words 0 0) old (old + 1) (Can s id 0 m (draws (step slots 0 old (old + 1) none) m))
      (λ e.
      let now : old ≡ h.ticket = sym e ∙ next in (
        waiting m.0 (get_or s.words 0 0),
        keeps,
        tt,
        kept actor_of limits s h id m.0 (waiting m.0 (get_or s.words 0 0)) at rests.is_live h.b (h.ticket + 1) h.serving h.slot (holder' s h id m.0 at rests.is_live)
            (drawn s h id m.0 at rests.is_live rests.no_turn (omega arith) (waiting m.0 (get_or s.words 0 0)) (ap (waiting m.0) next))
            (set s.words 0 (old + 1)) s.homes (ap (λ l. set l 0 (old + 1)) h.words_are ∙ ap (λ x. (x + 1) ∷ h.serving ∷ []) now) h.homes_are,
        ((λ is. refl), (λ not. absurd (not e))),
      ))
      (λ ne. (m.0, keeps, tt, stays s id 0 m.0 m.1 h at, ((λ is. absurd (ne is)), (λ not. refl))))

  pub looks_ok : (slots id ticket : ℕ) (m : Me (Content E) (View E)) → m.0.is_live ≡ true → m.0.ticket ≡ Some ticket → m.0.taken ≡ None → m.1 ≡ [] → Allows (Holds actor_of limits) slots id m 1 (λ n. n) (looks actor_of (step slots 1 0 0 none) m)
  looks_ok slots id ticket m is_live mine idle free s h count at small =
      let served = served_is s h id m.0 at is_live in
      dite (ℕ_discrete ticket (get_or s.words 1 0))
      (λ e.
      let turn : m.0.ticket ≡ Some h.serving = mine ∙ ap (λ x. Some x) (e ∙ served) in
      let home = at_home s h id m.0 at is_live idle turn h.slot_is in (
        turning m.0 h.b h.log,
        takes 0 h.b,
        ap (λ l. get_elem? l 0) h.homes_are ∙ ap (λ x. some x) home,
        kept actor_of limits s h id m.0 (turning m.0 h.b h.log) at is_live h.b h.ticket h.serving none h.holder (taken s h id m.0 at is_live idle turn home)
            (set s.words 1 (get_or s.words 1 0)) (set s.homes 0 none) (set-get_or s.words 1 0 ∙ h.words_are) (ap (λ l. set l 0 none) h.homes_are),
        ((λ is. (h.b, h.log, refl, learnt s h id m.0 at is_live)), (λ not. absurd (not (mine ∙ ap (λ x. Some x) e)))),
      ))
      (λ ne. (m.0, keeps, tt, stays s id 1 m.0 m.1 h at, ((λ is. absurd (ne (same_number ticket (get_or s.words 1 0) (sym mine ∙ is)))), (λ not. refl))))
    where
      same_number : (a b : ℕ) → Some a ≡ Some b → a ≡ b
      same_number a b e = cc

  -- one turn more, which doesn't wrap
  unwrapped : (n : ℕ) → n < 4611686018427387904 → (n + 1) % 18446744073709551616 ≡ n + 1
  unwrapped n low = mod-eq_of_lt (omega arith)

  pub leaves_ok : (slots id k : ℕ) (v : View E) (c now : Content E) → k ≡ 1 → v.is_live ≡ true → v.taken ≡ Some c → MayLeave actor_of v.actor v.held_items v.held_weight c now
      → Allows (Holds actor_of limits) slots id (v, (0, now) ∷ []) 1 (λ n. (n + k) % 18446744073709551616) (λ found after. after ≡ (view_after actor_of v c now, []))
  leaves_ok slots id k v c now one is_live turn may s h count at small =
      let sit = h.live id v at is_live in
      let served = served_is s h id v at is_live in
      let w = sit.waits h.serving (sit.turn c turn).1 in
      let t = h.low in
      let next : (get_or s.words 1 0 + k) % 18446744073709551616 ≡ h.serving + 1 = (λ i. (served i + one i) % 18446744073709551616) ∙ unwrapped h.serving (let b = w.1 in omega arith) in (
        view_after actor_of v c now,
        gives,
        tt,
        kept actor_of limits s h id v (view_after actor_of v c now) at is_live now h.ticket (h.serving + 1) (some now) h.holder (left_now s h id v at is_live c now turn may)
            (set s.words 1 ((get_or s.words 1 0 + k) % 18446744073709551616)) (set s.homes 0 (some now)) ((λ i. set (h.words_are i) 1 (next i))) (ap (λ l. set l 0 (some now)) h.homes_are),
        refl,
      )

  pub leaves_as : (slots id k : ℕ) (m : Me (Content E) (View E)) → k ≡ 1 → CanLeave actor_of m → Allows (Holds actor_of limits) slots id m 1 (λ n. (n + k) % 18446744073709551616) (λ found after. after ≡ left actor_of m)
  leaves_as slots id k m one can =
      let c = can.1.0 in
      let now = can.1.1 in
      subst (λ (x : List (ℕ × Content E) × Content E). Allows (Holds actor_of limits) slots id (m.0, x.0) 1 (λ n. (n + k) % 18446744073709551616) (λ found after. after ≡ (view_after actor_of m.0 x.1 (now_of x.0), [])))
      (λ i. (sym can.1.3 i, taken_of (sym can.1.2 i)))
      (leaves_ok slots id k m.0 c now one can.0 can.1.2 can.1.4)

-- A step of one seat keeps the rule.
use Rattle.std.proofs.Common.{◌≡◌, ◌≢◌, ℕ, ◌+◌, ◌<◌, ◌≤◌, true, false, List, [], ◌∷◌, ◌++◌, set, Some, Contains, sym, ap, ◌∙◌, subst, arith, inl, inr, ◌⊎◌, ⊎_elim}
use Rattle.std.proofs.lemmas.List.Elements.{Contains-append_cases}
use mathlib.Core.Option.{Option, none, some, some-injective}
use mathlib.Core.List.{IsPrefix}
use lib.ListN.{get_elem?}
use Rattle.atomic_table.specs.Table.{State}
use Rattle.atomic_table.proofs.Lists.{at_set, set_here, set_else}
use Rattle.acc_tape.specs.declared.content.Limits.{Limits}
use Rattle.acc_tape.specs.declared.content.Content.{Content}
use Rattle.acc_tape.specs.declared.view.View.{View}
use Rattle.acc_tape.specs.declared.view.Gone.{Gone}
use Rattle.acc_tape.specs.declared.view.Visit.{Visit}
use Rattle.acc_tape.specs.Lists.{items_of}
use Rattle.acc_tape.specs.Visits.{AreReserved}
use Rattle.acc_tape.specs.Rule.{Holds, Sits, Left, SlotIs, IsSpent, IsLogged, WasLogged, one_if}
use mathlib.Core.Logic.{dite}
use native.Mathlib.Decide.{ℕ_discrete}
use Rattle.acc_tape.proofs.Weights.{at_place, sum_set, prefix_longer, others_items}
use Rattle.acc_tape.proofs.Logs.{whose}

module _ {E : Type 0} (actor_of : E → ℕ) (limits : Limits) where
  abbrev pub Table : Type 0
  Table = State (Content E) (View E)

  -- what a step of a live seat changes: its view, what stands in the slot, the words, and who holds which ticket
  pub record Changes (s : Table) (h : Holds actor_of limits s) (id : ℕ) (v w : View E) (b : Content E) (ticket serving : ℕ) (slot : Option (Content E)) (holder : ℕ → ℕ) : Type 0 where
    pub is_live : w.is_live ≡ true
    pub same_limits : w.limits ≡ v.limits
    pub same_actor : w.actor ≡ v.actor
    pub same_made : w.made ≡ v.made
    pub same_joined : w.joined ≡ v.joined
    pub first_held : v.actor ≡ 0 → (w.held_items ≡ 0) × (w.held_weight ≡ 0)
    pub low : ticket ≤ 4611686018427387904
    pub served : serving ≤ ticket
    pub limits_are : b.limits ≡ h.b.limits
    pub new : List E
    pub grows : b.items ≡ h.b.items ++ new
    pub by_it : (item : E) → Contains new item → (actor_of item ≡ v.actor) × (v.actor ≢ 0)
    pub seen : IsPrefix w.seen b.items
    pub mine : w.mine ≡ items_of actor_of w.actor b.items
    pub waits : (t : ℕ) → w.ticket ≡ Some t → (serving ≤ t) × (t < ticket) × (holder t ≡ id)
    pub turn : (c : Content E) → w.taken ≡ Some c → (c ≡ b) × (w.ticket ≡ Some serving) × (slot ≡ none)
    pub others_wait : (j t : ℕ) → j ≢ id → h.serving ≤ t → t < h.ticket → h.holder t ≡ j → (serving ≤ t) × (t < ticket) × (holder t ≡ j)
    pub others_turn : (j : ℕ) (u : View E) (c : Content E) → j ≢ id → get_elem? s.views j ≡ some u → u.is_live ≡ true → u.taken ≡ Some c → (c ≡ b) × (u.ticket ≡ Some serving) × (slot ≡ none)
    pub slot_is : SlotIs (set s.views id w) b slot
    pub counts : b.reserved + v.held_items ≡ h.b.reserved + w.held_items
    pub weights : b.reserved_weight + v.held_weight ≡ h.b.reserved_weight + w.held_weight
    pub log : List Visit
    pub more : List Visit
    pub log_grows : log ≡ h.log ++ more
    pub visits_by_it : (visit : Visit) → Contains more visit → visit.actor ≡ v.actor
    pub logged : IsLogged log w
    pub others_know : (j : ℕ) (u : View E) (c : Content E) → j ≢ id → get_elem? s.views j ≡ some u → u.is_live ≡ true → u.taken ≡ Some c → u.visits ≡ log
    pub summed : AreReserved log b.reserved b.reserved_weight

  module _ (s : Table) (h : Holds actor_of limits s) (id : ℕ) (v w : View E) (at : get_elem? s.views id ≡ some v) (was_live : v.is_live ≡ true)
      (b : Content E) (ticket serving : ℕ) (slot : Option (Content E)) (holder : ℕ → ℕ) (c : Changes s h id v w b ticket serving slot holder) where
    abbrev sits : Sits actor_of limits h.b h.ticket h.serving h.slot h.made h.gone h.seat_of h.holder id v
    sits = h.live id v at was_live

    abbrev views : List (View E)
    views = set s.views id w

    -- nothing new is of another actor
    not_new : (actor : ℕ) → actor ≢ v.actor → (item : E) → Contains c.new item → actor_of item ≢ actor
    not_new actor apart item is same = apart (sym same ∙ (c.by_it item is).0)

    mine_now : Sits actor_of limits b ticket serving slot h.made h.gone h.seat_of holder id w
    mine_now = record {
      limits_are = c.same_limits ∙ sits.limits_are;
      seen = c.seen;
      mine = c.mine;
      seat = ap h.seat_of c.same_actor ∙ sits.seat;
      first = λ z. let f = sits.first (sym c.same_actor ∙ z) in let held = c.first_held (sym c.same_actor ∙ z) in (c.same_made ∙ f.0, c.same_joined ∙ f.1, held.0, held.1);
      among = λ nz. subst (Contains h.made) (sym c.same_actor) (sits.among (λ z. nz (c.same_actor ∙ z)));
      apart = λ g is same. sits.apart g is (same ∙ c.same_actor);
      waits = c.waits;
      turn = c.turn;
    }

    -- each actor has one seat
    other_actor : (j : ℕ) (u : View E) → j ≢ id → Sits actor_of limits h.b h.ticket h.serving h.slot h.made h.gone h.seat_of h.holder j u → u.actor ≢ v.actor
    other_actor j u apart o same = apart (sym o.seat ∙ ap h.seat_of same ∙ sits.seat)

    other_now : (j : ℕ) (u : View E) → j ≢ id → get_elem? s.views j ≡ some u → u.is_live ≡ true → Sits actor_of limits b ticket serving slot h.made h.gone h.seat_of holder j u
    other_now j u apart there live =
        let o = h.live j u there live in record {
          limits_are = o.limits_are;
          seen = prefix_longer u.seen h.b.items b.items c.new o.seen c.grows;
          mine = o.mine ∙ others_items actor_of u.actor h.b.items b.items c.new c.grows (not_new u.actor (other_actor j u apart o));
          seat = o.seat;
          first = o.first;
          among = o.among;
          apart = o.apart;
          waits = λ t is. let x = o.waits t is in c.others_wait j t apart x.0 x.1 x.2;
          turn = λ taken is. c.others_turn j u taken apart there live is;
        }

    live_now : (j : ℕ) (u : View E) → get_elem? views j ≡ some u → u.is_live ≡ true → Sits actor_of limits b ticket serving slot h.made h.gone h.seat_of holder j u
    live_now j u is live = ⊎_elim
        (λ (t : (j ≡ id) × (w ≡ u)). subst (λ (x : ℕ × View E). Sits actor_of limits b ticket serving slot h.made h.gone h.seat_of holder x.0 x.1) (λ k. (sym t.0 k, t.1 k)) mine_now)
        (λ (t : (j ≢ id) × (get_elem? s.views j ≡ some u)). other_now j u t.0 t.1 live)
        (at_set s.views id j w u is)

    off : true ≡ false → ⊥
    off e = cc

    spent_now : (j : ℕ) (u : View E) → get_elem? views j ≡ some u → u.is_live ≡ false → IsSpent u
    spent_now j u is dead = ⊎_elim
        (λ (t : (j ≡ id) × (w ≡ u)). absurd (off (sym c.is_live ∙ ap (λ (x : View E). x.is_live) t.1 ∙ dead)))
        (λ (t : (j ≢ id) × (get_elem? s.views j ≡ some u)). h.spent j u t.1 dead)
        (at_set s.views id j w u is)

    new_made : (item : E) → Contains b.items item → Contains h.made (actor_of item)
    new_made item is = ⊎_elim
        (λ (x : Contains h.b.items item). h.all_made item x)
        (λ (x : Contains c.new item). let y = c.by_it item x in subst (Contains h.made) (sym y.0) (sits.among y.1))
        (Contains-append_cases h.b.items c.new item (subst (λ l. Contains l item) c.grows is))

    left_now : (g : Gone E) → Contains h.gone g → Left actor_of b h.made g
    left_now g is =
        let l = h.left g is in record {
          seen = prefix_longer g.seen h.b.items b.items c.new l.seen c.grows;
          mine = l.mine ∙ others_items actor_of g.actor h.b.items b.items c.new c.grows (not_new g.actor (sits.apart g is));
          among = l.among;
        }

    -- no new visit is of another actor
    not_visited : (actor : ℕ) → actor ≢ v.actor → (visit : Visit) → Contains c.more visit → whose visit ≢ actor
    not_visited actor apart visit is same = apart (sym same ∙ c.visits_by_it visit is)

    other_logged : (j : ℕ) (u : View E) → j ≢ id → get_elem? s.views j ≡ some u → u.is_live ≡ true → IsLogged c.log u
    other_logged j u apart there live =
        let o = h.logged j u there live in record {
          visits = prefix_longer u.visits h.log c.log c.more o.visits c.log_grows;
          own = o.own ∙ others_items whose u.actor h.log c.log c.more c.log_grows (not_visited u.actor (other_actor j u apart (h.live j u there live)));
          turn = λ taken is. c.others_know j u taken apart there live is;
          holds = o.holds;
        }

    logged_now : (j : ℕ) (u : View E) → get_elem? views j ≡ some u → u.is_live ≡ true → IsLogged c.log u
    logged_now j u is live = ⊎_elim
        (λ (t : (j ≡ id) × (w ≡ u)). subst (λ (x : View E). IsLogged c.log x) t.1 c.logged)
        (λ (t : (j ≢ id) × (get_elem? s.views j ≡ some u)). other_logged j u t.0 t.1 live)
        (at_set s.views id j w u is)

    gone_logged_now : (g : Gone E) → Contains h.gone g → WasLogged c.log g
    gone_logged_now g is =
        let l = h.gone_logged g is in record {
          visits = prefix_longer g.visits h.log c.log c.more l.visits c.log_grows;
          own = l.own ∙ others_items whose g.actor h.log c.log c.more c.log_grows (not_visited g.actor (sits.apart g is));
        }

    new_logged : (visit : Visit) → visit.actor ≡ v.actor → (visit.actor ≡ 0) ⊎ Contains h.made visit.actor
    new_logged visit is = dite (ℕ_discrete v.actor 0)
        (λ z. inl (is ∙ z))
        (λ nz. inr (subst (Contains h.made) (sym is) (sits.among nz)))

    all_logged_now : (visit : Visit) → Contains c.log visit → (visit.actor ≡ 0) ⊎ Contains h.made visit.actor
    all_logged_now visit is = ⊎_elim
        (λ (x : Contains h.log visit). h.all_logged visit x)
        (λ (x : Contains c.more visit). new_logged visit (c.visits_by_it visit x))
        (Contains-append_cases h.log c.more visit (subst (λ l. Contains l visit) c.log_grows is))

    accounted_now : (actor : ℕ) → Contains h.made actor → ((g : Gone E) × Contains h.gone g × (g.actor ≡ actor)) ⊎ ((u : View E) × (get_elem? views (h.seat_of actor) ≡ some u) × (u.is_live ≡ true) × (u.actor ≡ actor))
    accounted_now actor is = ⊎_elim
        (λ (x : (g : Gone E) × Contains h.gone g × (g.actor ≡ actor)). inl x)
        (λ (x : (u : View E) × (get_elem? s.views (h.seat_of actor) ≡ some u) × (u.is_live ≡ true) × (u.actor ≡ actor)). inr (dite (ℕ_discrete (h.seat_of actor) id)
        (λ here.
        let same : v ≡ x.0 = some-injective v x.0 (sym at ∙ ap (λ k. get_elem? s.views k) (sym here) ∙ x.1) in
        (w, ap (λ k. get_elem? views k) here ∙ set_here s.views id w (at_place s.views id v at).0, c.is_live, c.same_actor ∙ ap (λ (y : View E). y.actor) same ∙ x.3))
        (λ there. (x.0, set_else s.views id (h.seat_of actor) w there ∙ x.1, x.2, x.3))))
        (h.accounted actor is)

    pub kept : (words : List ℕ) (homes : List (Option (Content E))) → words ≡ ticket ∷ serving ∷ [] → homes ≡ slot ∷ [] → Holds actor_of limits record { words = words; homes = homes; views = views }
    kept words homes words_are homes_are = record {
      b = b;
      ticket = ticket;
      serving = serving;
      slot = slot;
      made = h.made;
      gone = h.gone;
      seat_of = h.seat_of;
      holder = holder;
      words_are = words_are;
      homes_are = homes_are;
      slot_is = c.slot_is;
      low = c.low;
      served = c.served;
      limits_are = c.limits_are ∙ h.limits_are;
      live = live_now;
      spent = spent_now;
      reserved = (let t = sum_set (λ (u : View E). u.held_items) s.views id v w at in let r = h.reserved in let k = c.counts in omega arith);
      reserved_weight = (let t = sum_set (λ (u : View E). u.held_weight) s.views id v w at in let r = h.reserved_weight in let k = c.weights in omega arith);
      log = c.log;
      logged = logged_now;
      gone_logged = gone_logged_now;
      all_logged = all_logged_now;
      summed = c.summed;
      counted = (let t = sum_set (λ (u : View E). one_if u.is_live) s.views id v w at in let r = h.counted in let e : one_if v.is_live ≡ one_if w.is_live = ap one_if (was_live ∙ sym c.is_live) in omega arith);
      all_made = new_made;
      no_first = h.no_first;
      left = left_now;
      accounted = accounted_now;
    }

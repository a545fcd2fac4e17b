-- The steps of a plan that is made.
use Rattle.std.proofs.Common.{◌≡◌, ℕ, ◌⊎◌, inl, inr, ⊎_elim, Bool, true, false, not, cond, ◌&&◌, ◌||◌, List, [], ◌∷◌, ◌++◌, Some, sym, refl, ap, ◌∙◌, subst, arith}
use Rattle.std.specs.List.{AllByRecursion, Contains}
use Rattle.std.specs.Ordering.{is_lt, is_eq, ordering_then, ordering_reverse}
use Rattle.std.specs.Cmp.{Equal-is}
use Rattle.std.specs.declared.cmp.Ordering.{Ordering}
use Rattle.std.specs.declared.cmp.Ordering.TheVariants.{Less, Equal, Greater}
use Rattle.std.proofs.lemmas.Bool.{true≢false, and_left, and_right, false_from_ne_true}
use Rattle.std.proofs.lemmas.List.Elements.{Contains-append_left, Contains-append_right, Contains-append_cases}
use Rattle.acc_stamp.specs.declared.stamps.Stamp.{Stamp}
use Rattle.acc_stamp.specs.declared.stamps.TxnId.{TxnId}
use Rattle.acc_stamp.specs.Stamp.{stamp_cmp, stamp_lt, id_cmp, id_eq}
use Rattle.acc_stamp.specs.Rising.{IsRisingBy}
use Rattle.acc_stamp.proofs.Order.{id_order, id_cmp_exact, id_cmp_total}
use Rattle.acc_stamp.proofs.Rising.{each_append}
use Rattle.acc_deps.specs.declared.records.Settled.{Settled}
use Rattle.acc_message.specs.Opening.{Change, is_past}
use Rattle.acc_record.specs.declared.shelf.Watch.{Watch}
use Rattle.acc_opening.specs.Plan.{Lookup, settled_in, is_past_behind, is_applied_behind, IsRight, EachRight}
use Rattle.acc_opening.specs.declared.turns.Turn.{Turn}
use Rattle.acc_opening.specs.Turns.{key_of, key_lt, turn_lt, change_of, changes_in, HasItsTime, HasTurn}
use Rattle.acc_opening.specs.Touched.{is_same}
use Rattle.acc_opening.specs.State.{IsClosed, IsHeld, IsWoken, HasTurnOf, IsPlaced, IsUnderWay}
use Rattle.acc_opening.proofs.TurnFacts.{key_lt-trans, Contains-cons_cases, Contains-first, Contains-later}
use Rattle.acc_opening.proofs.Behind.{past-same, closed-later, right-later, each-push}

pub is_same-true : (x y : TxnId) → is_same x y ≡ true → x ≡ y
is_same-true x y e = id_cmp_exact x y ((Equal-is (id_cmp x y)).0 e)

itself_equal : (r : Ordering) → r ≡ ordering_reverse r → is_eq r ≡ true
itself_equal Less e = absurd cc
itself_equal Equal e = refl
itself_equal Greater e = absurd cc

pub is_same-itself : (x : TxnId) → is_same x x ≡ true
is_same-itself x = itself_equal (id_cmp x x) (id_cmp_total.antisymm x x)

-- ---- one that was woken

pub only_it : {X : Type 0} (x v : X) → Contains (x ∷ []) v → v ≡ x
only_it x v c = ⊎_elim (λ e. e) (λ k. absurd (omega (arith, k.1))) (Contains-cons_cases x [] v c)

module _ (shard : ℕ) (at : Lookup) (watching : TxnId → List Watch) (w : Watch) (rest : List Watch) (done queue : List Turn) (s : IsUnderWay shard at watching (w ∷ rest) done queue) where
  -- it waits for another dependency
  module _ (after : TxnId → List Watch) (z : TxnId) (next : Watch) (adds : (y : TxnId) → after y ≡ cond (is_same z y) (watching y ++ next ∷ []) (watching y)) (same : next.id ≡ w.id) (held : IsHeld shard at (changes_in done) z next) where
    held_after : (y : TxnId) (v : Watch) (b : Bool) → is_same z y ≡ b → Contains (cond b (watching y ++ next ∷ []) (watching y)) v → IsHeld shard at (changes_in done) y v
    held_after y v false e c = s.held y v c
    held_after y v true e c =
        ⊎_elim (s.held y v)
        (λ k. let same_id : z ≡ y = is_same-true z y e in
        let it : v ≡ next = only_it next v k in
        subst (λ x. IsHeld shard at (changes_in done) x v) same_id (subst (IsHeld shard at (changes_in done) z) (sym it) held))
        (Contains-append_cases (watching y) (next ∷ []) v c)

    stays : (y : TxnId) (v : Watch) (b : Bool) → Contains (watching y) v → Contains (cond b (watching y ++ next ∷ []) (watching y)) v
    stays y v false c = c
    stays y v true c = Contains-append_left (watching y) (next ∷ []) v c

    there : (b : Bool) → b ≡ true → Contains (cond b (watching z ++ next ∷ []) (watching z)) next
    there true e = Contains-append_right (watching z) (next ∷ []) next (Contains-first next [])
    there false e = absurd (true≢false (sym e))

    placed_after : (x : TxnId) → IsPlaced x watching (w ∷ rest) done queue → IsPlaced x after rest done queue
    placed_after x (inl h) = inl h
    placed_after x (inr (inl h)) = inr (inl h)
    placed_after x (inr (inr (inl (y, (v, c, e))))) =
        inr (inr (inl (y, (v, subst (λ list. Contains list v) (sym (adds y)) (stays y v (is_same z y) c), e))))
    placed_after x (inr (inr (inr (v, c, e)))) =
        ⊎_elim
        (λ k. inr (inr (inl (
          z,
          (
            next,
            subst (λ list. Contains list next) (sym (adds z)) (there (is_same z z) (is_same-itself z)),
            same ∙ ap (λ u. u.id) (sym k) ∙ e,
          ),
        ))))
        (λ k. inr (inr (inr (v, k, e)))) (Contains-cons_cases w rest v c)

    pub moved : IsUnderWay shard at after rest done queue
    moved = record {
      each = s.each;
      times = s.times;
      rises = s.rises;
      queue_rises = s.queue_rises;
      queue_times = s.queue_times;
      later = s.later;
      due = s.due;
      held = λ y v c. held_after y v (is_same z y) refl (subst (λ list. Contains list v) (adds y) c);
      awake = λ v c. s.awake v (Contains-later w rest v c);
      opened = λ x r a b e. placed_after x (s.opened x r a b e);
      applied = s.applied;
    }

  -- its turn comes
  module _ (turn : Turn) (after : List Turn) (has : HasTurn turn queue after) (right : IsRight shard at (changes_in done) (change_of turn)) (time : HasItsTime at turn) (same : turn.id ≡ w.id) (behind : (a : Turn) → Contains done a → turn_lt a turn ≡ true) where
    kept_turn : (x : TxnId) → HasTurnOf x queue → HasTurnOf x after
    kept_turn x (a, c, e) = (a, has.kept a c, e)

    queued_after : (x : TxnId) → IsPlaced x watching (w ∷ rest) done queue → IsPlaced x watching rest done after
    queued_after x (inl h) = inl h
    queued_after x (inr (inl h)) = inr (inl (kept_turn x h))
    queued_after x (inr (inr (inl h))) = inr (inr (inl h))
    queued_after x (inr (inr (inr (v, c, e)))) =
        ⊎_elim
        (λ k. inr (inl (has.there.0, has.there.1, ap (λ key. key.1) has.there.2 ∙ same ∙ ap (λ u. u.id) (sym k) ∙ e)))
        (λ k. inr (inr (inr (v, k, e)))) (Contains-cons_cases w rest v c)

    pub queued : IsUnderWay shard at watching rest done after
    queued = record {
      each = s.each;
      times = s.times;
      rises = s.rises;
      queue_rises = has.rises;
      queue_times = λ a c. ⊎_elim (s.queue_times a) (λ e. subst (HasItsTime at) (sym e) time) (has.only a c);
      later = λ a b p q. ⊎_elim (s.later a b p) (λ e. subst (λ z. turn_lt a z ≡ true) (sym e) (behind a p)) (has.only b q);
      due = λ a c. ⊎_elim (s.due a) (λ e. subst (λ z. IsRight shard at (changes_in done) (change_of z)) (sym e) right) (has.only a c);
      held = s.held;
      awake = λ v c. s.awake v (Contains-later w rest v c);
      opened = λ x r a b e. queued_after x (s.opened x r a b e);
      applied = λ x r a o h e. ⊎_elim inl (λ k. inr (kept_turn x k)) (s.applied x r a o h e);
    }

-- ---- the least turn that comes is taken

changes-push : (done : List Turn) (turn : Turn) → changes_in (done ++ turn ∷ []) ≡ changes_in done ++ change_of turn ∷ []
changes-push [] turn = refl
changes-push (a ∷ done) turn = ap (λ list. change_of a ∷ list) (changes-push done turn)

push_rises : (done : List Turn) (turn : Turn) → IsRisingBy turn_lt done → ((a : Turn) → Contains done a → turn_lt a turn ≡ true) → IsRisingBy turn_lt (done ++ turn ∷ [])
push_rises [] turn r f = (tt, tt)
push_rises (a ∷ done) turn r f =
    (each_append (λ y. turn_lt a y ≡ true) done (turn ∷ []) r.0 (f a (Contains-first a done), tt), push_rises done turn r.1 (λ b c. f b (Contains-later a done b c)))

pub each_contained : {X : Type 0} (P : X → Type 0) (xs : List X) (x : X) → AllByRecursion P xs → Contains xs x → P x
each_contained P [] x h c = absurd (omega (arith, c.1))
each_contained P (y ∷ ys) x h c = ⊎_elim (λ e. subst P (sym e) h.0) (each_contained P ys x h.1) (Contains-cons_cases y ys x c)

not_past_first : (t u : Stamp) (b : Bool) → (not (stamp_lt u t) || b) ≡ false → stamp_lt u t ≡ true
not_past_first t u b h = first (stamp_lt u t) h
  where
    first : (c : Bool) → (not c || b) ≡ false → c ≡ true
    first true h = refl
    first false h = absurd (true≢false h)

lt_then : (r s : Ordering) → is_lt r ≡ true → is_lt (ordering_then r s) ≡ true
lt_then Less s h = refl
lt_then Equal s h = absurd (true≢false (sym h))
lt_then Greater s h = absurd (true≢false (sym h))

pub some_same : {X : Type 0} (x y : X) → Some x ≡ Some y → x ≡ y
some_same x y e = cc

-- what a transaction holds back comes after it
held_key : (at : Lookup) (changes : List Change) (turn : Turn) (t : Stamp) (x : TxnId) → HasItsTime at turn → is_past_behind at changes t turn.id ≡ false
    → key_lt (key_of turn) (t, x) ≡ true
held_key at changes turn t x time h =
    let b : Bool = is_applied_behind at changes turn.id in
    let first : stamp_lt time.settled.t t ≡ true = not_past_first t time.settled.t b (sym (ap (is_past t b) time.stable) ∙ h) in
    lt_then (stamp_cmp turn.t t) (id_cmp turn.id x) (ap (λ u. stamp_lt u t) time.t ∙ first)

module _ (shard : ℕ) (at : Lookup) (watching : TxnId → List Watch) (done : List Turn) (turn : Turn) (rest : List Turn) (s : IsUnderWay shard at watching [] done (turn ∷ rest)) where
  here : Contains (turn ∷ rest) turn
  here = Contains-first turn rest

  behind : (a : Turn) → Contains done a → turn_lt a turn ≡ true
  behind a c = s.later a turn c here

  each_after : EachRight shard at [] (changes_in (done ++ turn ∷ []))
  each_after = subst (EachRight shard at []) (sym (changes-push done turn)) (each-push shard at [] (changes_in done) (change_of turn) s.each (s.due turn here))

  later_after : (a b : Turn) → Contains (done ++ turn ∷ []) a → Contains rest b → turn_lt a b ≡ true
  later_after a b p q =
      ⊎_elim (λ c. s.later a b c (Contains-later turn rest b q))
      (λ c. subst (λ z. turn_lt z b ≡ true) (sym (only_it turn a c)) (each_contained (λ z. turn_lt turn z ≡ true) rest b s.queue_rises.0 q))
      (Contains-append_cases done (turn ∷ []) a p)

  due_after : (a : Turn) → Contains rest a → IsRight shard at (changes_in (done ++ turn ∷ [])) (change_of a)
  due_after a c =
      subst (λ list. IsRight shard at list (change_of a)) (sym (changes-push done turn))
      (right-later shard at (changes_in done) (change_of turn) (change_of a) (s.due a (Contains-later turn rest a c)))

  turn_after : (x : TxnId) → HasTurnOf x (turn ∷ rest) → HasTurnOf x (done ++ turn ∷ []) ⊎ HasTurnOf x rest
  turn_after x (a, c, e) =
      ⊎_elim (λ k. inl (a, subst (Contains (done ++ turn ∷ [])) (sym k) (Contains-append_right done (turn ∷ []) turn (Contains-first turn [])), e))
      (λ k. inr (a, k, e)) (Contains-cons_cases turn rest a c)

  turn_before : (x : TxnId) → HasTurnOf x done → HasTurnOf x (done ++ turn ∷ [])
  turn_before x (a, c, e) = (a, Contains-append_left done (turn ∷ []) a c, e)

  still_held : (y : TxnId) (w : Watch) → IsHeld shard at (changes_in done) y w → (id_eq turn.id y && turn.applies) ≡ false
      → IsHeld shard at (changes_in (done ++ turn ∷ [])) y w
  still_held y w h other =
      subst (λ list. IsHeld shard at list y w) (sym (changes-push done turn))
      (record {
        of = closed-later shard at (changes_in done) (change_of turn) w.id w.place h.of;
        waits_for = h.waits_for;
        held = past-same at (changes_in done) (change_of turn) h.of.settled.t y other ∙ h.held;
      })

  applied_after : (x : TxnId) → HasTurnOf x done ⊎ HasTurnOf x (turn ∷ rest) → HasTurnOf x (done ++ turn ∷ []) ⊎ HasTurnOf x rest
  applied_after x p = ⊎_elim (λ h. inl (turn_before x h)) (turn_after x) p

  -- where it applies nothing, nobody is woken
  module _ (idle : turn.applies ≡ false) where
    placed_idle : (x : TxnId) → IsPlaced x watching [] done (turn ∷ rest) → IsPlaced x watching [] (done ++ turn ∷ []) rest
    placed_idle x (inl h) = inl (turn_before x h)
    placed_idle x (inr (inl h)) = ⊎_elim inl (λ k. inr (inl k)) (turn_after x h)
    placed_idle x (inr (inr h)) = inr (inr h)

    pub taken_idle : IsUnderWay shard at watching [] (done ++ turn ∷ []) rest
    taken_idle = record {
      each = each_after;
      times = each_append (HasItsTime at) done (turn ∷ []) s.times (s.queue_times turn here, tt);
      rises = push_rises done turn s.rises behind;
      queue_rises = s.queue_rises.1;
      queue_times = λ a c. s.queue_times a (Contains-later turn rest a c);
      later = later_after;
      due = due_after;
      held = λ y w c. still_held y w (s.held y w c) (and_right (id_eq turn.id y) turn.applies idle);
      awake = λ w c. absurd (omega (arith, c.1));
      opened = λ x r a b e. placed_idle x (s.opened x r a b e);
      applied = λ x r a o h e. applied_after x (s.applied x r a o h e);
    }

  -- where it applies its transaction, all that waited for this are woken
  module _ (after : TxnId → List Watch) (woken : List Watch) (takes : (y : TxnId) → after y ≡ cond (is_same turn.id y) [] (watching y)) (are : woken ≡ watching turn.id) where
    other_held : (y : TxnId) (w : Watch) (b : Bool) → is_same turn.id y ≡ b → Contains (cond b [] (watching y)) w → IsHeld shard at (changes_in (done ++ turn ∷ [])) y w
    other_held y w true e c = absurd (omega (arith, c.1))
    other_held y w false e c =
        still_held y w (s.held y w c)
        (and_left (id_eq turn.id y) turn.applies
        (false_from_ne_true (id_eq turn.id y)
        (λ k. true≢false (sym (subst (λ z. is_same turn.id z ≡ true) ((id_order.decides turn.id y).0 k) (is_same-itself turn.id)) ∙ e))))

    awake_after : (w : Watch) → Contains woken w → IsWoken shard at (done ++ turn ∷ []) w
    awake_after w c =
        let h : IsHeld shard at (changes_in done) turn.id w = s.held turn.id w (subst (λ list. Contains list w) are c) in
        let mine : key_lt (key_of turn) (h.of.settled.t, w.id) ≡ true = held_key at (changes_in done) turn h.of.settled.t w.id (s.queue_times turn here) h.held in
        let is : settled_in (at w.id) ≡ Some h.of.settled = ap settled_in h.of.there_is ∙ h.of.stable in
        record {
          of = subst (λ list. IsClosed shard at list w.id w.place) (sym (changes-push done turn)) (closed-later shard at (changes_in done) (change_of turn) w.id w.place h.of);
          later = λ a settled p e.
              let same : h.of.settled ≡ settled = some_same h.of.settled settled (sym is ∙ e) in
              subst (λ (z : Settled). key_lt (key_of a) (z.t, w.id) ≡ true) same
              (⊎_elim (λ k. key_lt-trans (key_of a) (key_of turn) (h.of.settled.t, w.id) (behind a k) mine)
              (λ k. subst (λ z. key_lt (key_of z) (h.of.settled.t, w.id) ≡ true) (sym (only_it turn a k)) mine)
              (Contains-append_cases done (turn ∷ []) a p));
        }

    placed_woken : (x : TxnId) → IsPlaced x watching [] done (turn ∷ rest) → IsPlaced x after woken (done ++ turn ∷ []) rest
    placed_woken x (inl h) = inl (turn_before x h)
    placed_woken x (inr (inl h)) = ⊎_elim inl (λ k. inr (inl k)) (turn_after x h)
    placed_woken x (inr (inr (inr (w, c, e)))) = absurd (omega (arith, c.1))
    placed_woken x (inr (inr (inl (y, (w, c, e))))) = by (is_same turn.id y) refl
      where
        by : (b : Bool) → is_same turn.id y ≡ b → IsPlaced x after woken (done ++ turn ∷ []) rest
        by true k =
            let same_id : turn.id ≡ y = is_same-true turn.id y k in
            inr (inr (inr (w, subst (λ list. Contains list w) (sym are) (subst (λ z. Contains (watching z) w) (sym same_id) c), e)))
        by false k =
            let list : after y ≡ watching y = takes y ∙ ap (λ b. cond b [] (watching y)) k in
            inr (inr (inl (y, (w, subst (λ list. Contains list w) (sym list) c, e))))

    pub taken_woken : IsUnderWay shard at after woken (done ++ turn ∷ []) rest
    taken_woken = record {
      each = each_after;
      times = each_append (HasItsTime at) done (turn ∷ []) s.times (s.queue_times turn here, tt);
      rises = push_rises done turn s.rises behind;
      queue_rises = s.queue_rises.1;
      queue_times = λ a c. s.queue_times a (Contains-later turn rest a c);
      later = later_after;
      due = due_after;
      held = λ y w c. other_held y w (is_same turn.id y) refl (subst (λ list. Contains list w) (takes y) c);
      awake = awake_after;
      opened = λ x r a b e. placed_woken x (s.opened x r a b e);
      applied = λ x r a o h e. applied_after x (s.applied x r a o h e);
    }

-- Turns in their order.
use Rattle.std.proofs.Common.{◌≡◌, ℕ, ◌<◌, ◌⊎◌, inl, inr, ⊎_elim, Bool, true, false, ◌&&◌, ◌||◌, List, [], ◌∷◌, ◌++◌, length, get_or, take, drop, suc, zero, Ordering, sym, refl, ap, ◌∙◌, subst, arith}
use Rattle.std.specs.Bool.{Decides}
use Rattle.std.specs.Cmp.{IsTotalOrder}
use Rattle.std.specs.declared.cmp.Ordering.TheVariants.{Less, Equal, Greater}
use Rattle.std.specs.List.{AllByRecursion, Contains}
use Rattle.std.specs.Ordering.{is_lt, ordering_then, ordering_reverse}
use Rattle.std.proofs.lemmas.Bool.{true≢false, or_from, and_left, false_from_ne_true}
use Rattle.std.proofs.lemmas.Bool.Decides.{Decides-and, Decides-like}
use Rattle.std.proofs.lemmas.Cmp.{on_total, then_total}
use Rattle.std.proofs.lemmas.List.{take-append-drop}
use Rattle.std.proofs.lemmas.List.Elements.{Contains-append_left, Contains-append_right, Contains-append_cases}
use Rattle.std.proofs.lemmas.List.Folds.{list_any-append}
use Rattle.std.proofs.lemmas.Map.Lookups.{CmpEqualImpliesEq}
use Rattle.acc_stamp.specs.declared.stamps.Stamp.{Stamp}
use Rattle.acc_stamp.specs.declared.stamps.TxnId.{TxnId}
use Rattle.acc_stamp.specs.Rising.{IsRisingBy, IsGapFor}
use Rattle.acc_stamp.proofs.Order.{stamp_eq-Decides, id_order, stamp_cmp_total, stamp_cmp_exact, id_cmp_total, id_cmp_exact}
use Rattle.acc_stamp.proofs.Rising.{each_append, each_parts}
use Rattle.acc_opening.specs.declared.turns.Turn.{Turn}
use Rattle.acc_opening.specs.Turns.{Key, key_of, key_cmp, key_lt, turn_lt, has_key, is_applied_at, HasTurn}

-- ---- the order of keys

pub key_cmp_total : IsTotalOrder key_cmp
key_cmp_total = then_total (on_total (λ k. k.0) stamp_cmp_total) (on_total (λ k. k.1) id_cmp_total)

then_equal : (r s : Ordering) → ordering_then r s ≡ Equal → (r ≡ Equal) × (s ≡ Equal)
then_equal Less s e = absurd cc
then_equal Equal s e = (refl, e)
then_equal Greater s e = absurd cc

pub key_cmp_exact : CmpEqualImpliesEq key_cmp
key_cmp_exact a b e =
    let parts = then_equal _ _ e in
    let p : a.0 ≡ b.0 = stamp_cmp_exact a.0 b.0 parts.0 in
    let q : a.1 ≡ b.1 = id_cmp_exact a.1 b.1 parts.1 in
    λ i. (p i, q i)

less_is : (r : Ordering) → is_lt r ≡ true → r ≡ Less
less_is Less e = refl
less_is Equal e = absurd (true≢false (sym e))
less_is Greater e = absurd (true≢false (sym e))

pub key_lt-trans : (a b c : Key) → key_lt a b ≡ true → key_lt b c ≡ true → key_lt a c ≡ true
key_lt-trans a b c h k = ap is_lt (key_cmp_total.trans a b c (less_is _ h) (less_is _ k))

itself : (r : Ordering) → r ≡ ordering_reverse r → is_lt r ≡ false
itself Less e = absurd cc
itself Equal e = refl
itself Greater e = refl

pub key_lt-irrefl : (a : Key) → key_lt a a ≡ false
key_lt-irrefl a = itself (key_cmp a a) (key_cmp_total.antisymm a a)

pub has_key-Decides : (t : Stamp) (id : TxnId) (turn : Turn) → Decides (has_key t id turn) (key_of turn ≡ (t, id))
has_key-Decides t id turn =
    Decides-like _ (λ h i. (h.0 i, h.1 i)) (λ e. (ap (λ k. k.0) e, ap (λ k. k.1) e))
    (Decides-and _ _ (stamp_eq-Decides turn.t t) (id_order.decides turn.id id))

apart : (k : Key) (turn : Turn) → key_lt (key_of turn) k ≡ true → has_key k.0 k.1 turn ≡ false
apart k turn h =
    false_from_ne_true _
    (λ e. true≢false (sym h ∙ ap (λ j. key_lt j k) ((has_key-Decides k.0 k.1 turn).0 e) ∙ key_lt-irrefl k))

apart_back : (k : Key) (turn : Turn) → key_lt k (key_of turn) ≡ true → has_key k.0 k.1 turn ≡ false
apart_back k turn h =
    false_from_ne_true _
    (λ e. true≢false (sym h ∙ ap (key_lt k) ((has_key-Decides k.0 k.1 turn).0 e) ∙ key_lt-irrefl k))

-- ---- what is applied, by a search

none_below : (k : Key) (turns : List Turn) → AllByRecursion (λ y. key_lt (key_of y) k ≡ true) turns → is_applied_at turns k.0 k.1 ≡ false
none_below k [] h = refl
none_below k (y ∷ ys) h = or_from _ _ (and_left _ y.applies (apart k y h.0)) (none_below k ys h.1)

none_above : (k : Key) (turns : List Turn) → AllByRecursion (λ y. key_lt k (key_of y) ≡ true) turns → is_applied_at turns k.0 k.1 ≡ false
none_above k [] h = refl
none_above k (y ∷ ys) h = or_from _ _ (and_left _ y.applies (apart_back k y h.0)) (none_above k ys h.1)

all_at : (P : Turn → Type 0) (turns : List Turn) (i : ℕ) (d : Turn) → AllByRecursion P turns → i < length turns → P (get_or turns i d)
all_at P [] i d h k = absurd (omega arith)
all_at P (x ∷ xs) zero d h k = h.0
all_at P (x ∷ xs) (suc i) d h k = all_at P xs i d h.1 (omega arith)

first_of : (b c r : Bool) → b ≡ true → r ≡ false → c ≡ ((b && c) || r)
first_of true true r p q = refl
first_of true false r p q = sym q
first_of false c r p q = absurd (true≢false (sym p))

later_of : (b c r s : Bool) → b ≡ false → s ≡ r → s ≡ ((b && c) || r)
later_of true c r s p q = absurd (true≢false p)
later_of false c r s p q = q

pub applied-place : (t : Stamp) (id : TxnId) (turns : List Turn) (i : ℕ) (d : Turn) → IsRisingBy turn_lt turns → i < length turns
    → key_of (get_or turns i d) ≡ (t, id) → (get_or turns i d).applies ≡ is_applied_at turns t id
applied-place t id [] i d r h e = absurd (omega arith)
applied-place t id (x ∷ xs) zero d r h e =
    first_of (has_key t id x) x.applies _ ((has_key-Decides t id x).1 e)
    (none_above (t, id) xs (subst (λ k. AllByRecursion (λ y. key_lt k (key_of y) ≡ true) xs) e r.0))
applied-place t id (x ∷ xs) (suc i) d r h e =
    later_of (has_key t id x) x.applies _ _
    (apart (t, id) x (subst (λ k. key_lt (key_of x) k ≡ true) e (all_at (λ y. turn_lt x y ≡ true) xs i d r.0 (omega arith))))
    (applied-place t id xs i d r.1 (omega arith) e)

pub applied-gap : (t : Stamp) (id : TxnId) (turns : List Turn) (i : ℕ) → IsGapFor key_lt key_of turns (t, id) i → false ≡ is_applied_at turns t id
applied-gap t id turns i g =
    sym (ap (λ list. is_applied_at list t id) (sym (take-append-drop i turns))
    ∙ list_any-append (λ turn. has_key t id turn && turn.applies) (take i turns) (drop i turns)
    ∙ or_from _ _ (none_below (t, id) (take i turns) g.below) (none_above (t, id) (drop i turns) g.above))

-- ---- one more turn

pub Contains-cons_cases : {X : Type 0} (y : X) (ys : List X) (x : X) → Contains (y ∷ ys) x → (x ≡ y) ⊎ Contains ys x
Contains-cons_cases y ys x (zero, h, e) = inl (sym e)
Contains-cons_cases y ys x (suc i, h, e) = inr (i, omega (arith, h), e)

pub Contains-first : {X : Type 0} (x : X) (xs : List X) → Contains (x ∷ xs) x
Contains-first x xs = (0, omega arith, refl)

pub Contains-later : {X : Type 0} (y : X) (xs : List X) (x : X) → Contains xs x → Contains (y ∷ xs) x
Contains-later y xs x (i, h, e) = (suc i, omega (arith, h), e)

rising_insert : (x : Turn) (front back : List Turn) → IsRisingBy turn_lt (front ++ back) → AllByRecursion (λ y. turn_lt y x ≡ true) front
    → AllByRecursion (λ y. turn_lt x y ≡ true) back → IsRisingBy turn_lt (front ++ x ∷ back)
rising_insert x [] back r below above = (above, r)
rising_insert x (y ∷ ys) back r below above =
    let parts = each_parts (λ z. turn_lt y z ≡ true) ys back r.0 in
    (each_append (λ z. turn_lt y z ≡ true) ys (x ∷ back) parts.0 (below.0, parts.1), rising_insert x ys back r.1 below.1 above)

only_one : (x : Turn) (front back : List Turn) (a : Turn) → Contains (front ++ x ∷ back) a → Contains (front ++ back) a ⊎ (a ≡ x)
only_one x front back a c =
    ⊎_elim (λ h. inl (Contains-append_left front back a h))
    (λ h. ⊎_elim (λ e. inr e) (λ k. inl (Contains-append_right front back a k)) (Contains-cons_cases x back a h))
    (Contains-append_cases front (x ∷ back) a c)

each_kept : (x : Turn) (front back : List Turn) (a : Turn) → Contains (front ++ back) a → Contains (front ++ x ∷ back) a
each_kept x front back a c =
    ⊎_elim (Contains-append_left front (x ∷ back) a)
    (λ h. Contains-append_right front (x ∷ back) a (Contains-later x back a h))
    (Contains-append_cases front back a c)

pub between : (turn : Turn) (front back : List Turn) → IsRisingBy turn_lt (front ++ back) → AllByRecursion (λ y. turn_lt y turn ≡ true) front
    → AllByRecursion (λ y. turn_lt turn y ≡ true) back → HasTurn turn (front ++ back) (front ++ turn ∷ back)
between turn front back r below above = record {
  rises = rising_insert turn front back r below above;
  only = only_one turn front back;
  kept = each_kept turn front back;
  there = (turn, Contains-append_right front (turn ∷ back) turn (Contains-first turn back), refl);
}

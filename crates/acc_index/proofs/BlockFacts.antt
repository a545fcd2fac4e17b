-- A block of places: what its mask tells, and what the lanes answer for it.
use Rattle.std.proofs.Common.{◌≡◌, ◌==◌, ℕ, zero, suc, ◌+◌, ◌-◌, ◌<◌, ◌≤◌, Bool, true, false, cond, ◌&&◌, ◌||◌, List, [], ◌∷◌, ◌++◌, Option, Some, None, length, get_or, set, ◌≢◌, map, take, drop, refl, sym, ap, subst, ◌∙◌, arith, eqb-true, eq-eqb, ⊎_elim}
use Rattle.std.specs.List.{Contains, list_any, zip}
use Rattle.std.proofs.lemmas.Bool.{true≢false, and_parts, and_from}
use Rattle.std.proofs.lemmas.Bool.Decides.{nat_tests}
use Rattle.std.proofs.lemmas.List.{take_more, length-map, length-take, get_or-take, get_or-set_same, get_or-set_other}
use Rattle.std.proofs.lemmas.List.Elements.{Contains-append_left, Contains-append_right, Contains-append_cases}
use Rattle.std.proofs.lemmas.List.Folds.{list_any-append}
use Rattle.std.proofs.lemmas.Simd.{length-chunk, get_or-chunk}
use Rattle.acc_stamp.specs.declared.stamps.Stamp.{Stamp}
use Rattle.acc_stamp.specs.declared.stamps.TxnId.{TxnId}
use Rattle.acc_stamp.specs.Stamp.{stamp_lt, stamp_le}
use Rattle.acc_lanes.specs.Pairs.{pair_lt, pair_le, chosen}
use Rattle.acc_lanes.specs.Greatest.{IsGreatest}
use Rattle.acc_lanes.proofs.Members.{Contains-map, Contains-from_map, Contains-filter, Contains-from_filter, Contains-chosen, Contains-from_chosen, passing, passed, nothing_in, in_nothing, greatest_from, greatest_above}
use Rattle.acc_lanes.proofs.Numbers.{length_pairs, pair_at}
use Rattle.acc_index.specs.declared.blocks.Block.{Block}
use Rattle.acc_index.specs.declared.columns.Columns.{Columns}
use Rattle.acc_index.specs.Columns.{IsEven, stamp_at, id_at}
use Rattle.acc_index.specs.Noted.{IsGreatestStamp}
use Rattle.acc_index.specs.Places.{IsBlock, is_other, others, stamps_of, later_of}

-- ---- stamps as pairs

abbrev pair_of : Stamp → ℕ × ℕ
pair_of s = (s.h, s.origin)

abbrev stamp_of : ℕ × ℕ → Stamp
stamp_of p = record { h = p.0; origin = p.1 }

pair_le-stamp : (a b : Stamp) → pair_le (pair_of a) (pair_of b) ≡ true → stamp_le a b ≡ true
pair_le-stamp a b h = grind (arith, nat_tests)

-- ---- the greatest of two lists

le_trans : (a b c : Stamp) → stamp_le a b ≡ true → stamp_lt b c ≡ true → stamp_le a c ≡ true
le_trans a b c h k = grind (arith, nat_tests)

lt_le : (a b : Stamp) → stamp_lt a b ≡ true → stamp_le a b ≡ true
lt_le a b h = grind (arith, nat_tests)

le_trans' : (a b c : Stamp) → stamp_le a b ≡ true → stamp_lt c b ≡ false → stamp_le a b ≡ true → stamp_le b c ≡ true
le_trans' a b c h k l = grind (arith, nat_tests)

not_lt_le : (a b c : Stamp) → stamp_lt b c ≡ false → stamp_le a c ≡ true → stamp_le a b ≡ true
not_lt_le a b c h k = grind (arith, nat_tests)

append_nothing : {X : Type 0} (xs ys : List X) → xs ≡ [] → ys ≡ [] → xs ++ ys ≡ []
append_nothing xs ys p q = ap (λ zs. zs ++ ys) p ∙ q

module _ (xs ys : List Stamp) where
  from_left : (s : Stamp) → ys ≡ [] → IsGreatest stamp_le xs s → IsGreatest stamp_le (xs ++ ys) s
  from_left s none g = greatest_from stamp_le (xs ++ ys) s (Contains-append_left xs ys s g.among)
      (λ x c. ⊎_elim (λ l. greatest_above stamp_le xs s x g l) (λ r. absurd (in_nothing x (subst (λ zs. Contains zs x) none r))) (Contains-append_cases xs ys x c))

  from_right : (s : Stamp) → xs ≡ [] → IsGreatest stamp_le ys s → IsGreatest stamp_le (xs ++ ys) s
  from_right s none g = greatest_from stamp_le (xs ++ ys) s (Contains-append_right xs ys s g.among)
      (λ x c. ⊎_elim (λ l. absurd (in_nothing x (subst (λ zs. Contains zs x) none l))) (λ r. greatest_above stamp_le ys s x g r) (Contains-append_cases xs ys x c))

  from_both : (s t : Stamp) (b : Bool) → stamp_lt s t ≡ b → IsGreatest stamp_le xs s → IsGreatest stamp_le ys t → IsGreatest stamp_le (xs ++ ys) (cond b t s)
  from_both s t true less g k = greatest_from stamp_le (xs ++ ys) t (Contains-append_right xs ys t k.among)
      (λ x c. ⊎_elim (λ l. le_trans x s t (greatest_above stamp_le xs s x g l) less) (λ r. greatest_above stamp_le ys t x k r) (Contains-append_cases xs ys x c))
  from_both s t false less g k = greatest_from stamp_le (xs ++ ys) s (Contains-append_left xs ys s g.among)
      (λ x c. ⊎_elim (λ l. greatest_above stamp_le xs s x g l) (λ r. not_lt_le x s t less (greatest_above stamp_le ys t x k r)) (Contains-append_cases xs ys x c))

  pub greatest_later : (a b : Option Stamp) → IsGreatestStamp xs a → IsGreatestStamp ys b → IsGreatestStamp (xs ++ ys) (later_of a b)
  greatest_later None None g k = append_nothing xs ys g k
  greatest_later None (Some t) g k = from_right t g k
  greatest_later (Some s) None g k = from_left s k g
  greatest_later (Some s) (Some t) g k = from_both s t (stamp_lt s t) refl g k

-- it is that of every list with the same stamps
pub greatest_stamp-like : (xs ys : List Stamp) (a : Option Stamp) → ((x : Stamp) → Contains xs x → Contains ys x) → ((x : Stamp) → Contains ys x → Contains xs x) → IsGreatestStamp xs a → IsGreatestStamp ys a
greatest_stamp-like xs ys None to from g = nothing_in ys (λ x c. in_nothing x (subst (λ zs. Contains zs x) g (from x c)))
greatest_stamp-like xs ys (Some s) to from g = greatest_from stamp_le ys s (to s g.among) (λ x c. greatest_above stamp_le xs s x g (from x c))

-- ---- what the mask tells

module _ (c : Columns) (places : List ℕ) (id : TxnId) (b : Block) (block : IsBlock c places id b) where
  abbrev front : List ℕ
  front = take b.taken places

  front_length : length front ≡ b.taken
  front_length = omega (arith, length-take b.taken places, block.taken)

  -- a place of the block's front lies in it
  pub in_block : (p : ℕ) → Contains front p → (b.start ≤ p) × (p < b.start + b.width)
  in_block p found =
      let j = found.0 in
      let inside : j < b.taken = omega (arith, found.1, front_length) in
      let is : get_or places j 0 ≡ p = sym (get_or-take b.taken places j 0 inside) ∙ any_default front j 0 p found.1 ∙ found.2 in
      (subst (λ z. b.start ≤ z) is (block.low j inside), subst (λ z. z < b.start + b.width) is (block.high j inside))
    where
      any_default : (xs : List ℕ) (j d e : ℕ) → j < length xs → get_or xs j d ≡ get_or xs j e
      any_default [] j d e l = absurd (omega arith)
      any_default (x ∷ xs) zero d e l = refl
      any_default (x ∷ xs) (suc j) d e l = any_default xs j d e (omega arith)

  -- where the mask is true another transaction of the front stands
  pub marked : (i : ℕ) → i < 64 → get_or b.mask i false ≡ true → Contains (others c id front) (b.start + i)
  marked i l e =
      let told = passing (λ p. (p == b.start + i) && is_other c id p) front (sym (block.marks i l) ∙ e) in
      let parts = and_parts (told.0 == b.start + i) (is_other c id told.0) told.2 in
      subst (Contains (others c id front)) (eqb-true told.0 (b.start + i) parts.0) (Contains-filter (is_other c id) front told.0 told.1 parts.1)

  -- and at each of those the mask tells whether another transaction stands there
  pub mask_at : (p : ℕ) → Contains front p → get_or b.mask (p - b.start) false ≡ is_other c id p
  mask_at p found =
      let inside = in_block p found in
      let e : b.start + (p - b.start) ≡ p = omega (arith, inside.0) in
      block.marks (p - b.start) (omega (arith, inside.0, inside.1, block.narrow))
      ∙ ap (λ z. list_any (λ q. (q == z) && is_other c id q) front) e
      ∙ only (is_other c id p) refl
    where
      only : (t : Bool) → is_other c id p ≡ t → list_any (λ q. (q == p) && is_other c id q) front ≡ is_other c id p
      only true t = passed (λ q. (q == p) && is_other c id q) front p found (and_from (p == p) (is_other c id p) (eq-eqb p p refl) t) ∙ sym t
      only false t = none_passes front t ∙ sym t
        where
          none_passes : (xs : List ℕ) → is_other c id p ≡ false → list_any (λ q. (q == p) && is_other c id q) xs ≡ false
          none_passes [] t = refl
          none_passes (x ∷ xs) t =
              elim (x == p) as (λ s. (x == p) ≡ s → ((s && is_other c id x) || list_any (λ q. (q == p) && is_other c id q) xs) ≡ false) [
                | true ↦ λ s. ap (λ r. r || list_any (λ q. (q == p) && is_other c id q) xs) (ap (is_other c id) (eqb-true x p s) ∙ t) ∙ none_passes xs t
                | false ↦ λ s. none_passes xs t
              ] refl

-- ---- the columns and the mask of a block

pub record Window (c : Columns) (b : Block) (hs os : List ℕ) (ms : List Bool) : Type 0 where
  pub heights : length hs ≡ b.width
  pub origins : length os ≡ b.width
  pub mask : length ms ≡ b.width
  pub height_at : (i : ℕ) → i < b.width → get_or hs i 0 ≡ get_or c.heights.items (b.start + i) 0
  pub origin_at : (i : ℕ) → i < b.width → get_or os i 0 ≡ get_or c.origins.items (b.start + i) 0
  pub told : (i : ℕ) → i < b.width → get_or ms i false ≡ get_or b.mask i false

module _ (c : Columns) (places : List ℕ) (id : TxnId) (b : Block) (block : IsBlock c places id b) (hs os : List ℕ) (ms : List Bool) (w : Window c b hs os ms) where
  abbrev seen : List (ℕ × ℕ)
  seen = chosen ms (zip hs os)

  abbrev wanted : List Stamp
  wanted = stamps_of c (others c id (take b.taken places))

  even : length os ≡ length hs
  even = w.origins ∙ sym w.heights

  -- the stamp at a place of the window
  window_at : (i : ℕ) → i < b.width → get_or (zip hs os) i (0, 0) ≡ pair_of (stamp_at c (b.start + i))
  window_at i l =
      pair_at hs os i even (omega (arith, l, w.heights))
      ∙ (λ j. (w.height_at i l j, w.origin_at i l j))

  to_wanted : (x : ℕ × ℕ) → Contains seen x → Contains wanted (stamp_of x)
  to_wanted x found =
      let at = Contains-from_chosen ms (zip hs os) x found in
      let i = at.0 in
      let l : i < b.width = omega (arith, at.1.0, w.mask) in
      let there = marked c places id b block i (omega (arith, l, block.narrow)) (sym (w.told i l) ∙ at.1.2) in
      let is : x ≡ pair_of (stamp_at c (b.start + i)) = sym (at.1.3 (0, 0)) ∙ window_at i l in
      subst (Contains wanted) (ap stamp_of (sym is)) (Contains-map (stamp_at c) (others c id (take b.taken places)) (b.start + i) there)

  from_wanted : (s : Stamp) → Contains wanted s → Contains seen (pair_of s)
  from_wanted s found =
      let at = Contains-from_map (stamp_at c) (others c id (take b.taken places)) s found in
      let p = at.0 in
      let other = Contains-from_filter (is_other c id) (take b.taken places) p at.1 in
      let inside = in_block c places id b block p other.0 in
      let i = p - b.start in
      let l : i < b.width = omega (arith, inside.0, inside.1) in
      let e : b.start + i ≡ p = omega (arith, inside.0) in
      let told : get_or ms i false ≡ true = w.told i l ∙ mask_at c places id b block p other.0 ∙ other.1 in
      let is : get_or (zip hs os) i (0, 0) ≡ pair_of s = window_at i l ∙ ap (λ z. pair_of (stamp_at c z)) e ∙ ap pair_of at.2 in
      subst (Contains seen) is (Contains-chosen ms (zip hs os) i (0, 0) (omega (arith, l, w.mask)) (omega (arith, l, w.heights, length_pairs hs os even)) told)

  pub greatest_none : seen ≡ [] → IsGreatestStamp wanted None
  greatest_none none = nothing_in wanted (λ s found. in_nothing (pair_of s) (subst (λ zs. Contains zs (pair_of s)) none (from_wanted s found)))

  pub greatest_some : (x : ℕ × ℕ) → IsGreatest pair_le seen x → IsGreatestStamp wanted (Some (stamp_of x))
  greatest_some x g = greatest_from stamp_le wanted (stamp_of x) (to_wanted x g.among)
      (λ s found. pair_le-stamp s (stamp_of x) (greatest_above pair_le seen x (pair_of s) g (from_wanted s found)))

piece : {X : Type 0} (xs : List X) (at n m i : ℕ) (d : X) → m ≡ n → at + n ≤ length xs → i < n → get_or (take m (drop at xs)) i d ≡ get_or xs (at + i) d
piece xs at n m i d e l p = get_or-chunk at m xs i d (omega arith)

piece_length : {X : Type 0} (xs : List X) (at n m : ℕ) → m ≡ n → at + n ≤ length xs → length (take m (drop at xs)) ≡ n
piece_length xs at n m e l = length-chunk at m xs (omega arith) ∙ e

pub window_of : (c : Columns) (b : Block) (hs os : List ℕ) → IsEven c → hs ≡ c.heights.items → os ≡ c.origins.items → b.start + b.width ≤ length c.heights.items → b.width ≤ length b.mask
    → Window c b (take (b.start + b.width - b.start) (drop b.start hs)) (take (b.start + b.width - b.start) (drop b.start os)) (take b.width b.mask)
window_of c b hs os even high low fits narrow =
    let at = b.start in
    let n = b.width in
    let size : at + n - at ≡ n = omega arith in
    let here : at + n ≤ length hs = subst (λ zs. at + n ≤ length zs) (sym high) fits in
    let there : at + n ≤ length os = subst (λ zs. at + n ≤ length zs) (sym low) (omega (arith, even.origins)) in
    record {
      heights = piece_length hs at n (at + n - at) size here;
      origins = piece_length os at n (at + n - at) size there;
      mask = omega (arith, length-take n b.mask);
      height_at = λ i l. piece hs at n (at + n - at) i 0 size here l ∙ ap (λ zs. get_or zs (at + i) 0) high;
      origin_at = λ i l. piece os at n (at + n - at) i 0 size there l ∙ ap (λ zs. get_or zs (at + i) 0) low;
      told = λ i l. get_or-take n b.mask i false l;
    }

-- ---- the transactions of a block with small stamps

pair_lt-stamp : (a b : Stamp) → pair_lt (pair_of a) (pair_of b) ≡ stamp_lt a b
pair_lt-stamp a b = grind (arith, nat_tests)

pub below_length : (c : Columns) (hs os : List ℕ) (at n : ℕ) (f : ℕ × ℕ → Bool) (out : List Bool) → IsEven c → hs ≡ c.id_heights.items → os ≡ c.id_origins.items → at + n ≤ length c.heights.items
    → out ≡ map f (zip (take (at + n - at) (drop at hs)) (take (at + n - at) (drop at os))) → length out ≡ n
below_length c hs os at n f out even high low fits is =
    let size : at + n - at ≡ n = omega arith in
    let here : at + n ≤ length hs = subst (λ zs. at + n ≤ length zs) (sym high) (omega (arith, even.id_heights)) in
    let there : at + n ≤ length os = subst (λ zs. at + n ≤ length zs) (sym low) (omega (arith, even.id_origins)) in
    let front = piece_length hs at n (at + n - at) size here in
    ap length is ∙ length-map _ f ∙ length_pairs _ _ (piece_length os at n (at + n - at) size there ∙ sym front) ∙ front

pub below_at : (c : Columns) (hs os : List ℕ) (at n i : ℕ) (bound : Stamp) (out : List Bool) → IsEven c → hs ≡ c.id_heights.items → os ≡ c.id_origins.items → at + n ≤ length c.heights.items → i < n
    → out ≡ map (λ s. pair_lt s (bound.h, bound.origin)) (zip (take (at + n - at) (drop at hs)) (take (at + n - at) (drop at os)))
    → get_or out i false ≡ stamp_lt (id_at c (at + i)).0 bound
below_at c hs os at n i bound out even high low fits l is =
    let size : at + n - at ≡ n = omega arith in
    let here : at + n ≤ length hs = subst (λ zs. at + n ≤ length zs) (sym high) (omega (arith, even.id_heights)) in
    let there : at + n ≤ length os = subst (λ zs. at + n ≤ length zs) (sym low) (omega (arith, even.id_origins)) in
    let front = take (at + n - at) (drop at hs) in
    let back = take (at + n - at) (drop at os) in
    let same : length back ≡ length front = piece_length os at n (at + n - at) size there ∙ sym (piece_length hs at n (at + n - at) size here) in
    let inside : i < length front = omega (arith, piece_length hs at n (at + n - at) size here) in
    ap (λ zs. get_or zs i false) is
    ∙ mapped (λ s. pair_lt s (bound.h, bound.origin)) (zip front back) i (0, 0) false (omega (arith, length_pairs front back same))
    ∙ ap (λ s. pair_lt s (bound.h, bound.origin)) (pair_at front back i same inside)
    ∙ (λ j. pair_lt (piece hs at n (at + n - at) i 0 size here l j, piece os at n (at + n - at) i 0 size there l j) (bound.h, bound.origin))
    ∙ (λ j. pair_lt (get_or (high j) (at + i) 0, get_or (low j) (at + i) 0) (bound.h, bound.origin))
    ∙ pair_lt-stamp (id_at c (at + i)).0 bound
  where
    mapped : {X Y : Type 0} (f : X → Y) (xs : List X) (k : ℕ) (d : X) (e : Y) → k < length xs → get_or (map f xs) k e ≡ f (get_or xs k d)
    mapped f [] k d e p = absurd (omega arith)
    mapped f (x ∷ xs) zero d e p = refl
    mapped f (x ∷ xs) (suc k) d e p = mapped f xs k d e (omega arith)

-- ---- the mask, one place after another

or_none : (b : Bool) → (b || false) ≡ b
or_none true = refl
or_none false = refl

or_some : (b : Bool) → (b || true) ≡ true
or_some true = refl
or_some false = refl

and_none : (b : Bool) → (b && false) ≡ false
and_none true = refl
and_none false = refl

module _ (c : Columns) (places : List ℕ) (id : TxnId) (start taken p : ℕ) (mask : List Bool) where
  abbrev pub here : ℕ → ℕ → Bool
  here i q = (q == start + i) && is_other c id q

  abbrev pub Told : List Bool → ℕ → Type 0
  Told m n = (i : ℕ) → i < 64 → get_or m i false ≡ list_any (here i) (take n places)

  one_more : (i : ℕ) → taken < length places → p ≡ get_or places taken 0 → list_any (here i) (take (taken + 1) places) ≡ (list_any (here i) (take taken places) || here i p)
  one_more i l is =
      ap (list_any (here i)) (take_more places taken 0 l ∙ ap (λ q. take taken places ++ q ∷ []) (sym is))
      ∙ list_any-append (here i) (take taken places) (p ∷ [])
      ∙ ap (λ b. list_any (here i) (take taken places) || b) (or_none (here i p))

  pub told_other : taken < length places → p ≡ get_or places taken 0 → start ≤ p → p - start < length mask → is_other c id p ≡ true → Told mask taken → Told (set mask (p - start) true) (taken + 1)
  told_other l is low high other told i small =
      elim (p == start + i) as (λ b. (p == start + i) ≡ b → get_or (set mask (p - start) true) i false ≡ list_any (here i) (take (taken + 1) places)) [
        | true ↦ λ e.
            let at : p ≡ start + i = eqb-true p (start + i) e in
            let place : i ≡ p - start = omega arith in
            ap (λ j. get_or (set mask (p - start) true) j false) place ∙ get_or-set_same mask (p - start) true false high
            ∙ sym (one_more i l is ∙ (λ j. list_any (here i) (take taken places) || (e j && other j)) ∙ or_some (list_any (here i) (take taken places)))
        | false ↦ λ e.
            let apart' : i ≢ p - start = λ same. true≢false (sym (eq-eqb p (start + i) (omega arith)) ∙ e) in
            get_or-set_other mask (p - start) i true false apart' ∙ told i small
            ∙ sym (one_more i l is ∙ (λ j. list_any (here i) (take taken places) || (e j && is_other c id p)) ∙ or_none (list_any (here i) (take taken places)))
      ] refl

  pub told_own : taken < length places → p ≡ get_or places taken 0 → is_other c id p ≡ false → Told mask taken → Told mask (taken + 1)
  told_own l is own told i small =
      told i small
      ∙ sym (one_more i l is ∙ (λ j. list_any (here i) (take taken places) || ((p == start + i) && own j)) ∙ ap (λ b. list_any (here i) (take taken places) || b) (and_none (p == start + i)) ∙ or_none (list_any (here i) (take taken places)))

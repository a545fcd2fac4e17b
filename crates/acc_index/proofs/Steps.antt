-- Going through some places, block by block.
use Rattle.std.proofs.Common.{◌≡◌, ℕ, ◌+◌, ◌-◌, ◌<◌, ◌≤◌, ◌&&◌, Bool, true, false, cond, List, [], ◌∷◌, ◌++◌, Option, length, get_or, take, drop, refl, sym, ap, subst, ◌∙◌, arith, append_assoc, append-nil, ◌==◌, eqb-true}
use Rattle.std.specs.List.{Contains, filter}
use Rattle.std.proofs.lemmas.Bool.{true≢false, false_from_ne_true}
use Rattle.std.proofs.lemmas.List.{take_all, take_more, length-drop, take-append-drop, get_or-drop, length-take, get_or-take, map-append}
use Rattle.std.proofs.lemmas.List.Elements.{filter-append}
use Rattle.acc_stamp.specs.declared.stamps.Stamp.{Stamp}
use Rattle.acc_stamp.specs.declared.stamps.TxnId.{TxnId}
use Rattle.acc_stamp.specs.Stamp.{stamp_lt}
use Rattle.acc_value.specs.declared.key.Key.{Key}
use Rattle.acc_lanes.proofs.Members.{there}
use Rattle.acc_index.specs.declared.blocks.Block.{Block}
use Rattle.acc_index.specs.declared.columns.Columns.{Columns}
use Rattle.acc_index.specs.Columns.{id_at}
use Rattle.acc_index.specs.Noted.{IsGreatestStamp}
use Rattle.acc_index.specs.Places.{IsBlock, InRange, is_other, others, those_below, stamps_of, ids_of, later_of, asked}
use Rattle.acc_index.proofs.BlockFacts.{greatest_later, mask_at, in_block}

-- what is left of a slice
pub rest_is : {X : Type 0} (xs : List X) (n : ℕ) → take (length xs - n) (drop n xs) ≡ drop n xs
rest_is xs n = let l = length-drop n xs in take_all (length xs - n) (drop n xs) (omega arith)

pub InRange-drop : (c : Columns) (places : List ℕ) (n : ℕ) → InRange c places → InRange c (drop n places)
InRange-drop c places n h k d l =
    subst (λ p. p < length c.heights.items) (sym (get_or-drop n places k d)) (h (n + k) d (omega (arith, length-drop n places)))

pub InRange-take : (c : Columns) (places : List ℕ) (n : ℕ) → n ≤ length places → InRange c places → InRange c (take n places)
InRange-take c places n fits h k d l =
    let wide = length-take n places in
    subst (λ p. p < length c.heights.items) (sym (get_or-take n places k d (omega arith))) (h k d (omega arith))

pub stamps-append : (c : Columns) (id : TxnId) (xs ys : List ℕ) → stamps_of c (others c id (xs ++ ys)) ≡ stamps_of c (others c id xs) ++ stamps_of c (others c id ys)
stamps-append c id xs ys = ap (stamps_of c) (filter-append (is_other c id) xs ys) ∙ map-append _ (others c id xs) (others c id ys)

pub ids-append : (c : Columns) (id : TxnId) (xs ys : List ℕ) → ids_of c (others c id (xs ++ ys)) ≡ ids_of c (others c id xs) ++ ids_of c (others c id ys)
ids-append c id xs ys = ap (ids_of c) (filter-append (is_other c id) xs ys) ∙ map-append _ (others c id xs) (others c id ys)

pub below-append : (c : Columns) (id : TxnId) (bound : Stamp) (xs ys : List ℕ) → ids_of c (those_below c bound (others c id (xs ++ ys))) ≡ ids_of c (those_below c bound (others c id xs)) ++ ids_of c (those_below c bound (others c id ys))
below-append c id bound xs ys =
    ap (λ ps. ids_of c (those_below c bound ps)) (filter-append (is_other c id) xs ys)
    ∙ ap (ids_of c) (filter-append (λ p. stamp_lt (id_at c p).0 bound) (others c id xs) (others c id ys))
    ∙ map-append _ (those_below c bound (others c id xs)) (those_below c bound (others c id ys))

-- the places that are done, with those of one more block
pub done_more : (done rest places : List ℕ) (n : ℕ) → done ++ rest ≡ places → (done ++ take n rest) ++ drop n rest ≡ places
done_more done rest places n is = append_assoc done (take n rest) (drop n rest) ∙ ap (λ zs. done ++ zs) (take-append-drop n rest) ∙ is

-- the greatest so far, with that of one more block
pub greatest_more : (c : Columns) (id : TxnId) (earlier : List Stamp) (done front : List ℕ) (a b : Option Stamp) → IsGreatestStamp (earlier ++ stamps_of c (others c id done)) a → IsGreatestStamp (stamps_of c (others c id front)) b
    → IsGreatestStamp (earlier ++ stamps_of c (others c id (done ++ front))) (later_of a b)
greatest_more c id earlier done front a b g k =
    subst (λ zs. IsGreatestStamp zs (later_of a b))
    (append_assoc earlier (stamps_of c (others c id done)) (stamps_of c (others c id front)) ∙ ap (λ zs. earlier ++ zs) (sym (stamps-append c id done front)))
    (greatest_later (earlier ++ stamps_of c (others c id done)) (stamps_of c (others c id front)) a b g k)

-- ---- both masks of a block tell the other transactions with small stamps

filter-filter : {X : Type 0} (p q : X → Bool) (xs : List X) → filter (λ x. p x && q x) xs ≡ filter q (filter p xs)
filter-filter p q [] = refl
filter-filter p q (x ∷ xs) =
    elim (p x) as (λ b. cond (b && q x) (x ∷ filter (λ x. p x && q x) xs) (filter (λ x. p x && q x) xs) ≡ filter q (cond b (x ∷ filter p xs) (filter p xs))) [
      | true ↦ elim (q x) as (λ b. cond b (x ∷ filter (λ x. p x && q x) xs) (filter (λ x. p x && q x) xs) ≡ cond b (x ∷ filter q (filter p xs)) (filter q (filter p xs))) [
        | true ↦ ap (λ zs. x ∷ zs) (filter-filter p q xs)
        | false ↦ filter-filter p q xs
      ]
      | false ↦ filter-filter p q xs
    ]

filter-same : {X : Type 0} (p q : X → Bool) (xs : List X) → ((x : X) → Contains xs x → p x ≡ q x) → filter p xs ≡ filter q xs
filter-same p q [] same = refl
filter-same p q (x ∷ xs) same =
    ap (λ b. cond b (x ∷ filter p xs) (filter p xs)) (same x (0, omega arith, refl))
    ∙ ap (λ zs. cond (q x) (x ∷ zs) zs) (filter-same p q xs (λ y c. same y (there x xs y c)))

pub both_told : (c : Columns) (places : List ℕ) (id : TxnId) (b : Block) (bound : Stamp) (below : List Bool) → IsBlock c places id b → ((i : ℕ) → i < b.width → get_or below i false ≡ stamp_lt (id_at c (b.start + i)).0 bound)
    → filter (λ p. get_or b.mask (p - b.start) false && get_or below (p - b.start) false) (take b.taken places) ≡ those_below c bound (others c id (take b.taken places))
both_told c places id b bound below block told =
    filter-same _ (λ p. is_other c id p && stamp_lt (id_at c p).0 bound) (take b.taken places)
    (λ p found.
    let inside = in_block c places id b block p found in
    let e : b.start + (p - b.start) ≡ p = omega (arith, inside.0) in
    let at : get_or below (p - b.start) false ≡ stamp_lt (id_at c p).0 bound = told (p - b.start) (omega (arith, inside.0, inside.1)) ∙ ap (λ z. stamp_lt (id_at c z).0 bound) e in
    λ i. mask_at c places id b block p found i && at i)
    ∙ filter-filter (is_other c id) (λ p. stamp_lt (id_at c p).0 bound) (take b.taken places)

pub nothing_left : {X : Type 0} (xs : List X) → (length xs == 0) ≡ true → xs ≡ []
nothing_left [] e = refl
nothing_left (x ∷ xs) e = absurd (true≢false (sym e ∙ false_from_ne_true (length (x ∷ xs) == 0) (λ h. let z = eqb-true (length (x ∷ xs)) 0 h in omega arith)))

-- what was found so far, with what a block adds
pub below_more : (c : Columns) (id : TxnId) (bound : Stamp) (before found after : List TxnId) (done front : List ℕ) → found ≡ before ++ ids_of c (those_below c bound (others c id done))
    → after ≡ found ++ ids_of c (those_below c bound (others c id front)) → after ≡ before ++ ids_of c (those_below c bound (others c id (done ++ front)))
below_more c id bound before found after done front so_far added =
    added
    ∙ ap (λ zs. zs ++ ids_of c (those_below c bound (others c id front))) so_far
    ∙ append_assoc before (ids_of c (those_below c bound (others c id done))) (ids_of c (those_below c bound (others c id front)))
    ∙ ap (λ zs. before ++ zs) (sym (below-append c id bound done front))

-- ---- the places that some keys ask for

pub asked-append : (places : Key → Bool → List ℕ) (us vs : List (Key × Bool)) → asked places (us ++ vs) ≡ asked places us ++ asked places vs
asked-append places [] vs = refl
asked-append places (u ∷ us) vs = ap (λ zs. (places u.0 true ++ cond u.1 (places u.0 false) []) ++ zs) (asked-append places us vs) ∙ sym (append_assoc _ (asked places us) (asked places vs))

pub asked_more : (places : Key → Bool → List ℕ) (uses : List (Key × Bool)) (i : ℕ) (u : Key × Bool) (w r : List ℕ) → i < length uses → u ≡ get_or uses i u → w ≡ places u.0 true → r ≡ cond u.1 (places u.0 false) [] → asked places (take (i + 1) uses) ≡ asked places (take i uses) ++ (w ++ r)
asked_more places uses i u w r within is writers readers =
    ap (asked places) (take_more uses i u within ∙ ap (λ x. take i uses ++ x ∷ []) (sym is))
    ∙ asked-append places (take i uses) (u ∷ [])
    ∙ ap (λ zs. asked places (take i uses) ++ zs) (append-nil (places u.0 true ++ cond u.1 (places u.0 false) []) ∙ sym (λ j. writers j ++ readers j))

module _ (c : Columns) (id : TxnId) (all done w r : List ℕ) (is : all ≡ done ++ (w ++ r)) where
  pub greatest_uses : (a : Option Stamp) → IsGreatestStamp ((stamps_of c (others c id done) ++ stamps_of c (others c id w)) ++ stamps_of c (others c id r)) a → IsGreatestStamp (stamps_of c (others c id all)) a
  greatest_uses a g =
      subst (λ zs. IsGreatestStamp zs a)
      (append_assoc (stamps_of c (others c id done)) (stamps_of c (others c id w)) (stamps_of c (others c id r))
      ∙ ap (λ zs. stamps_of c (others c id done) ++ zs) (sym (stamps-append c id w r)) ∙ sym (stamps-append c id done (w ++ r)) ∙ ap (λ ps. stamps_of c (others c id ps)) (sym is))
      g

  pub ids_uses : (found after last : List TxnId) → found ≡ ids_of c (others c id done) → after ≡ found ++ ids_of c (others c id w) → last ≡ after ++ ids_of c (others c id r) → last ≡ ids_of c (others c id all)
  ids_uses found after last p q s =
      s ∙ ap (λ zs. zs ++ ids_of c (others c id r)) (q ∙ ap (λ zs. zs ++ ids_of c (others c id w)) p)
      ∙ append_assoc (ids_of c (others c id done)) (ids_of c (others c id w)) (ids_of c (others c id r))
      ∙ ap (λ zs. ids_of c (others c id done) ++ zs) (sym (ids-append c id w r)) ∙ sym (ids-append c id done (w ++ r)) ∙ ap (λ ps. ids_of c (others c id ps)) (sym is)

  pub below_uses : (bound : Stamp) (found after last : List TxnId) → found ≡ ids_of c (those_below c bound (others c id done)) → after ≡ found ++ ids_of c (those_below c bound (others c id w)) → last ≡ after ++ ids_of c (those_below c bound (others c id r))
      → last ≡ ids_of c (those_below c bound (others c id all))
  below_uses bound found after last p q s =
      s ∙ ap (λ zs. zs ++ ids_of c (those_below c bound (others c id r))) (q ∙ ap (λ zs. zs ++ ids_of c (those_below c bound (others c id w))) p)
      ∙ append_assoc (ids_of c (those_below c bound (others c id done))) (ids_of c (those_below c bound (others c id w))) (ids_of c (those_below c bound (others c id r)))
      ∙ ap (λ zs. ids_of c (those_below c bound (others c id done)) ++ zs) (sym (below-append c id bound w r)) ∙ sym (below-append c id bound done (w ++ r)) ∙ ap (λ ps. ids_of c (those_below c bound (others c id ps))) (sym is)

-- An index whose parts fit together answers from its map, and is kept by a note.
use Rattle.std.proofs.Common.{◌≡◌, ℕ, zero, suc, ◌+◌, ◌<◌, Bool, true, false, cond, List, [], ◌∷◌, ◌++◌, Option, length, get_or, map, refl, sym, ap, subst, ◌∙◌, arith, length-append}
use Rattle.std.specs.List.{Contains}
use Rattle.std.proofs.lemmas.List.{get_or_append_left}
use Rattle.std.proofs.Math.Seq.{get_or-append_seam}
use Rattle.acc_stamp.specs.declared.stamps.Stamp.{Stamp}
use Rattle.acc_stamp.specs.declared.stamps.TxnId.{TxnId}
use Rattle.acc_stamp.specs.Rising.{ids_union}
use Rattle.acc_stamp.proofs.Rising.{each_append}
use Rattle.acc_value.specs.declared.key.Key.{Key}
use Rattle.acc_value.specs.Pairs.{IsRising}
use Rattle.acc_lanes.proofs.Members.{each_element}
use Rattle.acc_lanes.proofs.Numbers.{same_list}
use Rattle.acc_index.specs.declared.columns.Columns.{Columns}
use Rattle.acc_index.specs.Columns.{IsEven, HasMore}
use Rattle.acc_index.specs.Kept.{noted_with, noted_from, noted_of, IsKept}
use Rattle.acc_index.specs.Noted.{Noted, IsGreatestStamp, rival_stamps, rival_ids, rival_ids_below, writer_ids}
use Rattle.acc_index.specs.Places.{InRange, asked, others, those_below, stamps_of, ids_of}
use Rattle.acc_index.specs.Users.{Map, places_at, places_from, placed, uses_as}
use Rattle.acc_index.proofs.Ids.{same_names}
use Rattle.acc_index.proofs.Rivals.{asked-same, rival_greatest, rival_names, rival_names_below, writer_names, places_below}

abbrev Share : Type 0
Share = List (Key × Bool)

module _ (c : Columns) (shares : List Share) (users : Map) (kept : IsKept c shares users) where
  pub in_columns : (key : Key) (w : Bool) → InRange c (places_at users key w)
  in_columns key w =
      each_element (λ p. p < length c.heights.items) (places_at users key w)
      (λ p d. subst (λ n. p < n) kept.shares (places_below shares key w p (subst (λ ps. Contains ps p) (kept.users key w) d)))

  module _ (id : TxnId) (uses : Share) (rises : IsRising uses) where
    asks : asked (places_at users) uses ≡ asked (places_from 0 shares) uses
    asks = asked-same (places_at users) (places_from 0 shares) uses kept.users

    pub kept_greatest : (a : Option Stamp) → IsGreatestStamp (stamps_of c (others c id (asked (places_at users) uses))) a → IsGreatestStamp (rival_stamps (noted_of c shares) id uses) a
    kept_greatest a g = rival_greatest c id shares uses kept.rising rises a (subst (λ ps. IsGreatestStamp (stamps_of c (others c id ps)) a) asks g)

    pub kept_ids : ids_union [] (ids_of c (others c id (asked (places_at users) uses))) ≡ rival_ids (noted_of c shares) id uses
    kept_ids = ap (λ ps. ids_union [] (ids_of c (others c id ps))) asks ∙ same_names _ _ (rival_names c id shares uses kept.rising rises)

    pub kept_below : (bound : Stamp) → ids_union [] (ids_of c (those_below c bound (others c id (asked (places_at users) uses)))) ≡ rival_ids_below (noted_of c shares) id uses bound
    kept_below bound = ap (λ ps. ids_union [] (ids_of c (those_below c bound (others c id ps)))) asks ∙ same_names _ _ (rival_names_below c id shares uses kept.rising rises bound)

  pub kept_writers : (key : Key) → ids_union [] (ids_of c (places_at users key true)) ≡ writer_ids (noted_of c shares) key
  kept_writers key = ap (λ ps. ids_union [] (ids_of c ps)) (kept.users key true) ∙ same_names _ _ (writer_names c shares key)

-- ---- the columns of what was noted

heights_from : (c : Columns) (n : ℕ) (shares : List Share) (k : ℕ) → k < length shares → get_or (map (λ (t : Noted). t.stamp.h) (noted_from c n shares)) k 0 ≡ get_or c.heights.items (n + k) 0
heights_from c n [] k l = absurd (omega arith)
heights_from c n (share ∷ shares) zero l = let e : n ≡ n + 0 = omega arith in ap (λ p. get_or c.heights.items p 0) e
heights_from c n (share ∷ shares) (suc k) l =
    let e : n + 1 + k ≡ n + suc k = omega arith in
    heights_from c (n + 1) shares k (omega arith) ∙ ap (λ p. get_or c.heights.items p 0) e

origins_from : (c : Columns) (n : ℕ) (shares : List Share) (k : ℕ) → k < length shares → get_or (map (λ (t : Noted). t.stamp.origin) (noted_from c n shares)) k 0 ≡ get_or c.origins.items (n + k) 0
origins_from c n [] k l = absurd (omega arith)
origins_from c n (share ∷ shares) zero l = let e : n ≡ n + 0 = omega arith in ap (λ p. get_or c.origins.items p 0) e
origins_from c n (share ∷ shares) (suc k) l =
    let e : n + 1 + k ≡ n + suc k = omega arith in
    origins_from c (n + 1) shares k (omega arith) ∙ ap (λ p. get_or c.origins.items p 0) e

length_column : {X : Type 0} (f : Noted → X) (c : Columns) (n : ℕ) (shares : List Share) → length (map f (noted_from c n shares)) ≡ length shares
length_column f c n [] = refl
length_column f c n (share ∷ shares) = ap suc (length_column f c (n + 1) shares)

pub heights_noted : (c : Columns) (shares : List Share) → length shares ≡ length c.heights.items → c.heights.items ≡ map (λ (t : Noted). t.stamp.h) (noted_of c shares)
heights_noted c shares long =
    sym (same_list _ c.heights.items 0 (length_column (λ (t : Noted). t.stamp.h) c 0 shares ∙ long)
    (λ k l. let e : 0 + k ≡ k = omega arith in heights_from c 0 shares k (omega arith) ∙ ap (λ p. get_or c.heights.items p 0) e))

pub origins_noted : (c : Columns) (shares : List Share) → IsEven c → length shares ≡ length c.heights.items → c.origins.items ≡ map (λ (t : Noted). t.stamp.origin) (noted_of c shares)
origins_noted c shares even long =
    sym (same_list _ c.origins.items 0 (length_column (λ (t : Noted). t.stamp.origin) c 0 shares ∙ long ∙ sym even.origins)
    (λ k l. let e : 0 + k ≡ k = omega arith in origins_from c 0 shares k (omega (arith, even.origins)) ∙ ap (λ p. get_or c.origins.items p 0) e))

-- ---- one more

pub places-push : (n : ℕ) (shares : List Share) (share : Share) (key : Key) (w : Bool) → places_from n (shares ++ share ∷ []) key w ≡ placed (places_from n shares key w) share key w (n + length shares)
places-push n [] share key w = let e : n ≡ n + 0 = omega arith in ap (λ p. cond (uses_as share key w) (p ∷ []) []) e
places-push n (first ∷ shares) share key w =
    let e : n + 1 + length shares ≡ n + suc (length shares) = omega arith in
    let rest = places-push (n + 1) shares share key w ∙ ap (placed (places_from (n + 1) shares key w) share key w) e in
    ap (λ ps. cond (uses_as first key w) (n ∷ ps) ps) rest ∙ moved (uses_as first key w) (uses_as share key w) n (places_from (n + 1) shares key w) (n + suc (length shares))
  where
    moved : (a b : Bool) (n : ℕ) (ps : List ℕ) (p : ℕ) → cond a (n ∷ cond b (ps ++ p ∷ []) ps) (cond b (ps ++ p ∷ []) ps) ≡ cond b (cond a (n ∷ ps) ps ++ p ∷ []) (cond a (n ∷ ps) ps)
    moved true true n ps p = refl
    moved true false n ps p = refl
    moved false true n ps p = refl
    moved false false n ps p = refl

module _ (old new : Columns) (id : TxnId) (stamp : Stamp) (even : IsEven old) (more : HasMore old new id stamp) where
  pub even_more : IsEven new
  even_more =
      let a = ap length more.heights ∙ length-append old.heights.items (stamp.h ∷ []) in
      let b = ap length more.origins ∙ length-append old.origins.items (stamp.origin ∷ []) in
      let d = ap length more.id_heights ∙ length-append old.id_heights.items (id.0.h ∷ []) in
      let e = ap length more.id_origins ∙ length-append old.id_origins.items (id.0.origin ∷ []) in
      record {
        origins = omega (arith, a, b, even.origins);
        id_heights = omega (arith, a, d, even.id_heights);
        id_origins = omega (arith, a, e, even.id_origins);
      }

  -- what stood at a place stands there
  before : (p : ℕ) (share : Share) → p < length old.heights.items → noted_with new share p ≡ noted_with old share p
  before p share l =
      let h = ap (λ xs. get_or xs p 0) more.heights ∙ get_or_append_left old.heights.items (stamp.h ∷ []) 0 p l in
      let o = ap (λ xs. get_or xs p 0) more.origins ∙ get_or_append_left old.origins.items (stamp.origin ∷ []) 0 p (omega (arith, even.origins)) in
      let ih = ap (λ xs. get_or xs p 0) more.id_heights ∙ get_or_append_left old.id_heights.items (id.0.h ∷ []) 0 p (omega (arith, even.id_heights)) in
      let io = ap (λ xs. get_or xs p 0) more.id_origins ∙ get_or_append_left old.id_origins.items (id.0.origin ∷ []) 0 p (omega (arith, even.id_origins)) in
      λ i. record { id = record { 0 = record { h = ih i; origin = io i } }; share = share; stamp = record { h = h i; origin = o i } }

  last_of : (xs ys : List ℕ) (x p : ℕ) → ys ≡ xs ++ x ∷ [] → p ≡ length xs → get_or ys p 0 ≡ x
  last_of xs ys x p is at = (λ i. get_or (is i) (at i) 0) ∙ get_or-append_seam xs x [] 0

  last : (p : ℕ) (share : Share) → p ≡ length old.heights.items → noted_with new share p ≡ record { id = id; share = share; stamp = stamp }
  last p share at =
      let h = last_of old.heights.items new.heights.items stamp.h p more.heights at in
      let o = last_of old.origins.items new.origins.items stamp.origin p more.origins (omega (arith, even.origins)) in
      let ih = last_of old.id_heights.items new.id_heights.items id.0.h p more.id_heights (omega (arith, even.id_heights)) in
      let io = last_of old.id_origins.items new.id_origins.items id.0.origin p more.id_origins (omega (arith, even.id_origins)) in
      λ i. record { id = record { 0 = record { h = ih i; origin = io i } }; share = share; stamp = record { h = h i; origin = o i } }

  noted_push : (n : ℕ) (shares : List Share) (share : Share) → n + length shares ≡ length old.heights.items → noted_from new n (shares ++ share ∷ []) ≡ noted_from old n shares ++ record { id = id; share = share; stamp = stamp } ∷ []
  noted_push n [] share at = ap (λ t. t ∷ []) (last n share (omega arith))
  noted_push n (first ∷ shares) share at = λ i. before n first (omega arith) i ∷ noted_push (n + 1) shares share (omega arith) i

  pub noted_more : (shares : List Share) (share : Share) → length shares ≡ length old.heights.items → noted_of new (shares ++ share ∷ []) ≡ noted_of old shares ++ record { id = id; share = share; stamp = stamp } ∷ []
  noted_more shares share long = noted_push 0 shares share (omega arith)

  pub kept_more : (shares all : List Share) (share : Share) (users users' users'' : Map) → IsKept old shares users → all ≡ shares ++ share ∷ [] → IsRising share
      → ((k : Key) (w : Bool) → places_at users' k w ≡ places_at users k w) → ((k : Key) (w : Bool) → places_at users'' k w ≡ placed (places_at users' k w) share k w (length shares)) → IsKept new all users''
  kept_more shares all share users users' users'' kept is rises same added =
      subst (λ xs. IsKept new xs users'') (sym is)
      (record {
        even = even_more;
        shares = omega (arith, length-append shares (share ∷ []), kept.shares, ap length more.heights ∙ length-append old.heights.items (stamp.h ∷ []));
        rising = each_append IsRising shares (share ∷ []) kept.rising (rises, tt);
        users = λ k w.
            let e : 0 + length shares ≡ length shares = omega arith in
            added k w
            ∙ (λ i. placed ((same k w ∙ kept.users k w) i) share k w (length shares))
            ∙ ap (placed (places_from 0 shares k w) share k w) (sym e)
            ∙ sym (places-push 0 shares share k w);
      })

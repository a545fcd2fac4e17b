-- The users of the keys that a question asks for are what was noted of the transactions that conflict.
use Rattle.std.proofs.Common.{◌≡◌, ℕ, zero, suc, ◌+◌, ◌<◌, Bool, true, false, cond, ◌||◌, List, [], ◌∷◌, ◌++◌, Option, Some, None, length, get_or, map, refl, sym, ap, subst, ◌∙◌, arith, inl, inr, ◌⊎◌, ⊎_elim, unwrap_or}
use Rattle.std.specs.List.{Contains, AllByRecursion, filter}
use Rattle.std.proofs.lemmas.Bool.{true≢false, and_parts, and_from}
use Rattle.std.proofs.lemmas.List.Elements.{Contains-append_left, Contains-append_right, Contains-append_cases}
use Rattle.acc_stamp.specs.declared.stamps.Stamp.{Stamp}
use Rattle.acc_stamp.specs.declared.stamps.TxnId.{TxnId}
use Rattle.acc_stamp.specs.Stamp.{stamp_lt}
use Rattle.acc_value.specs.declared.key.Key.{Key}
use Rattle.acc_value.specs.Key.{key_eq}
use Rattle.acc_value.specs.Pairs.{IsRising, find}
use Rattle.acc_value.specs.Footprint.{clashes, is_written}
use Rattle.acc_value.proofs.Clash.{clashes-at, clashes-shared}
use Rattle.acc_value.proofs.KeyOrder.{key_eq-true, key_eq-refl}
use Rattle.acc_value.proofs.Rising.{find-later}
use Rattle.std.specs.Cmp.{second_so}
use Rattle.acc_lanes.proofs.Members.{there, first_or_rest, in_nothing, Contains-map, Contains-from_map, Contains-filter, Contains-from_filter}
use Rattle.acc_index.specs.declared.columns.Columns.{Columns}
use Rattle.acc_index.specs.Columns.{stamp_at, id_at}
use Rattle.acc_index.specs.Kept.{noted_with, noted_from, noted_of}
use Rattle.acc_index.specs.Noted.{Noted, is_rival, rivals, IsGreatestStamp}
use Rattle.acc_index.specs.Places.{is_other, others, those_below, stamps_of, ids_of, asked}
use Rattle.acc_index.specs.Users.{is_use, uses_as, places_from}
use Rattle.acc_index.proofs.BlockFacts.{greatest_stamp-like}
use Rattle.acc_index.proofs.Ids.{SameIds}

abbrev Share : Type 0
Share = List (Key × Bool)

-- ---- the places that use a key

used_as : (b : Bool) (w : Bool) → is_use (Some b) w ≡ true → b ≡ w
used_as true true e = refl
used_as true false e = absurd (true≢false (sym e))
used_as false true e = absurd (true≢false (sym e))
used_as false false e = refl

found_as : (o : Option Bool) (w : Bool) → is_use o w ≡ true → o ≡ Some w
found_as None w e = absurd (true≢false (sym e))
found_as (Some b) w e = ap Some (used_as b w e)

use_of : (w : Bool) → is_use (Some w) w ≡ true
use_of true = refl
use_of false = refl

-- a place of the list, as that of a share which uses the key so
abbrev UsedAt : ℕ → List Share → Key → Bool → ℕ → Type 0
UsedAt n shares key w p = (k : ℕ) × (k < length shares) × (n + k ≡ p) × (uses_as (get_or shares k []) key w ≡ true)

used_later : (n : ℕ) (share : Share) (shares : List Share) (key : Key) (w : Bool) (p : ℕ) → UsedAt (n + 1) shares key w p → UsedAt n (share ∷ shares) key w p
used_later n share shares key w p q = (suc q.0, omega (arith, q.1), omega (arith, q.2), q.3)

from_places : (n : ℕ) (shares : List Share) (key : Key) (w : Bool) (p : ℕ) → Contains (places_from n shares key w) p → UsedAt n shares key w p
from_places n [] key w p c = absurd (in_nothing p c)
from_places n (share ∷ shares) key w p c =
    elim (uses_as share key w) as (λ b. uses_as share key w ≡ b → Contains (cond b (n ∷ places_from (n + 1) shares key w) (places_from (n + 1) shares key w)) p → UsedAt n (share ∷ shares) key w p) [
      | true ↦ λ e d. ⊎_elim (λ s. (0, omega arith, omega arith, e)) (λ r. used_later n share shares key w p (from_places (n + 1) shares key w p r)) (first_or_rest n (places_from (n + 1) shares key w) p d)
      | false ↦ λ e d. used_later n share shares key w p (from_places (n + 1) shares key w p d)
    ] refl c

to_places : (n : ℕ) (shares : List Share) (key : Key) (w : Bool) (k : ℕ) → k < length shares → uses_as (get_or shares k []) key w ≡ true → Contains (places_from n shares key w) (n + k)
to_places n [] key w k l e = absurd (omega arith)
to_places n (share ∷ shares) key w zero l e =
    let same : n ≡ n + 0 = omega arith in
    subst (Contains (places_from n (share ∷ shares) key w)) same (subst (λ b. Contains (cond b (n ∷ places_from (n + 1) shares key w) (places_from (n + 1) shares key w)) n) (sym e) (0, omega arith, refl))
to_places n (share ∷ shares) key w (suc k) l e =
    let same : n + 1 + k ≡ n + suc k = omega arith in
    let rest = subst (Contains (places_from (n + 1) shares key w)) same (to_places (n + 1) shares key w k (omega arith) e) in
    elim (uses_as share key w) as (λ b. Contains (cond b (n ∷ places_from (n + 1) shares key w) (places_from (n + 1) shares key w)) (n + suc k)) [
      | true ↦ there n (places_from (n + 1) shares key w) (n + suc k) rest
      | false ↦ rest
    ]

-- ---- the places that are asked for

module _ (places : Key → Bool → List ℕ) where
  from_asked : (uses : Share) (p : ℕ) → Contains (asked places uses) p → (u : Key × Bool) × Contains uses u × (Contains (places u.0 true) p ⊎ ((u.1 ≡ true) × Contains (places u.0 false) p))
  from_asked [] p c = absurd (in_nothing p c)
  from_asked (u ∷ uses) p c =
      ⊎_elim
      (λ here. (u, (0, omega arith, refl), ⊎_elim (λ w. inl w) (λ r. inr (readers u.1 refl r)) (Contains-append_cases (places u.0 true) (cond u.1 (places u.0 false) []) p here)))
      (λ rest. let q = from_asked uses p rest in (q.0, there u uses q.0 q.1, q.2))
      (Contains-append_cases (places u.0 true ++ cond u.1 (places u.0 false) []) (asked places uses) p c)
    where
      readers : (b : Bool) → u.1 ≡ b → Contains (cond b (places u.0 false) []) p → (u.1 ≡ true) × Contains (places u.0 false) p
      readers true e d = (e, d)
      readers false e d = absurd (in_nothing p d)

  asked_writer : (uses : Share) (u : Key × Bool) (p : ℕ) → Contains uses u → Contains (places u.0 true) p → Contains (asked places uses) p
  asked_writer [] u p c d = absurd (in_nothing u c)
  asked_writer (v ∷ uses) u p c d =
      ⊎_elim
      (λ same. Contains-append_left (places v.0 true ++ cond v.1 (places v.0 false) []) (asked places uses) p
      (Contains-append_left (places v.0 true) (cond v.1 (places v.0 false) []) p (subst (λ x. Contains (places x.0 true) p) (sym same) d)))
      (λ rest. Contains-append_right (places v.0 true ++ cond v.1 (places v.0 false) []) (asked places uses) p (asked_writer uses u p rest d))
      (first_or_rest v uses u c)

  asked_reader : (uses : Share) (u : Key × Bool) (p : ℕ) → Contains uses u → u.1 ≡ true → Contains (places u.0 false) p → Contains (asked places uses) p
  asked_reader [] u p c e d = absurd (in_nothing u c)
  asked_reader (v ∷ uses) u p c e d =
      ⊎_elim
      (λ same. Contains-append_left (places v.0 true ++ cond v.1 (places v.0 false) []) (asked places uses) p
      (Contains-append_right (places v.0 true) (cond v.1 (places v.0 false) []) p
      (subst (λ b. Contains (cond b (places v.0 false) []) p) (sym (ap (λ (x : Key × Bool). x.1) same ∙ e)) (subst (λ x. Contains (places x.0 false) p) (sym same) d))))
      (λ rest. Contains-append_right (places v.0 true ++ cond v.1 (places v.0 false) []) (asked places uses) p (asked_reader uses u p rest e d))
      (first_or_rest v uses u c)

pub asked-same : (f g : Key → Bool → List ℕ) (uses : Share) → ((k : Key) (w : Bool) → f k w ≡ g k w) → asked f uses ≡ asked g uses
asked-same f g [] same = refl
asked-same f g (u ∷ uses) same = λ i. (same u.0 true i ++ cond u.1 (same u.0 false i) []) ++ asked-same f g uses same i

-- ---- uses of rising shares

found_at : (uses : Share) (u : Key × Bool) → IsRising uses → Contains uses u → find uses u.0 ≡ Some u.1
found_at [] u rises c = absurd (in_nothing u c)
found_at (v ∷ uses) u rises c =
    ⊎_elim
    (λ same. ap (λ (x : Key × Bool). find (v ∷ uses) x.0) (sym same) ∙ ap (λ b. cond b (Some v.1) (find uses v.0)) (key_eq-refl v.0) ∙ ap (λ (x : Key × Bool). Some x.1) same)
    (λ rest. find-later v uses u.0 u.1 rises (found_at uses u (second_so _ _ rises) rest))
    (first_or_rest v uses u c)

stands_in : (uses : Share) (key : Key) (b : Bool) → find uses key ≡ Some b → Contains uses (key, b)
stands_in [] key b found = absurd (missing found)
  where
    missing : None ≡ Some b → ⊥
    missing e = cc
stands_in (v ∷ uses) key b found =
    elim (key_eq key v.0) as (λ s. key_eq key v.0 ≡ s → cond s (Some v.1) (find uses key) ≡ Some b → Contains (v ∷ uses) (key, b)) [
      | true ↦ λ s is. (0, omega arith, same_pair (key_eq-true key v.0 s) is)
      | false ↦ λ s is. there v uses (key, b) (stands_in uses key b is)
    ] refl found
  where
    same_flag : Some v.1 ≡ Some b → v.1 ≡ b
    same_flag e = cc

    same_pair : key ≡ v.0 → Some v.1 ≡ Some b → v ≡ (key, b)
    same_pair k e = λ i. (sym k i, same_flag e i)

-- ---- the places that are asked for are those whose shares clash

module _ (shares : List Share) (uses : Share) (rising : AllByRecursion IsRising shares) (rises : IsRising uses) where
  rising_at : (xs : List Share) (k : ℕ) → AllByRecursion IsRising xs → IsRising (get_or xs k [])
  rising_at [] k h = refl
  rising_at (x ∷ xs) zero h = h.0
  rising_at (x ∷ xs) (suc k) h = rising_at xs k h.1

  pub asked_clashes : (p : ℕ) → Contains (asked (places_from 0 shares) uses) p → (p < length shares) × (clashes (get_or shares p []) uses ≡ true)
  asked_clashes p c =
      let q = from_asked (places_from 0 shares) uses p c in
      let u = q.0 in
      let found = found_at uses u rises q.1 in
      ⊎_elim
      (λ w. let k = from_places 0 shares u.0 true p w in clash k.0 k.1 k.2 true u found k.3 refl)
      (λ r. let k = from_places 0 shares u.0 false p r.1 in clash k.0 k.1 k.2 false u found k.3 r.0)
      q.2
    where
      clash : (k : ℕ) → k < length shares → 0 + k ≡ p → (w : Bool) (u : Key × Bool) → find uses u.0 ≡ Some u.1 → uses_as (get_or shares k []) u.0 w ≡ true → (w || u.1) ≡ true → (p < length shares) × (clashes (get_or shares p []) uses ≡ true)
      clash k l e w u found used writes =
          let same : k ≡ p = omega arith in (
            subst (λ z. z < length shares) same l,
            ap (λ z. clashes (get_or shares z []) uses) (sym same) ∙ clashes-at (get_or shares k []) uses u.0 w u.1 (found_as (find (get_or shares k []) u.0) w used) found writes,
          )

  pub clashes_asked : (p : ℕ) → p < length shares → clashes (get_or shares p []) uses ≡ true → Contains (asked (places_from 0 shares) uses) p
  clashes_asked p l e =
      let s = clashes-shared (get_or shares p []) uses (rising_at shares p rising) rises e in
      let here = stands_in uses s.key s.right s.found_right in
      let at : 0 + p ≡ p = omega arith in
      by_left s.left refl s.key s.right s.found_left s.written here at
    where
      by_left : (b : Bool) → b ≡ b → (key : Key) (r : Bool) → find (get_or shares p []) key ≡ Some b → (b || r) ≡ true → Contains uses (key, r) → 0 + p ≡ p → Contains (asked (places_from 0 shares) uses) p
      by_left true _ key r found written here at =
          asked_writer (places_from 0 shares) uses (key, r) p here
          (subst (Contains (places_from 0 shares key true)) at (to_places 0 shares key true p l (ap (λ o. is_use o true) found)))
      by_left false _ key r found written here at =
          asked_reader (places_from 0 shares) uses (key, r) p here written
          (subst (Contains (places_from 0 shares key false)) at (to_places 0 shares key false p l (ap (λ o. is_use o false) found)))

-- ---- what was noted, by its places

pub length-noted : (c : Columns) (n : ℕ) (shares : List Share) → length (noted_from c n shares) ≡ length shares
length-noted c n [] = refl
length-noted c n (share ∷ shares) = ap suc (length-noted c (n + 1) shares)

abbrev pub noted_at : Columns → List Share → ℕ → Noted
noted_at c shares p = noted_with c (get_or shares p []) p

to_noted : (c : Columns) (n : ℕ) (shares : List Share) (k : ℕ) → k < length shares → Contains (noted_from c n shares) (noted_with c (get_or shares k []) (n + k))
to_noted c n [] k l = absurd (omega arith)
to_noted c n (share ∷ shares) zero l =
    let same : n ≡ n + 0 = omega arith in
    (0, omega arith, ap (noted_with c share) same)
to_noted c n (share ∷ shares) (suc k) l =
    let same : n + 1 + k ≡ n + suc k = omega arith in
    there (noted_with c share n) (noted_from c (n + 1) shares) (noted_with c (get_or shares k []) (n + suc k))
    (subst (λ p. Contains (noted_from c (n + 1) shares) (noted_with c (get_or shares k []) p)) same (to_noted c (n + 1) shares k (omega arith)))

from_noted : (c : Columns) (n : ℕ) (shares : List Share) (t : Noted) → Contains (noted_from c n shares) t → (k : ℕ) × (k < length shares) × (noted_with c (get_or shares k []) (n + k) ≡ t)
from_noted c n [] t d = absurd (in_nothing t d)
from_noted c n (share ∷ shares) t d =
    let same : n + 0 ≡ n = omega arith in
    ⊎_elim
    (λ here. (0, omega arith, ap (noted_with c share) same ∙ here))
    (λ rest.
    let q = from_noted c (n + 1) shares t rest in
    let next : n + suc q.0 ≡ n + 1 + q.0 = omega arith in
    (suc q.0, omega (arith, q.1), ap (noted_with c (get_or shares q.0 [])) next ∙ q.2))
    (first_or_rest (noted_with c share n) (noted_from c (n + 1) shares) t d)

-- ---- the other users, and what was noted of rivals

module _ (c : Columns) (id : TxnId) (shares : List Share) (uses : Share) (rising : AllByRecursion IsRising shares) (rises : IsRising uses) where
  abbrev there_are : List ℕ
  there_are = others c id (asked (places_from 0 shares) uses)

  abbrev those : List Noted
  those = rivals (noted_of c shares) id uses

  to_rival : (p : ℕ) → Contains there_are p → Contains those (noted_at c shares p)
  to_rival p d =
      let q = Contains-from_filter (is_other c id) (asked (places_from 0 shares) uses) p d in
      let e = asked_clashes shares uses rising rises p q.0 in
      let same : 0 + p ≡ p = omega arith in
      Contains-filter (is_rival id uses) (noted_of c shares) (noted_at c shares p)
      (subst (λ z. Contains (noted_of c shares) (noted_with c (get_or shares p []) z)) same (to_noted c 0 shares p e.0))
      (and_from (is_other c id p) (clashes (get_or shares p []) uses) q.1 e.1)

  from_rival : (t : Noted) → Contains those t → (p : ℕ) × Contains there_are p × (noted_at c shares p ≡ t)
  from_rival t d =
      let q = Contains-from_filter (is_rival id uses) (noted_of c shares) t d in
      let k = from_noted c 0 shares t q.0 in
      let p = k.0 in
      let same : p ≡ 0 + p = omega arith in
      let is : noted_at c shares p ≡ t = ap (noted_with c (get_or shares p [])) same ∙ k.2 in
      let both = and_parts (is_other c id p) (clashes (get_or shares p []) uses) (ap (is_rival id uses) is ∙ q.1) in
      (p, Contains-filter (is_other c id) (asked (places_from 0 shares) uses) p (clashes_asked shares uses rising rises p k.1 both.1) both.0, is)

  pub rival_greatest : (a : Option Stamp) → IsGreatestStamp (stamps_of c there_are) a → IsGreatestStamp (map (λ (t : Noted). t.stamp) those) a
  rival_greatest a g =
      greatest_stamp-like (stamps_of c there_are) (map (λ (t : Noted). t.stamp) those) a
      (λ s d.
      let q = Contains-from_map (stamp_at c) there_are s d in
      subst (Contains (map (λ (t : Noted). t.stamp) those)) q.2 (Contains-map (λ (t : Noted). t.stamp) those (noted_at c shares q.0) (to_rival q.0 q.1)))
      (λ s d.
      let q = Contains-from_map (λ (t : Noted). t.stamp) those s d in
      let p = from_rival q.0 q.1 in
      subst (Contains (stamps_of c there_are)) (ap (λ (t : Noted). t.stamp) p.2 ∙ q.2) (Contains-map (stamp_at c) there_are p.0 p.1))
      g

  pub rival_names : SameIds (ids_of c there_are) (map (λ (t : Noted). t.id) those)
  rival_names = (
    λ s d.
        let q = Contains-from_map (id_at c) there_are s d in
        subst (Contains (map (λ (t : Noted). t.id) those)) q.2 (Contains-map (λ (t : Noted). t.id) those (noted_at c shares q.0) (to_rival q.0 q.1)),
    λ s d.
        let q = Contains-from_map (λ (t : Noted). t.id) those s d in
        let p = from_rival q.0 q.1 in
        subst (Contains (ids_of c there_are)) (ap (λ (t : Noted). t.id) p.2 ∙ q.2) (Contains-map (id_at c) there_are p.0 p.1),
  )

  pub rival_names_below : (bound : Stamp) → SameIds (ids_of c (those_below c bound there_are)) (map (λ (t : Noted). t.id) (filter (λ (t : Noted). stamp_lt t.id.0 bound) those))
  rival_names_below bound =
      let small : Noted → Bool = λ t. stamp_lt t.id.0 bound in
      let low : ℕ → Bool = λ p. stamp_lt (id_at c p).0 bound in (
        λ s d.
            let q = Contains-from_map (id_at c) (filter low there_are) s d in
            let f = Contains-from_filter low there_are q.0 q.1 in
            subst (Contains (map (λ (t : Noted). t.id) (filter small those))) q.2
            (Contains-map (λ (t : Noted). t.id) (filter small those) (noted_at c shares q.0) (Contains-filter small those (noted_at c shares q.0) (to_rival q.0 f.0) f.1)),
        λ s d.
            let q = Contains-from_map (λ (t : Noted). t.id) (filter small those) s d in
            let f = Contains-from_filter small those q.0 q.1 in
            let p = from_rival q.0 f.0 in
            subst (Contains (ids_of c (filter low there_are))) (ap (λ (t : Noted). t.id) p.2 ∙ q.2)
            (Contains-map (id_at c) (filter low there_are) p.0 (Contains-filter low there_are p.0 p.1 (ap small p.2 ∙ f.1))),
      )

-- ---- the writers of a key

written_is : (o : Option Bool) → is_use o true ≡ unwrap_or o false
written_is None = refl
written_is (Some true) = refl
written_is (Some false) = refl

pub writer_names : (c : Columns) (shares : List Share) (key : Key) → SameIds (ids_of c (places_from 0 shares key true)) (map (λ (t : Noted). t.id) (filter (λ (t : Noted). is_written t.share key) (noted_of c shares)))
writer_names c shares key =
    let writes : Noted → Bool = λ t. is_written t.share key in
    let noted = noted_of c shares in (
      λ s d.
          let q = Contains-from_map (id_at c) (places_from 0 shares key true) s d in
          let k = from_places 0 shares key true q.0 q.1 in
          let here = Contains-filter writes noted (noted_with c (get_or shares k.0 []) (0 + k.0)) (to_noted c 0 shares k.0 k.1) (sym (written_is (find (get_or shares k.0 []) key)) ∙ k.3) in
          subst (Contains (map (λ (t : Noted). t.id) (filter writes noted))) (ap (id_at c) k.2 ∙ q.2) (Contains-map (λ (t : Noted). t.id) (filter writes noted) _ here),
      λ s d.
          let q = Contains-from_map (λ (t : Noted). t.id) (filter writes noted) s d in
          let f = Contains-from_filter writes noted q.0 q.1 in
          let k = from_noted c 0 shares q.0 f.0 in
          let used : uses_as (get_or shares k.0 []) key true ≡ true = written_is (find (get_or shares k.0 []) key) ∙ ap writes k.2 ∙ f.1 in
          subst (Contains (ids_of c (places_from 0 shares key true))) (ap (λ (t : Noted). t.id) k.2 ∙ q.2)
          (Contains-map (id_at c) (places_from 0 shares key true) (0 + k.0) (to_places 0 shares key true k.0 k.1 used)),
    )

-- ---- the places of the map lie in the columns

pub places_below : (shares : List Share) (key : Key) (w : Bool) (p : ℕ) → Contains (places_from 0 shares key w) p → p < length shares
places_below shares key w p d = let k = from_places 0 shares key w p d in omega (arith, k.1, k.2)

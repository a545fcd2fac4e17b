-- The stores of shards, listed by the numbers of the shards and of the nodes.
use Rattle.std.proofs.Common.{◌≡◌, ℕ, zero, suc, ◌+◌, ◌*◌, ◌/◌, ◌%◌, ◌<◌, Bool, true, false, ◌&&◌, ◌||◌, cond, nat_eq, List, [], ◌∷◌, ◌++◌, map, filter, refl, sym, ◌∙◌, ap, append_assoc, inl, inr, ◌^◌, add-one, arith}
use Rattle.std.specs.List.{range_with_len, flat_map, list_any}
use Rattle.std.proofs.lemmas.List.{map-append, append-nil}
use Rattle.std.proofs.lemmas.List.Elements.{filter-append}
use Rattle.std.proofs.lemmas.List.Folds.{list_any-append}
use Rattle.std.proofs.lemmas.Grind.{flat_map-append}
use Rattle.std.proofs.lemmas.Bool.{or_left, or_right, eq-eqb, ne_eqb, cases_eq}
use Rattle.acc_stamp.specs.declared.actors.Actor.{Actor}
use Rattle.acc_stamp.specs.Actor.{actor_of, node_of, shard_of}
use Rattle.acc_topology.specs.Layout.{Layout, IsLayout, HasShard, shard_at}
use Rattle.acc_topology.specs.Sets.{numbers, in_set, is_among, members}
use Rattle.acc_topology.proofs.Listed.{IsSetOf-members}
use Rattle.acc_topology.proofs.Rules.{in_set-below}
use Rattle.acc_tally.proofs.Exist.{shards_of-exist}
use Rattle.acc_txn.specs.declared.parts.BodyParts.{BodyParts}
use Rattle.acc_txn.specs.Uses.{footprint_of}
use Rattle.acc_message.specs.Shares.{shards_used, stores_of_shard, is_store_of}

range-more : (from n : ℕ) → range_with_len from (suc n) ≡ range_with_len from n ++ (from + n) ∷ []
range-more from zero = ap (λ (k : ℕ). k ∷ []) (omega arith)
range-more from (suc n) =
    let there : from + 1 + n ≡ from + suc n = omega arith in
    ap (λ rest. from ∷ rest) (range-more (from + 1) n ∙ ap (λ (k : ℕ). range_with_len (from + 1) n ++ k ∷ []) there)

-- the numbers of a set that are below a number
abbrev pub below : ℕ → ℕ → List ℕ
below set n = filter (in_set set) (range_with_len 0 n)

below-more : (set n : ℕ) → below set (n + 1) ≡ below set n ++ filter (in_set set) (n ∷ [])
below-more set n =
    let there : 0 + n ≡ n = omega arith in
    ap (λ k. below set k) (add-one n) ∙ ap (filter (in_set set)) (range-more 0 n ∙ ap (λ (k : ℕ). range_with_len 0 n ++ k ∷ []) there)
    ∙ filter-append (in_set set) (range_with_len 0 n) (n ∷ [])

pub below-with : (set n : ℕ) → in_set set n ≡ true → below set (n + 1) ≡ below set n ++ n ∷ []
below-with set n h = below-more set n ∙ ap (λ b. below set n ++ cond b (n ∷ []) []) h

pub below-without : (set n : ℕ) → in_set set n ≡ false → below set (n + 1) ≡ below set n
below-without set n h = below-more set n ∙ ap (λ b. below set n ++ cond b (n ∷ []) []) h ∙ append-nil (below set n)

pub below-all : (set n : ℕ) → n ≡ 16 → below set n ≡ members set
unfolding numbers
below-all set n e = ap (below set) e

-- one more store of a shard, and one more shard
pub more_stores : (f : ℕ → Actor) (before stores : List Actor) (set n : ℕ) → in_set set n ≡ true → stores ≡ before ++ map f (below set n)
    → stores ++ f n ∷ [] ≡ before ++ map f (below set (n + 1))
more_stores f before stores set n h e =
    ap (λ (l : List Actor). l ++ f n ∷ []) e ∙ append_assoc before (map f (below set n)) (f n ∷ [])
    ∙ ap (λ (l : List Actor). before ++ l) (sym (map-append f (below set n) (n ∷ [])) ∙ ap (map f) (sym (below-with set n h)))

pub more_shards : (g : ℕ → List Actor) (stores : List Actor) (set n : ℕ) → in_set set n ≡ true → stores ≡ flat_map g (below set n)
    → stores ++ g n ≡ flat_map g (below set (n + 1))
more_shards g stores set n h e =
    ap (λ (l : List Actor). l ++ g n) e ∙ ap (λ (l : List Actor). flat_map g (below set n) ++ l) (sym (append-nil (g n)))
    ∙ sym (flat_map-append g (below set n) (n ∷ [])) ∙ ap (flat_map g) (sym (below-with set n h))

-- ---- what a set of shards has

pub has_shard : (layout : Layout) → IsLayout layout → (body : BodyParts) (set : ℕ) → set < 2 ^ 16 → members set ≡ shards_used layout body
    → (n : ℕ) → in_set set n ≡ true → HasShard layout n
has_shard layout valid body set small e n h =
    shards_of-exist layout valid (footprint_of body) n (ap (λ ns. is_among ns n) (sym e) ∙ sym (IsSetOf-members set small n) ∙ h)

-- ---- a store by its numbers

by_numbers : (a : Actor) (shard node : ℕ) → shard < 64 → nat_eq (node * 64 + shard) a.0 ≡ (nat_eq shard (shard_of a) && nat_eq node (node_of a))
by_numbers a shard node small =
    elim (cases_eq shard (a.0 % 64)) [
      | inl same ↦
          elim (cases_eq node (a.0 / 64)) [
            | inl here ↦ eq-eqb (node * 64 + shard) a.0 (omega arith)
                ∙ sym (ap (λ b. b && nat_eq node (node_of a)) (eq-eqb shard (shard_of a) same) ∙ eq-eqb node (node_of a) here)
            | inr apart ↦ ne_eqb (node * 64 + shard) a.0 (λ e. apart (omega arith))
                ∙ sym (ap (λ b. b && nat_eq node (node_of a)) (eq-eqb shard (shard_of a) same) ∙ ne_eqb node (node_of a) apart)
          ]
      | inr apart ↦ ne_eqb (node * 64 + shard) a.0 (λ e. apart (omega arith))
          ∙ sym (ap (λ b. b && nat_eq node (node_of a)) (ne_eqb shard (shard_of a) apart))
    ]

together : (s n r : Bool) → ((s && n) || (s && r)) ≡ (s && (n || r))
together true n r = refl
together false n r = refl

and_none : (s : Bool) → false ≡ (s && false)
and_none true = refl
and_none false = refl

any_of_shard : (a : Actor) (shard : ℕ) (nodes : List ℕ) → shard < 64
    → list_any (λ (store : Actor). nat_eq store.0 a.0) (map (λ node. actor_of node shard) nodes) ≡ (nat_eq shard (shard_of a) && is_among nodes (node_of a))
any_of_shard a shard [] small = and_none (nat_eq shard (shard_of a))
any_of_shard a shard (node ∷ nodes) small =
    ap (λ b. b || list_any (λ (store : Actor). nat_eq store.0 a.0) (map (λ node. actor_of node shard) nodes)) (by_numbers a shard node small)
    ∙ ap (λ b. (nat_eq shard (shard_of a) && nat_eq node (node_of a)) || b) (any_of_shard a shard nodes small)
    ∙ together (nat_eq shard (shard_of a)) (nat_eq node (node_of a)) (is_among nodes (node_of a))

joined : (there : ℕ → Bool) (s t : ℕ) (rest : Bool) → ((nat_eq s t && there s) || (rest && there t)) ≡ ((nat_eq s t || rest) && there t)
joined there s t rest =
    elim (cases_eq s t) [
      | inl same ↦
          ap (λ b. (b && there s) || (rest && there t)) (eq-eqb s t same) ∙ ap (λ z. there z || (rest && there t)) same
          ∙ covered (there t) rest ∙ sym (ap (λ b. (b || rest) && there t) (eq-eqb s t same))
      | inr apart ↦
          ap (λ b. (b && there s) || (rest && there t)) (ne_eqb s t apart) ∙ sym (ap (λ b. (b || rest) && there t) (ne_eqb s t apart))
    ]
  where
    covered : (here rest : Bool) → (here || (rest && here)) ≡ here
    covered true rest = refl
    covered false true = refl
    covered false false = refl

-- an actor is a store of these shards where its shard is one of them and its node keeps that shard
pub store_is : (layout : Layout) (a : Actor) (shards : List ℕ) → ((n : ℕ) → is_among shards n ≡ true → n < 64)
    → list_any (λ (store : Actor). nat_eq store.0 a.0) (flat_map (stores_of_shard layout) shards)
    ≡ (is_among shards (shard_of a) && is_among (shard_at layout (shard_of a)).replicas (node_of a))
store_is layout a [] small = refl
store_is layout a (s ∷ shards) small =
    list_any-append (λ (store : Actor). nat_eq store.0 a.0) (stores_of_shard layout s) (flat_map (stores_of_shard layout) shards)
    ∙ ap (λ b. b || list_any (λ (store : Actor). nat_eq store.0 a.0) (flat_map (stores_of_shard layout) shards))
    (any_of_shard a s (shard_at layout s).replicas (small s (or_left (nat_eq s s) (is_among shards s) (eq-eqb s s refl))))
    ∙ ap (λ b. (nat_eq s (shard_of a) && is_among (shard_at layout s).replicas (node_of a)) || b)
    (store_is layout a shards (λ n h. small n (or_right (nat_eq s n) (is_among shards n) h)))
    ∙ joined (λ z. is_among (shard_at layout z).replicas (node_of a)) s (shard_of a) (is_among shards (shard_of a))

pub is_store-is : (layout : Layout) (body : BodyParts) (set : ℕ) (a : Actor) → set < 2 ^ 16 → members set ≡ shards_used layout body
    → is_store_of layout body a ≡ (in_set set (shard_of a) && is_among (shard_at layout (shard_of a)).replicas (node_of a))
is_store-is layout body set a small e =
    ap (λ shards. list_any (λ (store : Actor). nat_eq store.0 a.0) (flat_map (stores_of_shard layout) shards)) (sym e)
    ∙ store_is layout a (members set) (λ n h. below_sixteen (in_set-below set n small (IsSetOf-members set small n ∙ h)))
    ∙ ap (λ b. b && is_among (shard_at layout (shard_of a)).replicas (node_of a)) (sym (IsSetOf-members set small (shard_of a)))
  where
    below_sixteen : {n : ℕ} → n < 16 → n < 64
    below_sixteen h = omega arith

-- The ends of shards rise, so each key lies in just one of them.
use Rattle.std.proofs.Common.{◌≡◌, ℕ, zero, suc, ◌+◌, ◌-◌, ◌<◌, ◌≤◌, Bool, true, false, not, cond, List, [], ◌∷◌, length, map, get_or, Option, Some, None, refl, sym, ap, subst, ◌∙◌, arith, add-one, inl, inr, IsTrue, is_none}
use Rattle.std.specs.declared.cmp.Ordering.{Ordering}
use Rattle.std.specs.declared.cmp.Ordering.TheVariants.{Less, Equal, Greater}
use Rattle.std.specs.Ordering.{is_lt}
use Rattle.std.specs.Cmp.Lexicographic.{nat_list_cmp_total}
use Rattle.std.proofs.lemmas.Bool.{and_parts, cases_order, true≢false, not-true, not-false, not_from_false, false_from_ne_true}
use Rattle.std.proofs.lemmas.List.{length-map}
use Rattle.std.specs.List.Sorted.{IsPartitionedBy, IsPartitionPoint}
use Rattle.acc_topology.specs.declared.shard.Shard.{Shard as MadeShard}
use Rattle.acc_topology.specs.View.{shard_view}
use Rattle.acc_topology.specs.Layout.{Layout, Shard, no_shard, bytes_lt, is_below, shards_before, shard_of, HoldsKey, is_end_before, ends_rise}

less : (r : Ordering) → IsTrue (is_lt r) → r ≡ Less
less Less h = refl
less Equal h = cc
less Greater h = cc

bytes_lt-trans : (a b c : List ℕ) → IsTrue (bytes_lt a b) → IsTrue (bytes_lt b c) → IsTrue (bytes_lt a c)
bytes_lt-trans a b c h k = ap is_lt (nat_list_cmp_total.trans a b c (less _ h) (less _ k))

-- what stands before an end stands before the next
below_next : (bytes : List ℕ) (e f : Option (List ℕ)) → IsTrue (is_end_before e f) → IsTrue (is_below bytes e) → IsTrue (is_below bytes f)
below_next bytes None f h k = cc
below_next bytes (Some a) None h k = refl
below_next bytes (Some a) (Some b) h k = bytes_lt-trans bytes a b k h

abbrev end_at : List Shard → ℕ → Option (List ℕ)
end_at shards i = (get_or shards i no_shard).end

abbrev below_at : List ℕ → List Shard → ℕ → Bool
below_at bytes shards i = is_below bytes (end_at shards i)

pub below_later : (bytes : List ℕ) (shards : List Shard) (i j : ℕ) → IsTrue (ends_rise shards) → i ≤ j → j < length shards → IsTrue (below_at bytes shards i) → IsTrue (below_at bytes shards j)
below_later bytes [] i j rise le within h = absurd (omega arith)
below_later bytes (s ∷ []) zero zero rise le within h = h
below_later bytes (s ∷ []) zero (suc j) rise le within h = absurd (omega arith)
below_later bytes (s ∷ []) (suc i) j rise le within h = absurd (omega arith)
below_later bytes (s ∷ t ∷ shards) zero zero rise le within h = h
below_later bytes (s ∷ t ∷ shards) zero (suc j) rise le within h =
    let both = and_parts (is_end_before s.end t.end) (ends_rise (t ∷ shards)) rise in
    below_later bytes (t ∷ shards) zero j both.1 (omega arith) (omega arith) (below_next bytes s.end t.end both.0 h)
below_later bytes (s ∷ t ∷ shards) (suc i) zero rise le within h = absurd (omega arith)
below_later bytes (s ∷ t ∷ shards) (suc i) (suc j) rise le within h =
    let both = and_parts (is_end_before s.end t.end) (ends_rise (t ∷ shards)) rise in
    below_later bytes (t ∷ shards) i j both.1 (omega arith) (omega arith) h

-- ---- the first that ends after the bytes

before_by : (bytes : List ℕ) (s : Shard) (shards : List Shard) (i : ℕ) (b : Bool) → is_below bytes s.end ≡ b → ((j : ℕ) → j < shards_before bytes shards → below_at bytes shards j ≡ false) → i < cond b 0 (shards_before bytes shards + 1) → below_at bytes (s ∷ shards) i ≡ false
before_by bytes s shards i true e rest lt = absurd (omega arith)
before_by bytes s shards zero false e rest lt = e
before_by bytes s shards (suc i) false e rest lt = rest i (omega arith)

-- no shard in front of it does
pub before_not : (bytes : List ℕ) (shards : List Shard) (i : ℕ) → i < shards_before bytes shards → below_at bytes shards i ≡ false
before_not bytes [] i lt = absurd (omega arith)
before_not bytes (s ∷ shards) i lt = before_by bytes s shards i (is_below bytes s.end) refl (before_not bytes shards) lt

-- it is there, and it does
at_by : (bytes : List ℕ) (s : Shard) (shards : List Shard) (b : Bool) → is_below bytes s.end ≡ b → (b ≡ false → (shards_before bytes shards < length shards) × IsTrue (below_at bytes shards (shards_before bytes shards))) → let k = cond b 0 (shards_before bytes shards + 1) in (k < length (s ∷ shards)) × IsTrue (below_at bytes (s ∷ shards) k)
at_by bytes s shards true e rest = (omega arith, e)
at_by bytes s shards false e rest =
    let r = rest refl in
    (omega (arith, r.0), rw add-one r.1)

none_below : (bytes : List ℕ) (e : Option (List ℕ)) → IsTrue (is_none e) → IsTrue (is_below bytes e)
none_below bytes None h = refl
none_below bytes (Some end) h = cc

pub at_first : (bytes : List ℕ) (shards : List Shard) → IsTrue (ends_rise shards) → (shards_before bytes shards < length shards) × IsTrue (below_at bytes shards (shards_before bytes shards))
at_first bytes [] rise = cc
at_first bytes (s ∷ []) rise = at_by bytes s [] (is_below bytes s.end) refl (λ e. absurd (true≢false (sym (none_below bytes s.end rise) ∙ e)))
at_first bytes (s ∷ t ∷ shards) rise = at_by bytes s (t ∷ shards) (is_below bytes s.end) refl (λ _. at_first bytes (t ∷ shards) (and_parts (is_end_before s.end t.end) (ends_rise (t ∷ shards)) rise).1)

-- ---- each key has one shard

pub shard_of-holds : (layout : Layout) (bytes : List ℕ) → IsTrue (ends_rise layout.shards) → HoldsKey layout (shard_of layout bytes) bytes
shard_of-holds layout bytes rise =
    let k = shards_before bytes layout.shards in
    let first = at_first bytes layout.shards rise in
    let here : k + 1 - 1 ≡ k = omega arith in
    record {
      exists = (omega arith, omega (arith, first.0));
      ends = subst (λ (i : ℕ). IsTrue (below_at bytes layout.shards i)) (sym here) first.1;
      begins = λ le. before_not bytes layout.shards (k + 1 - 1 - 1) (omega arith);
    }

pub shard_of-only : (layout : Layout) (bytes : List ℕ) (shard : ℕ) → IsTrue (ends_rise layout.shards) → HoldsKey layout shard bytes → shard ≡ shard_of layout bytes
shard_of-only layout bytes shard rise holds =
    let k = shards_before bytes layout.shards in
    let first = at_first bytes layout.shards rise in
    elim (cases_order (shard - 1) k) [
      | inl same ↦ omega (arith, holds.exists.0)
      | inr other ↦ elim other [
        | inl lower ↦ absurd (true≢false (sym holds.ends ∙ before_not bytes layout.shards (shard - 1) lower))
        | inr higher ↦ absurd (true≢false (sym (below_later bytes layout.shards k (shard - 1 - 1) rise (omega arith) (omega (arith, holds.exists.1)) first.1) ∙ holds.begins (omega arith)))
      ]
    ]

-- ---- the search for it

abbrev pub is_past : List ℕ → MadeShard → Bool
is_past bytes s = not (is_below bytes s.end)

view_at : (shards : List MadeShard) (i : ℕ) (d : MadeShard) → i < length shards → end_at (map shard_view shards) i ≡ (get_or shards i d).end
view_at [] i d lt = absurd (omega arith)
view_at (s ∷ shards) zero d lt = refl
view_at (s ∷ shards) (suc i) d lt = view_at shards i d (omega arith)

below_view : (bytes : List ℕ) (shards : List MadeShard) (i : ℕ) (d : MadeShard) → i < length shards → below_at bytes (map shard_view shards) i ≡ is_below bytes (get_or shards i d).end
below_view bytes shards i d lt = ap (is_below bytes) (view_at shards i d lt)

pub is_partitioned : (bytes : List ℕ) (shards : List MadeShard) → IsTrue (ends_rise (map shard_view shards)) → IsPartitionedBy (is_past bytes) shards
is_partitioned bytes shards rise i j d le within past =
    not_from_false _ (false_from_ne_true _ (λ below.
    let at_i = below_view bytes shards i d (omega arith) ∙ below in
    let at_j = below_later bytes (map shard_view shards) i j rise le (omega (arith, length-map shards shard_view)) at_i in
    true≢false (sym (sym (below_view bytes shards j d within) ∙ at_j) ∙ not-true _ past)))

pub partition_is : (bytes : List ℕ) (shards : List MadeShard) (k : ℕ) (d : MadeShard) → IsTrue (ends_rise (map shard_view shards)) → k ≤ length shards → IsPartitionPoint (λ s. is_past bytes s ≡ true) (λ s. is_past bytes s ≡ false) shards k → k ≡ shards_before bytes (map shard_view shards)
partition_is bytes shards k d rise le parts =
    let m = shards_before bytes (map shard_view shards) in
    let first = at_first bytes (map shard_view shards) rise in
    let m_within : m < length shards = omega (arith, first.0, length-map shards shard_view) in
    elim (cases_order k m) [
      | inl same ↦ same
      | inr other ↦ elim other [
        | inl lower ↦
            let below_k = below_view bytes shards k d (omega arith) ∙ not-false _ (parts.1 k d (omega arith) (omega arith)) in
            absurd (true≢false (sym below_k ∙ before_not bytes (map shard_view shards) k lower))
        | inr higher ↦
            let not_m = below_view bytes shards m d m_within ∙ not-true _ (parts.0 m d (omega arith) higher) in
            absurd (true≢false (sym first.1 ∙ not_m))
      ]
    ]

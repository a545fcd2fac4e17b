-- What a visited store tells: each writer of the key that it knows, and a cell only where all of them are applied.
use Rattle.std.proofs.Common.{◌≡◌, ℕ, ◌==◌, Bool, true, false, cond, List, [], ◌∷◌, Option, None, Some, filter, map, refl, ◌∙◌, ap, subst, ⊎_elim}
use Rattle.std.specs.Prelude.{unwrap_or}
use Rattle.std.specs.List.{list_all}
use Rattle.std.proofs.lemmas.Bool.{false≢true, and_parts, or_cases, cond-true, eq-eqb}
use Rattle.acc_stamp.specs.declared.stamps.TxnId.{TxnId}
use Rattle.acc_stamp.specs.Stamp.{id_eq}
use Rattle.acc_stamp.specs.Rising.{id_among}
use Rattle.acc_stamp.proofs.Order.{id_order, eq_itself}
use Rattle.acc_stamp.proofs.Rising.{is_among-union}
use Rattle.acc_topology.specs.Layout.{Layout}
use Rattle.acc_topology.specs.Keys.{shard_of_key, share_of}
use Rattle.acc_value.specs.declared.key.Key.{Key}
use Rattle.acc_value.specs.declared.value.Value.{Value}
use Rattle.acc_value.specs.Pairs.{find}
use Rattle.acc_value.proofs.Rising.{find-filter}
use Rattle.acc_txn.specs.declared.parts.BodyParts.{BodyParts}
use Rattle.acc_txn.specs.Uses.{is_read, is_updated, footprint_of}
use Rattle.acc_txn.proofs.UsesFacts.{find-footprint_of}
use Rattle.acc_message.specs.Taken.{Taken, Heard, known, body_known}
use Rattle.acc_message.specs.Opening.{is_applied, cells_at}
use Rattle.acc_store.specs.Queries.{writes_here, known_writers, cell_if_applied}
use Rattle.acc_actor_laws.proofs.Standing.{not_none}
use Rattle.acc_actor_laws.proofs.OpeningFacts.{some_is}
use Rattle.acc_safety.specs.Places.{IsIn}
use Rattle.acc_safety.proofs.PlaceOrder.{any_from, filter-IsIn, map-IsIn}
use Rattle.acc_safety_laws.proofs.Knowing.{heard_body-IsIn}

-- ---- known writers

pub written_is_found : (body : BodyParts) (key : Key) → is_updated body key ≡ true → find (footprint_of body) key ≡ Some true
written_is_found body key updates =
    find-footprint_of body key ∙ cond-true (is_updated body key) (Some true) (cond (is_read body key) (Some false) None) updates

written_in_share : (layout : Layout) (body : BodyParts) (key : Key) → is_updated body key ≡ true
    → find (share_of layout (footprint_of body) (shard_of_key layout key)) key ≡ Some true
written_in_share layout body key updates =
    find-filter (λ k. shard_of_key layout k == shard_of_key layout key) (footprint_of body) key
    ∙ cond-true (shard_of_key layout key == shard_of_key layout key) (find (footprint_of body) key) None
    (eq-eqb (shard_of_key layout key) (shard_of_key layout key) refl)
    ∙ written_is_found body key updates

pub known_is_told : (layout : Layout) (history : List Taken) (key : Key) (x : TxnId) (body : BodyParts) → body_known history x ≡ Some body
    → is_updated body key ≡ true → id_among x (known_writers layout (shard_of_key layout key) history key) ≡ true
known_is_told layout history key x body is updates =
    is_among-union id_order x [] (map (λ (h : Heard). h.id) writers)
    ∙ any_from (λ y. id_eq y x) x (map (λ (h : Heard). h.id) writers) (map-IsIn (λ (h : Heard). h.id) k writers there) (eq_itself id_order x)
  where
    k : Heard
    k = record { id = x; body = body }

    writers : List Heard
    writers = filter (writes_here layout (shard_of_key layout key) key) (known history)

    there : IsIn k writers
    there =
        filter-IsIn (writes_here layout (shard_of_key layout key) key) k (known history) (heard_body-IsIn x (known history) body is)
        (ap (λ o. unwrap_or o false) (written_in_share layout body key updates))

-- ---- a cell that is told

told_by : (b : Bool) (c cell : Option Value) → cond b (Some c) None ≡ Some cell → (b ≡ true) × (c ≡ cell)
told_by true c cell e = (refl, some_is c cell e)
told_by false c cell e = absurd (not_none cell e)

pub read_tells : (layout : Layout) (shard : ℕ) (history : List Taken) (ids : List TxnId) (key : Key) (cell : Option Value)
    → cell_if_applied layout shard history ids key ≡ Some cell
    → (list_all (is_applied shard history) ids ≡ true) × (cells_at layout shard history key ≡ cell)
read_tells layout shard history ids key cell = told_by (list_all (is_applied shard history) ids) (cells_at layout shard history key) cell

pub each_among : (test : TxnId → Bool) (ids : List TxnId) (x : TxnId) → list_all test ids ≡ true → id_among x ids ≡ true → test x ≡ true
each_among test [] x all among = absurd (false≢true among)
each_among test (y ∷ ids) x all among =
    let parts = and_parts (test y) (list_all test ids) all in
    ⊎_elim (λ here. subst (λ z. test z ≡ true) ((id_order.decides y x).0 here) parts.0) (each_among test ids x parts.1)
    (or_cases (id_eq y x) (id_among x ids) among)

-- How many keys there are among the uses once one more is used: one more exactly where it isn't among them.
use Rattle.std.proofs.Common.{◌≡◌, ℕ, ◌+◌, ◌<◌, ◌≤◌, Bool, true, false, ◌||◌, cond, List, [], ◌∷◌, length, map, Option, Some, is_some, Result, Ok, Err, refl, sym, ap, ◌∙◌}
use Rattle.std.specs.Prelude.{IfOk}
use Rattle.std.specs.List.{list_any}
use Rattle.std.specs.FinMap.Entries as entries
use Rattle.std.proofs.lemmas.Bool.{lt-ltb}
use Rattle.acc_wire.specs.declared.error.WireKind.TheVariants.{Range}
use Rattle.acc_wire.specs.Reading.{Unread, fault_at}
use Rattle.acc_value.specs.declared.key.Key.{Key}
use Rattle.acc_value.specs.Key.{key_cmp, key_eq}
use Rattle.acc_value.specs.Pairs.{IsRising, find}
use Rattle.acc_value.specs.Footprint.{is_written, used}
use Rattle.acc_value.proofs.KeyOrder.{key_cmp_total}
use Rattle.acc_value.proofs.Rising.{find-put, IsRising-put, to_T}
use Rattle.acc_txn.specs.declared.parts.Let.{Let}
use Rattle.acc_txn.specs.declared.parts.Select.{Select}
use Rattle.acc_txn.specs.declared.parts.Update.{Update}
use Rattle.acc_txn.specs.Uses.{with_keys, selected_keys, updated_key}
use Rattle.acc_code.specs.BodyReading.{key_at, use_at, let_uses, read_uses, uses_so_far, is_among}
use Rattle.acc_code.proofs.UseCounts.{of_few}

rising : (writes : Bool) (uses : List (Key × Bool)) (keys : List Key) → IsRising uses → IsRising (with_keys writes uses keys)
rising writes uses [] h = h
rising writes uses (key ∷ keys) h = rising writes (used uses key writes) keys (IsRising-put uses key _ h)

so_far_rise : (lets : List Let) (select : Select) (updates : List Update) → IsRising (uses_so_far lets select updates)
so_far_rise lets select updates =
    rising true (read_uses lets select) (map updated_key updates)
    (rising false (let_uses lets) (selected_keys select) (rising false [] (map (λ l. l.key) lets) refl))

-- one key more, among those after it
found_step : (here behind v : Bool) (old : Option Bool) → (behind || is_some (cond here (Some v) old)) ≡ ((here || behind) || is_some old)
found_step true true v old = refl
found_step true false v old = refl
found_step false true v old = refl
found_step false false v old = refl

-- a key is found among uses with further keys where it is one of them, or was found before
found_with : (writes : Bool) (uses : List (Key × Bool)) (keys : List Key) (q : Key) → is_some (find (with_keys writes uses keys) q) ≡ (list_any (key_eq q) keys || is_some (find uses q))
found_with writes uses [] q = refl
found_with writes uses (key ∷ keys) q =
    found_with writes (used uses key writes) keys q
    ∙ ap (λ (o : Option Bool). list_any (key_eq q) keys || is_some o) (find-put uses key (is_written uses key || writes) q)
    ∙ found_step (key_eq q key) (list_any (key_eq q) keys) (is_written uses key || writes) (find uses q)

any_mapped : {A B : Type 0} (f : A → B) (p : B → Bool) (xs : List A) → list_any p (map f xs) ≡ list_any (λ x. p (f x)) xs
any_mapped f p [] = refl
any_mapped f p (x ∷ xs) = ap (λ b. p (f x) || b) (any_mapped f p xs)

turned : (a b c : Bool) → (c || (b || (a || false))) ≡ (a || b || c)
turned true true true = refl
turned true true false = refl
turned true false true = refl
turned true false false = refl
turned false true true = refl
turned false true false = refl
turned false false true = refl
turned false false false = refl

found_so_far : (lets : List Let) (select : Select) (updates : List Update) (q : Key) → is_some (find (uses_so_far lets select updates) q) ≡ is_among lets select updates q
found_so_far lets select updates q =
    found_with true (read_uses lets select) (map updated_key updates) q
    ∙ ap (λ b. list_any (key_eq q) (map updated_key updates) || b) (found_with false (let_uses lets) (selected_keys select) q)
    ∙ ap (λ b. list_any (key_eq q) (map updated_key updates) || (list_any (key_eq q) (selected_keys select) || b)) (found_with false [] (map (λ l. l.key) lets) q)
    ∙ ap (λ b. b || (list_any (key_eq q) (selected_keys select) || (list_any (key_eq q) (map (λ l. l.key) lets) || false))) (any_mapped updated_key (key_eq q) updates)
    ∙ ap (λ b. list_any (λ u. key_eq q (updated_key u)) updates || (list_any (key_eq q) (selected_keys select) || (b || false))) (any_mapped (λ l. l.key) (key_eq q) lets)
    ∙ turned (list_any (λ l. key_eq q l.key) lets) (list_any (key_eq q) (selected_keys select)) (list_any (λ u. key_eq q (updated_key u)) updates)

module _ (lets : List Let) (select : Select) (updates : List Update) (key : Key) (n : ℕ) (counted : n ≡ length (uses_so_far lets select updates)) where
  length_used : (writes : Bool) → length (used (uses_so_far lets select updates) key writes) ≡ cond (is_among lets select updates key) n (n + 1)
  length_used writes =
      let uses = uses_so_far lets select updates in
      entries.length-put key_cmp key_cmp_total key (is_written uses key || writes) uses (to_T _ (so_far_rise lets select updates))
      ∙ ap (λ b. cond b (length uses) (length uses + 1)) (found_so_far lets select updates key)
      ∙ ap (λ m. cond (is_among lets select updates key) m (m + 1)) (sym counted)

  pub known_key : is_among lets select updates key ≡ true → (writes : Bool) → n ≡ length (used (uses_so_far lets select updates) key writes)
  known_key among writes = sym (length_used writes ∙ ap (λ b. cond b n (n + 1)) among)

  pub new_key : is_among lets select updates key ≡ false → (writes : Bool) → n + 1 ≡ length (used (uses_so_far lets select updates) key writes)
  new_key among writes = sym (length_used writes ∙ ap (λ b. cond b n (n + 1)) among)

-- ---- what is read

pub use_read : (uses : List (Key × Bool)) (writes : Bool) (u v : Unread) (key : Key) (n : ℕ) → key_at u ≡ Ok (key, v) → n ≡ length (used uses key writes) → n ≤ 16 → use_at uses writes u ≡ Ok (key, v)
unfolding use_at
use_read uses writes u v key n e counted few = rw (e, of_few (used uses key writes) (rw (← counted) few)) refl

pub use_refused : (uses : List (Key × Bool)) (writes : Bool) (u v : Unread) (key : Key) (n : ℕ) → key_at u ≡ Ok (key, v) → n ≡ length (used uses key writes) → 16 < n → use_at uses writes u ≡ Err (fault_at Range u)
unfolding use_at
use_refused uses writes u v key n e counted many = rw (e, lt-ltb 16 (length (used uses key writes)) (rw (← counted) many)) refl

-- the count with the key of an update
pub update_counted : {E : Type 0} (r : Result Update E) (uses : List (Key × Bool)) (key : Key) (n : ℕ) → IfOk r (λ update. updated_key update ≡ key) → n ≡ length (used uses key true) → IfOk r (λ update. n ≡ length (used uses (updated_key update) true))
update_counted (Ok update) uses key n same counted = rw same counted
update_counted (Err e) uses key n same counted = same

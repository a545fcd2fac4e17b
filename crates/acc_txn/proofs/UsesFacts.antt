-- The footprint of a body at each key.
use Rattle.std.proofs.Common.{◌≡◌, Bool, true, false, ◌||◌, cond, List, [], ◌∷◌, Option, Some, None, Result, Ok, Err, unwrap_or, refl, sym, ap, ◌∙◌}
use Rattle.std.specs.Prelude.{IfOk}
use Rattle.std.specs.List.{list_any}
use Rattle.acc_value.specs.declared.key.Key.{Key}
use Rattle.acc_value.specs.Key.{key_eq}
use Rattle.acc_value.specs.Pairs.{IsRising, find}
use Rattle.acc_value.specs.Footprint.{is_written, used}
use Rattle.acc_value.proofs.KeyOrder.{key_eq-true}
use Rattle.acc_value.proofs.Rising.{find-put, IsRising-put}
use Rattle.acc_txn.specs.declared.parts.BodyParts.{BodyParts}
use Rattle.acc_txn.specs.Uses.{read_keys, written_keys, with_keys, footprint_of, is_read, is_updated}

-- further keys keep the order
IsRising-with_keys : (writes : Bool) (uses : List (Key × Bool)) (keys : List Key) → IsRising uses → IsRising (with_keys writes uses keys)
IsRising-with_keys writes uses [] rises = rises
IsRising-with_keys writes uses (key ∷ keys) rises =
    IsRising-with_keys writes (used uses key writes) keys (IsRising-put uses key (is_written uses key || writes) rises)

pub IsRising-footprint_of : (parts : BodyParts) → IsRising (footprint_of parts)
IsRising-footprint_of parts =
    IsRising-with_keys true (with_keys false [] (read_keys parts)) (written_keys parts) (IsRising-with_keys false [] (read_keys parts) refl)

or_false : (b : Bool) → (b || false) ≡ b
or_false true = refl
or_false false = refl

or_true : (b : Bool) → (b || true) ≡ true
or_true true = refl
or_true false = refl

-- one key more that is read, among those after it
reads_step : (behind here written : Bool) (old : Option Bool) → (here ≡ true → written ≡ unwrap_or old false) → cond behind (Some (unwrap_or (cond here (Some (written || false)) old) false)) (cond here (Some (written || false)) old) ≡ cond (here || behind) (Some (unwrap_or old false)) old
reads_step true true written old same = ap Some (or_false written ∙ same refl)
reads_step true false written old same = refl
reads_step false true written old same = ap Some (or_false written ∙ same refl)
reads_step false false written old same = refl

-- one key more that is written, among those after it
writes_step : (behind here written : Bool) (old : Option Bool) → cond behind (Some true) (cond here (Some (written || true)) old) ≡ cond (here || behind) (Some true) old
writes_step true true written old = refl
writes_step true false written old = refl
writes_step false true written old = ap Some (or_true written)
writes_step false false written old = refl

-- keys that are read
find-reads : (uses : List (Key × Bool)) (keys : List Key) (q : Key) → find (with_keys false uses keys) q ≡ cond (list_any (key_eq q) keys) (Some (is_written uses q)) (find uses q)
find-reads uses [] q = refl
find-reads uses (key ∷ keys) q =
    let here = find-put uses key (is_written uses key || false) q in
    find-reads (used uses key false) keys q
    ∙ ap (λ (o : Option Bool). cond (list_any (key_eq q) keys) (Some (unwrap_or o false)) o) here
    ∙ reads_step (list_any (key_eq q) keys) (key_eq q key) (is_written uses key) (find uses q)
    (λ same. ap (is_written uses) (sym (key_eq-true q key same)))

-- keys that are written
find-writes : (uses : List (Key × Bool)) (keys : List Key) (q : Key) → find (with_keys true uses keys) q ≡ cond (list_any (key_eq q) keys) (Some true) (find uses q)
find-writes uses [] q = refl
find-writes uses (key ∷ keys) q =
    find-writes (used uses key true) keys q
    ∙ ap (cond (list_any (key_eq q) keys) (Some true)) (find-put uses key (is_written uses key || true) q)
    ∙ writes_step (list_any (key_eq q) keys) (key_eq q key) (is_written uses key) (find uses q)

-- a key is in the footprint as written where some update writes it, and else as read where the body reads it
pub find-footprint_of : (parts : BodyParts) (q : Key) → find (footprint_of parts) q ≡ cond (is_updated parts q) (Some true) (cond (is_read parts q) (Some false) None)
find-footprint_of parts q =
    find-writes (with_keys false [] (read_keys parts)) (written_keys parts) q
    ∙ ap (cond (is_updated parts q) (Some true)) (find-reads [] (read_keys parts) q)

-- what is found in the footprint of a body
pub found_in : {E : Type 0} (r : Result (List (Key × Bool)) E) (parts whole : BodyParts) → parts ≡ whole → IfOk r (λ uses. uses ≡ footprint_of parts)
    → IfOk r (λ uses. (q : Key) → find uses q ≡ cond (is_updated whole q) (Some true) (cond (is_read whole q) (Some false) None))
found_in (Ok uses) parts whole same is = λ q. ap (λ u. find u q) (is ∙ ap footprint_of same) ∙ find-footprint_of whole q
found_in (Err e) parts whole same is = is

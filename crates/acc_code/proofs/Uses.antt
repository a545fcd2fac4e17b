-- The uses of keys, one key after the other.
use Rattle.std.proofs.Common.{◌≡◌, Bool, List, [], ◌∷◌, ◌++◌, map, ap, ◌∙◌}
use Rattle.std.proofs.lemmas.List.{map-append}
use Rattle.std.proofs.lemmas.List.Sums.{fold-append}
use Rattle.acc_value.specs.declared.key.Key.{Key}
use Rattle.acc_value.specs.Footprint.{used}
use Rattle.acc_txn.specs.Uses.{with_keys}

pub with_keys-append : (writes : Bool) (uses : List (Key × Bool)) (front keys : List Key) → with_keys writes uses (front ++ keys) ≡ with_keys writes (with_keys writes uses front) keys
with_keys-append writes uses front keys = fold-append (λ so_far key. used so_far key writes) uses front keys

pub with_keys-map : {A : Type 0} (key : A → Key) (writes : Bool) (uses : List (Key × Bool)) (front : List A) (x : A) → with_keys writes uses (map key (front ++ x ∷ [])) ≡ used (with_keys writes uses (map key front)) (key x) writes
with_keys-map key writes uses front x =
    ap (with_keys writes uses) (map-append key front (x ∷ [])) ∙ with_keys-append writes uses (map key front) (key x ∷ [])

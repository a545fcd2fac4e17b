-- How many keys there are among the uses: never fewer once one more is used.
use Rattle.std.proofs.Common.{◌≡◌, ◌≤◌, Bool, true, false, not, List, [], ◌∷◌, ◌++◌, length, map, ap, ◌∙◌, arith, IsTrue}
use Rattle.std.specs.declared.cmp.Ordering.TheVariants.{Less, Equal, Greater}
use Rattle.std.specs.FinMap.Entries.{by_order}
use Rattle.std.proofs.lemmas.Bool.{ltb-false, le-ltb, not-true}
use Rattle.std.proofs.lemmas.List.{map-append}
use Rattle.acc_value.specs.declared.key.Key.{Key}
use Rattle.acc_value.specs.Key.{key_cmp}
use Rattle.acc_value.specs.Pairs.{put}
use Rattle.acc_value.specs.Footprint.{used}
use Rattle.acc_txn.specs.declared.parts.BodyParts.{BodyParts}
use Rattle.acc_txn.specs.Uses.{with_keys, selected_keys, updated_key, footprint_of}
use Rattle.acc_txn.specs.Rules.{is_many}
use Rattle.acc_code.specs.BodyReading.{let_uses, read_uses}
use Rattle.acc_code.proofs.Uses.{with_keys-append}

abbrev pub Few : List (Key × Bool) → Type 0
Few uses = length uses ≤ 16

pub few_of : (uses : List (Key × Bool)) → IsTrue (not (is_many (length uses))) → Few uses
few_of uses h = ltb-false 16 (length uses) (not-true (is_many (length uses)) h)

pub of_few : (uses : List (Key × Bool)) → Few uses → IsTrue (not (is_many (length uses)))
of_few uses h = ap not (le-ltb 16 (length uses) h)

put_more : (pairs : List (Key × Bool)) (key : Key) (v : Bool) → length pairs ≤ length (put pairs key v)
put_more [] key v = omega arith
put_more (p ∷ pairs) key v =
    elim (key_cmp key p.0) as (λ o. length (p ∷ pairs) ≤ length (by_order o ((key, v) ∷ p ∷ pairs) ((p.0, v) ∷ pairs) (p ∷ put pairs key v))) [
      | Less ↦ omega arith
      | Equal ↦ omega arith
      | Greater ↦ let more = put_more pairs key v in omega (arith, more)
    ]

used_more : (uses : List (Key × Bool)) (key : Key) (writes : Bool) → length uses ≤ length (used uses key writes)
used_more uses key writes = put_more uses key _

keys_more : (writes : Bool) (keys : List Key) (uses : List (Key × Bool)) → length uses ≤ length (with_keys writes uses keys)
keys_more writes [] uses = omega arith
keys_more writes (key ∷ keys) uses =
    let one = used_more uses key writes in let more = keys_more writes keys (used uses key writes) in omega (arith, one, more)

-- with few uses in the end there are few after each key
pub few_before : {A : Type 0} (key : A → Key) (writes : Bool) (uses : List (Key × Bool)) (front xs : List A) → Few (with_keys writes uses (map key (front ++ xs))) → Few (with_keys writes uses (map key front))
few_before key writes uses front xs few =
    let e : with_keys writes uses (map key (front ++ xs)) ≡ with_keys writes (with_keys writes uses (map key front)) (map key xs) = ap (with_keys writes uses) (map-append key front xs) ∙ with_keys-append writes uses (map key front) (map key xs) in
    let more = keys_more writes (map key xs) (with_keys writes uses (map key front)) in
    omega (arith, few, more, ap length e)

-- the uses of a body, in two steps
pub footprint_is : (parts : BodyParts) → footprint_of parts ≡ with_keys true (read_uses parts.lets parts.select) (map updated_key parts.updates)
footprint_is parts = ap (λ (u : List (Key × Bool)). with_keys true u (map updated_key parts.updates)) (with_keys-append false [] (map (λ l. l.key) parts.lets) (selected_keys parts.select))

pub few_read : (parts : BodyParts) → Few (footprint_of parts) → Few (read_uses parts.lets parts.select)
few_read parts few =
    let more = keys_more true (map updated_key parts.updates) (read_uses parts.lets parts.select) in
    omega (arith, few, more, ap length (footprint_is parts))

pub few_lets : (parts : BodyParts) → Few (footprint_of parts) → Few (let_uses parts.lets)
few_lets parts few =
    let more = keys_more false (selected_keys parts.select) (let_uses parts.lets) in
    omega (arith, few_read parts few, more)

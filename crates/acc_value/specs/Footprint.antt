-- Footprints: the keys that a transaction uses, rising, each with a flag that tells whether it is written.
use Rattle.std.specs.Prelude.{Bool, false, ◌&&◌, ◌||◌, List, unwrap_or}
use Rattle.std.specs.List.{list_any}
use Rattle.std.specs.Bool.{beq}
use Rattle.std.specs.Ordering.{on, eq_of_both}
use Rattle.std.specs.Cmp.Lexicographic.{pointwise}
use Rattle.acc_value.specs.declared.key.Key.{Key}
use Rattle.acc_value.specs.Key.{key_eq}
use Rattle.acc_value.specs.Pairs.{find, put}

-- whether a footprint has the key as written
abbrev pub is_written : List (Key × Bool) → Key → Bool
is_written uses key = unwrap_or (find uses key) false

-- the footprint with one use more: a key is written where one of its uses writes it
abbrev pub used : List (Key × Bool) → Key → Bool → List (Key × Bool)
used uses key writes = put uses key (is_written uses key || writes)

-- the two footprints have the same pairs
abbrev pub uses_eq : List (Key × Bool) → List (Key × Bool) → Bool
uses_eq = pointwise (eq_of_both (on (λ p. p.0) key_eq) (on (λ p. p.1) beq))

-- they share a key that isn't merely read by both
abbrev pub clashes : List (Key × Bool) → List (Key × Bool) → Bool
clashes a b = list_any (λ p. list_any (λ q. key_eq p.0 q.0 && (p.1 || q.1)) b) a

-- Keys and their order.
use Rattle.std.specs.Prelude.{Bool}
use Rattle.std.specs.declared.cmp.Ordering.{Ordering}
use Rattle.std.specs.Ordering.{nat_cmp, on, then_cmp, eq_by_cmp, is_lt}
use Rattle.std.specs.Cmp.Lexicographic.{slice_cmp}
use Rattle.acc_value.specs.declared.key.Key.{Key}

-- keys are ordered by their texts, and those of one text by their tables, both byte by byte
abbrev pub key_cmp : Key → Key → Ordering
key_cmp = then_cmp (on (λ k. k.key) (slice_cmp nat_cmp)) (on (λ k. k.table) (slice_cmp nat_cmp))

-- the two are one key
abbrev pub key_eq : Key → Key → Bool
key_eq = eq_by_cmp key_cmp

-- the first stands before the second
abbrev pub key_lt : Key → Key → Bool
key_lt a b = is_lt (key_cmp a b)

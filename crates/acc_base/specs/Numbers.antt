-- The ends of the numbers of 64 bits.
use Rattle.std.specs.Prelude.{ℕ}

-- the greatest number of 64 bits without a sign
abbrev pub greatest_u64 : ℕ
greatest_u64 = 18446744073709551615

-- the greatest number of 64 bits with a sign; the least one lies one further below zero than it above
abbrev pub greatest_i64 : ℕ
greatest_i64 = 9223372036854775807

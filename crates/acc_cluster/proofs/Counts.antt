-- Counts of faults over steps one behind the other.
use Rattle.std.proofs.Common.{◌≡◌, ◌⊎◌, ℕ, ◌<◌, ◌≤◌, sym, ◌∙◌, subst, inl, inr, arith}
use mathlib.Core.Logic.{dite}
use native.Mathlib.Decide.{dec_lt}
use Rattle.acc_ports.specs.Faults.{Rose, greatest_count}

pub at_most : (n : ℕ) → n ≤ n
at_most n = omega arith

pub most_on : (one two three : ℕ) → one ≤ two → two ≤ three → one ≤ three
most_on one two three a b = omega (arith, a, b)

low_on : (one two three : ℕ) → one < two → two ≤ three → one < three
low_on one two three a b = omega (arith, a, b)

low_then : (one two three : ℕ) → one ≤ two → two < three → one < three
low_then one two three a b = omega (arith, a, b)

-- it rose, or both stand at the greatest number
by_greatest : (one three greatest : ℕ) → one ≤ greatest → greatest ≤ three → (one ≡ greatest) ⊎ (three ≡ greatest) → (one < three) ⊎ ((one ≡ greatest) × (three ≡ greatest))
by_greatest one three greatest a b end = dite (dec_lt one three) (λ less. inl less) (λ not_less. inr (first a b end not_less, second a b end not_less))
  where
    first : one ≤ greatest → greatest ≤ three → (one ≡ greatest) ⊎ (three ≡ greatest) → (one < three → ⊥) → one ≡ greatest
    first a b (inl is) not_less = is
    first a b (inr is) not_less = omega (arith, a, b, is, not_less)

    second : one ≤ greatest → greatest ≤ three → (one ≡ greatest) ⊎ (three ≡ greatest) → (one < three → ⊥) → three ≡ greatest
    second a b (inl is) not_less = omega (arith, a, b, is, not_less)
    second a b (inr is) not_less = is

pub same_most : {n k : ℕ} → n ≡ k → n ≤ k
same_most is = omega (arith, is)

-- a count that rose and didn't fall afterwards
rose_then : (one two three : ℕ) → Rose one two → two ≤ three → Rose one three
rose_then one two three (inl less) on = inl (low_on one two three less on)
rose_then one two three (inr full) on =
    by_greatest one three greatest_count (same_most full.0) (subst (λ n. n ≤ three) full.1 on) (inl full.0)

-- one that rose, and hadn't fallen before
then_rose : (one two three : ℕ) → one ≤ two → Rose two three → Rose one three
then_rose one two three on (inl less) = inl (low_then one two three on less)
then_rose one two three on (inr full) =
    by_greatest one three greatest_count (subst (λ n. one ≤ n) full.0 on) (same_most (sym full.1)) (inr full.1)

-- a number of downs stays, or the count rose: so over both steps
pub rose_on : (one two three first second third : ℕ) → one ≤ two → two ≤ three → (second ≡ first) ⊎ Rose one two → (third ≡ second) ⊎ Rose two three
    → (third ≡ first) ⊎ Rose one three
rose_on one two three first second third a b (inl is) (inl also) = inl (also ∙ is)
rose_on one two three first second third a b (inl is) (inr rose) = inr (then_rose one two three a rose)
rose_on one two three first second third a b (inr rose) _ = inr (rose_then one two three rose b)

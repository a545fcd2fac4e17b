-- Counts of faults and of calls. A count goes up by one at a time and stands still at the greatest number of its type.
use Rattle.std.specs.Prelude.{◌≡◌, ◌⊎◌, ℕ, ◌+◌, ◌-◌, ◌^◌, ◌<◌, min}

-- the greatest number of a count
abbrev pub greatest_count : ℕ
greatest_count = 2 ^ 64 - 1

-- a count after one more
abbrev pub next_count : ℕ → ℕ
next_count count = min (count + 1) greatest_count

-- The count rose from `before` to `now`. One that stands at the greatest number can't rise: there, standing still is
-- enough.
abbrev pub Rose : ℕ → ℕ → Type 0
Rose before now = (before < now) ⊎ ((before ≡ greatest_count) × (now ≡ greatest_count))

-- A call that failed raised the count, and one that didn't, for want of memory too, left it.
pub record CountsFaults (failed : Type 0) (before now : ℕ) : Type 0 where
  pub cause : failed → Rose before now
  pub unfailed : ¬ failed → now ≡ before

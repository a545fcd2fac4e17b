-- Sets as bits: what the code's operations on bits are on lists of numbers.
use Rattle.std.proofs.Common.{◌≡◌, ℕ, zero, suc, ◌+◌, ◌*◌, ◌^◌, ◌/◌, ◌%◌, ◌<◌, ◌≤◌, min, Bool, true, false, ◌&&◌, ◌||◌, cond, eqb, List, [], ◌∷◌, map, length, filter, count_by, refl, sym, ap, subst, ◌∙◌, arith, inl, inr, add-one, pow-suc, bit_and, bit_or}
use Rattle.std.specs.Int.{w16, bit_at}
use Rattle.std.specs.Prelude.{count_ones}
use Rattle.std.specs.List.{range_with_len}
use Rattle.std.specs.Simd.Lanes.{mask_l}
use Rattle.std.proofs.lemmas.Bool.{cases_eq, eq-eqb, ne_eqb, or_right}
use Rattle.std.proofs.lemmas.Nat.{and_le_l}
use Rattle.std.proofs.lemmas.List.Sums.{sum_by-cons, length-filter, count_by-le-length}
use Rattle.std.proofs.lemmas.Nat.Bits.{bit_at-lt, bit_at-suc, bit_at_lowest, bit_at_and, bit_at_above, bit_at_set_same, bit_at_set_other}
use Rattle.std.proofs.lemmas.Simd.{ones-mask_l}
use Rattle.acc_topology.specs.Sets.{numbers, in_set, members}

-- ---- a number by its bits

bits_shifted : (a k n : ℕ) → map (in_set n) (range_with_len (a + 1) k) ≡ map (in_set (n / 2)) (range_with_len a k)
bits_shifted a zero n = refl
bits_shifted a (suc k) n =
    let head : bit_at n (a + 1) ≡ bit_at (n / 2) a = rw add-one (bit_at-suc n a) in
    let rest = bits_shifted (a + 1) k n in
    ap (λ (b : ℕ). eqb b 1 ∷ map (in_set n) (range_with_len (a + 1 + 1) k)) head ∙ ap (λ (bs : List Bool). eqb (bit_at (n / 2) a) 1 ∷ bs) rest

lowest : (b : ℕ) → b < 2 → cond (eqb b 1) 1 0 ≡ b
lowest zero h = refl
lowest (suc zero) h = refl
lowest (suc (suc b)) h = absurd (omega arith)

mask_of_bits : (k n : ℕ) → n < 2 ^ k → mask_l (map (in_set n) (range_with_len 0 k)) ≡ n
mask_of_bits zero n h = omega arith
mask_of_bits (suc k) n h =
    let half : n / 2 < 2 ^ k = omega (arith, pow-suc 2 k) in
    let rest : mask_l (map (in_set n) (range_with_len 1 k)) ≡ n / 2 = ap mask_l (bits_shifted 0 k n) ∙ mask_of_bits k (n / 2) half in
    let low : cond (in_set n 0) 1 0 ≡ n % 2 = lowest (bit_at n 0) (bit_at-lt n 0) ∙ bit_at_lowest n in
    omega (arith, rest, low)

ones_members : (set : ℕ) → set < 2 ^ 16 → count_ones set ≡ count_by (in_set set) numbers
unfolding numbers
ones_members set h = ap count_ones (sym (mask_of_bits 16 set h)) ∙ ones-mask_l (in_set set) (range_with_len 0 16)

pub ones-length : (set : ℕ) → set < 2 ^ 16 → count_ones set ≡ length (members set)
ones-length set h = ones_members set h ∙ sym (length-filter (in_set set) numbers)

pub length-members : (set : ℕ) → length (members set) ≤ 16
unfolding numbers
length-members set = omega (arith, length-filter (in_set set) (range_with_len 0 16), count_by-le-length (in_set set) (range_with_len 0 16))

-- ---- both sets

both_bits : (x y : ℕ) → x < 2 → y < 2 → eqb (min x y) 1 ≡ (eqb x 1 && eqb y 1)
both_bits zero y h k = ap (λ (m : ℕ). eqb m 1) {x = min 0 y} {y = 0} (omega arith)
both_bits (suc zero) zero h k = refl
both_bits (suc zero) (suc zero) h k = refl
both_bits (suc zero) (suc (suc y)) h k = absurd (omega arith)
both_bits (suc (suc x)) y h k = absurd (omega arith)

pub in_set-and : (a b n : ℕ) → in_set (bit_and a b) n ≡ (in_set a n && in_set b n)
in_set-and a b n = ap (λ (m : ℕ). eqb m 1) (bit_at_and a b n) ∙ both_bits (bit_at a n) (bit_at b n) (bit_at-lt a n) (bit_at-lt b n)

abbrev pub one_if : Bool → ℕ
one_if b = cond b 1 0

module _ {X : Type 0} where
  pub count_by-cons : (p : X → Bool) (x : X) (xs : List X) → count_by p (x ∷ xs) ≡ one_if (p x) + count_by p xs
  count_by-cons p x xs = sum_by-cons (λ y. one_if (p y)) x xs

  pub count_by-same : (p q : X → Bool) → ((x : X) → p x ≡ q x) → (xs : List X) → count_by p xs ≡ count_by q xs
  count_by-same p q h [] = refl
  count_by-same p q h (x ∷ xs) =
      let first : one_if (p x) ≡ one_if (q x) = ap one_if (h x) in
      omega (arith, count_by-cons p x xs, count_by-cons q x xs, first, count_by-same p q h xs)

  by_first : (p q : X → Bool) (x : X) (xs : List X) (b : Bool) → p x ≡ b → one_if (p x && q x) + count_by q (filter p xs) ≡ count_by q (filter p (x ∷ xs))
  by_first p q x xs true e = rw e (sym (count_by-cons q x (filter p xs)))
  by_first p q x xs false e = rw e (omega arith)

  -- to count in what is left by a test
  pub count_by-filter : (p q : X → Bool) (xs : List X) → count_by (λ y. p y && q y) xs ≡ count_by q (filter p xs)
  count_by-filter p q [] = refl
  count_by-filter p q (x ∷ xs) = omega (arith, count_by-cons (λ y. p y && q y) x xs, by_first p q x xs (p x) refl, count_by-filter p q xs)

-- how many numbers are in both sets
pub ones-and : (a b : ℕ) → a < 2 ^ 16 → count_ones (bit_and a b) ≡ count_by (in_set b) (members a)
ones-and a b h =
    ones_members (bit_and a b) (omega (arith, and_le_l a b))
    ∙ count_by-same (in_set (bit_and a b)) (λ n. in_set a n && in_set b n) (in_set-and a b) numbers
    ∙ count_by-filter (in_set a) (in_set b) numbers

pub in_set_above : (set n : ℕ) → set < 2 ^ 16 → 16 ≤ n → in_set set n ≡ false
in_set_above set n small le = ap (λ (b : ℕ). eqb b 1) (bit_at_above set 16 n small le)

or_false : (x y : Bool) → y ≡ false → (x || y) ≡ x
or_false true y e = refl
or_false false y e = e

pub in_set-with : (set number n : ℕ) → number < 16 → in_set (bit_or set (1 * 2 ^ number % 65536)) n ≡ (in_set set n || eqb number n)
in_set-with set number n lt =
    elim (cases_eq number n) [
      | inl same ↦
          let one : bit_at (bit_or set (1 * 2 ^ number % 65536)) n ≡ 1 = subst (λ (k : ℕ). bit_at (bit_or set (1 * 2 ^ number % 65536)) k ≡ 1) same (bit_at_set_same w16 set number lt) in
          eq-eqb _ _ one ∙ sym (or_right (in_set set n) (eqb number n) (eq-eqb number n same))
      | inr other ↦
          let kept : bit_at (bit_or set (1 * 2 ^ number % 65536)) n ≡ bit_at set n = bit_at_set_other w16 set number lt n (λ e. other (sym e)) in
          ap (λ (b : ℕ). eqb b 1) kept ∙ sym (or_false (in_set set n) (eqb number n) (ne_eqb number n other))
    ]

-- The names of generated transactions are names, and no two of them are equal.
use Rattle.std.proofs.Common.{◌≡◌, ◌⊎◌, ℕ, zero, suc, ◌+◌, ◌-◌, ◌%◌, ◌^◌, ◌<◌, ◌≤◌, Bool, true, false, not, ◌&&◌, ◌||◌, cond, List, [], ◌∷◌, length, map, decimal, nat_lt, Some, None, position, inl, inr, refl, ap, ◌∙◌, arith, le-leb, lt-ltb}
use Rattle.std.specs.List.{list_all, list_any, prefix_len, range_with_len}
use Rattle.std.specs.Str.{bytes_eq}
use Rattle.std.proofs.Math.Bool.{or-true}
use Rattle.std.proofs.lemmas.Bool.{cases_eq}
use Rattle.std.proofs.lemmas.Fmt.{decimal_by_steps, decimal_injective, length-decimal-le}
use Rattle.std.proofs.lemmas.List.Folds.{list_all-append}
use Rattle.std.proofs.lemmas.List.FromFn.{length-map-range_with_len}
use Rattle.std.proofs.lemmas.Slice.Eq.{bytes_eq-Decides}
use Rattle.acc_schedule.specs.Transactions.{is_name, is_name_byte, is_new}
use Rattle.acc_generator.specs.Document.{name_of, numbers}

-- ---- their form

digit_named : (n : ℕ) → n < 10 → is_name_byte (48 + n) ≡ true
digit_named n lt = rw (le-leb 48 (48 + n) (omega arith), le-leb (48 + n) 57 (omega arith)) (or-true _)

digits_named : (n : ℕ) → n < 2 ^ 64 → list_all is_name_byte (decimal n) ≡ true
digits_named = decimal_by_steps (λ n ds. list_all is_name_byte ds ≡ true) (λ n lt. ap (λ b. b && true) (digit_named n lt))
    (λ n ds le h. list_all-append is_name_byte ds ((48 + n % 10) ∷ []) ∙ ap (λ b. b && (is_name_byte (48 + n % 10) && true)) h ∙ ap (λ b. b && true) (digit_named (n % 10) (omega arith)))

pub name_formed : (n : ℕ) → n < 2000 → is_name (name_of n) ≡ true
unfolding name_of
name_formed n lt =
    ap (λ b. b && list_all is_name_byte (decimal n)) (le-leb (length (decimal n)) 15 (omega (arith, length-decimal-le 4 n (omega arith) (omega arith) (omega arith))))
    ∙ digits_named n (omega arith)

-- ---- they differ

name_same : (n m : ℕ) → n < 2000 → m < 2000 → bytes_eq (name_of n) (name_of m) ≡ true → n ≡ m
unfolding name_of
name_same n m lt lt' e =
    let whole : name_of n ≡ name_of m = (bytes_eq-Decides (name_of n) (name_of m)).0 e in
    let digits : decimal n ≡ decimal m = cc in
    decimal_injective n m (omega arith) (omega arith) digits

pub name_itself : (n : ℕ) → bytes_eq (name_of n) (name_of n) ≡ true
name_itself n = (bytes_eq-Decides (name_of n) (name_of n)).1 refl

pub name_other : (n m : ℕ) → n < 2000 → m < 2000 → (n ≡ m → ⊥) → bytes_eq (name_of n) (name_of m) ≡ false
name_other n m lt lt' other = tested (bytes_eq (name_of n) (name_of m)) refl
  where
    tested : (b : Bool) → bytes_eq (name_of n) (name_of m) ≡ b → b ≡ false
    tested true e = absurd (other (name_same n m lt lt' e))
    tested false e = refl

none_before : (a n number : ℕ) → a + n ≤ number → number < 2000 → list_any (bytes_eq (name_of number)) (map name_of (range_with_len a n)) ≡ false
none_before a zero number le few = refl
none_before a (suc n) number le few =
    ap (λ b. b || list_any (bytes_eq (name_of number)) (map name_of (range_with_len (a + 1) n))) (name_other number a few (omega arith) (λ e. omega arith))
    ∙ none_before (a + 1) n number (omega arith) few

pub name_new : (number : ℕ) → number < 2000 → is_new (map name_of (numbers number)) (name_of number) ≡ true
name_new number few = ap not (none_before 0 number number (omega arith) few)

-- ---- their places

module _ {X : Type 0} (test : X → Bool) (f : ℕ → X) (number : ℕ) (here : test (f number) ≡ true) (not_before : (j : ℕ) → j < number → test (f j) ≡ false) where
  -- the place after this one, where the number stands further on
  further : (a : ℕ) (behind : List X) → a ≤ number → (a < number → prefix_len (λ x. not (test x)) behind ≡ number - (a + 1)) → prefix_len (λ x. not (test x)) (f a ∷ behind) ≡ number - a
  further a behind le there = go (cases_eq a number)
    where
      go : (a ≡ number) ⊎ (a ≡ number → ⊥) → prefix_len (λ x. not (test x)) (f a ∷ behind) ≡ number - a
      go (inl same) =
          let found : test (f a) ≡ true = ap (λ (j : ℕ). test (f j)) same ∙ here in
          let none : 0 ≡ number - a = omega arith in
          ap (λ b. cond (not b) (1 + prefix_len (λ x. not (test x)) behind) 0) found ∙ none
      go (inr other) =
          let lt : a < number = omega arith in
          let lost : test (f a) ≡ false = not_before a lt in
          let more : 1 + (number - (a + 1)) ≡ number - a = omega arith in
          ap (λ b. cond (not b) (1 + prefix_len (λ x. not (test x)) behind) 0) lost ∙ ap (λ (k : ℕ). 1 + k) (there lt) ∙ more

  before : (a n : ℕ) → a ≤ number → number < a + n → prefix_len (λ x. not (test x)) (map f (range_with_len a n)) ≡ number - a
  before a zero le lt = absurd (omega arith)
  before a (suc n) le lt = further a (map f (range_with_len (a + 1) n)) le (λ below. before (a + 1) n (omega arith) (omega arith))

  pub position_is : (n : ℕ) → number < n → position test (map f (range_with_len 0 n)) ≡ Some number
  position_is n lt =
      let all = map f (range_with_len 0 n) in
      let less : number - 0 ≡ number = omega arith in
      let place : prefix_len (λ x. not (test x)) all ≡ number = before 0 n (omega arith) (omega arith) ∙ less in
      let within : nat_lt number (length all) ≡ true = lt-ltb number (length all) (omega (arith, length-map-range_with_len f 0 n)) in
      ap (λ (k : ℕ). cond (nat_lt k (length all)) (Some k) None) place ∙ ap (λ b. cond b (Some number) None) within

pub name_position : (number count : ℕ) → number < count → count ≤ 2000 → position (bytes_eq (name_of number)) (map name_of (numbers count)) ≡ Some number
name_position number count lt few =
    position_is (bytes_eq (name_of number)) name_of number (name_itself number) (λ j below. name_other number j (omega arith) (omega arith) (λ e. omega arith)) count lt

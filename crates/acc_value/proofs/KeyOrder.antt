-- The order of keys is strict and total, and its tie is equality.
use Rattle.std.proofs.Common.{◌⊎◌, inl, inr, ◌≡◌, Bool, true, false, ◌&&◌, refl, sym, ap, ◌∙◌, nat_eq, rules}
use Rattle.std.specs.declared.cmp.Ordering.{Ordering}
use Rattle.std.specs.declared.cmp.Ordering.TheVariants.{Less, Equal, Greater}
use Rattle.std.specs.Ordering.{nat_cmp, ordering_then, ordering_reverse, is_eq, is_lt}
use Rattle.std.specs.Cmp.{IsTotalOrder, Equal-is, eq_by_cmp_equiv, both_tied, unsigned_ties, tied_itself}
use Rattle.std.specs.Cmp.Rules.{comparing}
use Rattle.std.specs.Cmp.Lexicographic.{slice_cmp, lists_ties, pointwise}
use Rattle.std.specs.FinMap.{IsAntisymmetric, slice_cmp-IsAntisymmetric, nat_cmp-IsAntisymmetric}
use Rattle.acc_value.specs.declared.key.Key.{Key}
use Rattle.acc_value.specs.Key.{key_cmp, key_eq, key_lt}

pub key_cmp_total : IsTotalOrder key_cmp
key_cmp_total = search (comparing, rules)

-- only equal keys tie
pub key_cmp-IsAntisymmetric : IsAntisymmetric key_cmp
key_cmp-IsAntisymmetric a b tie =
    elim (slice_cmp nat_cmp a.key b.key) as (λ r. slice_cmp nat_cmp a.key b.key ≡ r → ordering_then r (slice_cmp nat_cmp a.table b.table) ≡ Equal → a ≡ b) [
      | Less ↦ λ _ e. cc
      | Greater ↦ λ _ e. cc
      | Equal ↦ λ texts tables.
          let same : a.key ≡ b.key = slice_cmp-IsAntisymmetric nat_cmp-IsAntisymmetric a.key b.key texts in
          let there : a.table ≡ b.table = slice_cmp-IsAntisymmetric nat_cmp-IsAntisymmetric a.table b.table tables in
          λ i. record { table = there i; key = same i }
    ] refl tie

-- the test of equality, text by text
pub key_eq-pointwise : (a b : Key) → key_eq a b ≡ (pointwise nat_eq a.key b.key && pointwise nat_eq a.table b.table)
key_eq-pointwise a b =
    sym (both_tied _ _ _ _ (lists_ties nat_cmp unsigned_ties a.key b.key) (lists_ties nat_cmp unsigned_ties a.table b.table))

pub key_eq-refl : (a : Key) → key_eq a a ≡ true
key_eq-refl a = ap is_eq (tied_itself key_cmp_total a)

-- the test by texts that is true leaves the test by tables
pub key_eq-then : (a b : Key) (s t : Bool) → s ≡ pointwise nat_eq a.key b.key → s ≡ true → t ≡ pointwise nat_eq a.table b.table → t ≡ key_eq a b
key_eq-then a b s t texts is tables =
    tables ∙ ap (λ r. r && pointwise nat_eq a.table b.table) (sym is ∙ texts) ∙ sym (key_eq-pointwise a b)

pub key_eq-else : (a b : Key) (s : Bool) → s ≡ pointwise nat_eq a.key b.key → s ≡ false → s ≡ key_eq a b
key_eq-else a b s texts is =
    is ∙ ap (λ r. r && pointwise nat_eq a.table b.table) (sym is ∙ texts) ∙ sym (key_eq-pointwise a b)

pub key_eq-symm : (a b : Key) → key_eq a b ≡ key_eq b a
key_eq-symm a b = (eq_by_cmp_equiv key_cmp_total).symm a b

-- the test is true of one key alone
pub key_eq-true : (a b : Key) → key_eq a b ≡ true → a ≡ b
key_eq-true a b same = key_cmp-IsAntisymmetric a b ((Equal-is (key_cmp a b)).0 same)

-- no key is smaller than itself
pub key_lt-irrefl : (a : Key) → key_lt a a ≡ false
key_lt-irrefl a = ap is_lt (tied_itself key_cmp_total a)

is_less : (r : Ordering) → is_lt r ≡ true → r ≡ Less
is_less Less h = refl
is_less Equal h = cc
is_less Greater h = cc

pub key_lt-less : (a b : Key) → key_lt a b ≡ true → key_cmp a b ≡ Less
key_lt-less a b below = is_less (key_cmp a b) below

pub key_lt-trans : (a b c : Key) → key_lt a b ≡ true → key_lt b c ≡ true → key_lt a c ≡ true
key_lt-trans a b c first second = ap is_lt (key_cmp_total.trans a b c (key_lt-less a b first) (key_lt-less b c second))

-- of two keys at most one is smaller
pub key_lt-asym : (a b : Key) → key_lt a b ≡ true → key_lt b a ≡ false
key_lt-asym a b below = ap is_lt (key_cmp_total.antisymm b a ∙ ap ordering_reverse (key_lt-less a b below))

-- of two different keys one is smaller
pub key_lt-cases : (a b : Key) → (key_lt a b ≡ true) ⊎ ((a ≡ b) ⊎ (key_lt b a ≡ true))
key_lt-cases a b =
    elim (key_cmp a b) as (λ r. key_cmp a b ≡ r → (key_lt a b ≡ true) ⊎ ((a ≡ b) ⊎ (key_lt b a ≡ true))) [
      | Less ↦ λ e. inl (ap is_lt e)
      | Equal ↦ λ e. inr (inl (key_cmp-IsAntisymmetric a b e))
      | Greater ↦ λ e. inr (inr (ap is_lt (key_cmp_total.antisymm b a ∙ ap ordering_reverse e)))
    ] refl

-- Bytes with zeros behind them are ordered as two words and then their lengths are.
use Rattle.std.proofs.Common.{◌≡◌, ℕ, zero, suc, ◌+◌, ◌*◌, ◌<◌, ◌≤◌, true, false, ◌&&◌, nat_eq, List, [], ◌∷◌, length, get_or, take, drop, refl, sym, ap, ◌∙◌, arith, inl, inr}
use Rattle.std.specs.declared.cmp.Ordering.{Ordering}
use Rattle.std.specs.declared.cmp.Ordering.TheVariants.{Less, Equal, Greater}
use Rattle.std.specs.Int.{w64, from_be_bytes}
use Rattle.std.specs.Ordering.{nat_cmp, ordering_then, is_eq}
use Rattle.std.specs.Cmp.{nat_cmp_is, both_tied, unsigned_ties}
use Rattle.std.specs.Cmp.Lexicographic.{slice_cmp, pointwise, lists_ties}
use Rattle.std.proofs.lemmas.List.{drop_more, drop_all, get_or-drop, get_or-take, get_or_past, length-take, length-drop}
use Rattle.std.proofs.lemmas.Bool.{cases_lt}
use Rattle.std.proofs.lemmas.Cmp.{ranked, by_ranked}
use Rattle.acc_base.specs.Short.{AreBytes, AreZerosFrom, number_behind}

abbrev order : List ℕ → List ℕ → Ordering
order xs ys = slice_cmp nat_cmp xs ys

-- ---- one test after another

then_assoc : (a b c : Ordering) → ordering_then (ordering_then a b) c ≡ ordering_then a (ordering_then b c)
then_assoc Less b c = refl
then_assoc Equal b c = refl
then_assoc Greater b c = refl

then_equal : (a : Ordering) → ordering_then a Equal ≡ a
then_equal Less = refl
then_equal Equal = refl
then_equal Greater = refl

then_twice : (a b c : Ordering) → ordering_then b c ≡ c → ordering_then (ordering_then a b) (ordering_then a c) ≡ ordering_then a c
then_twice Less b c h = refl
then_twice Equal b c h = h
then_twice Greater b c h = refl

untied_first : (a b c : Ordering) → is_eq a ≡ false → a ≡ ordering_then (ordering_then a b) c
untied_first Less b c h = refl
untied_first Equal b c h = cc
untied_first Greater b c h = refl

tied_first : (a b c : Ordering) → is_eq a ≡ true → ordering_then b c ≡ ordering_then (ordering_then a b) c
tied_first Less b c h = cc
tied_first Equal b c h = refl
tied_first Greater b c h = cc

-- ---- numbers

less : (m n : ℕ) → m < n → nat_cmp m n ≡ Less
less m n h = sym (nat_cmp_is m n Less h)

tied : (m n : ℕ) → m ≡ n → nat_cmp m n ≡ Equal
tied m n h = sym (nat_cmp_is m n Equal h)

greater : (m n : ℕ) → n < m → nat_cmp m n ≡ Greater
greater m n h = sym (nat_cmp_is m n Greater h)

untied : (m n : ℕ) → (m ≡ n → ⊥) → is_eq (nat_cmp m n) ≡ false
untied m n h = by_ranked (m < n) (m ≡ n) (n < m) (nat_cmp m n) (ranked m n _ refl) (λ is k. ap is_eq is) (λ is k. absurd (h k)) (λ is k. ap is_eq is)

-- a digit decides where those before it are equal
digit : (m n a b : ℕ) → a < 256 → b < 256 → nat_cmp (m * 256 + a) (n * 256 + b) ≡ ordering_then (nat_cmp m n) (nat_cmp a b)
digit m n a b small_a small_b =
    by_ranked (m < n) (m ≡ n) (n < m) (nat_cmp m n) (ranked m n _ refl)
    (λ is h. less (m * 256 + a) (n * 256 + b) (omega (arith, h, small_a, small_b)) ∙ sym (ap (λ (o : Ordering). ordering_then o (nat_cmp a b)) is))
    (λ is h. same is h)
    (λ is h. greater (m * 256 + a) (n * 256 + b) (omega (arith, h, small_a, small_b)) ∙ sym (ap (λ (o : Ordering). ordering_then o (nat_cmp a b)) is))
  where
    same : nat_cmp m n ≡ Equal → m ≡ n → nat_cmp (m * 256 + a) (n * 256 + b) ≡ ordering_then (nat_cmp m n) (nat_cmp a b)
    same is h =
        by_ranked (a < b) (a ≡ b) (b < a) (nat_cmp a b) (ranked a b _ refl)
        (λ it k. less (m * 256 + a) (n * 256 + b) (omega (arith, h, k)) ∙ sym it ∙ sym (ap (λ (o : Ordering). ordering_then o (nat_cmp a b)) is))
        (λ it k. tied (m * 256 + a) (n * 256 + b) (omega (arith, h, k)) ∙ sym it ∙ sym (ap (λ (o : Ordering). ordering_then o (nat_cmp a b)) is))
        (λ it k. greater (m * 256 + a) (n * 256 + b) (omega (arith, h, k)) ∙ sym it ∙ sym (ap (λ (o : Ordering). ordering_then o (nat_cmp a b)) is))

next : (m n : ℕ) → nat_cmp (suc m) (suc n) ≡ nat_cmp m n
next m n =
    by_ranked (m < n) (m ≡ n) (n < m) (nat_cmp m n) (ranked m n _ refl)
    (λ is h. less (suc m) (suc n) (omega (arith, h)) ∙ sym is)
    (λ is h. tied (suc m) (suc n) (omega (arith, h)) ∙ sym is)
    (λ is h. greater (suc m) (suc n) (omega (arith, h)) ∙ sym is)

-- ---- words

words : (xs ys : List ℕ) (m n : ℕ) → length xs ≡ length ys → AreBytes xs → AreBytes ys → nat_cmp (number_behind m xs) (number_behind n ys) ≡ ordering_then (nat_cmp m n) (order xs ys)
words [] [] m n e h k = sym (then_equal (nat_cmp m n))
words [] (y ∷ ys) m n e h k = absurd (omega (arith, e))
words (x ∷ xs) [] m n e h k = absurd (omega (arith, e))
words (x ∷ xs) (y ∷ ys) m n e h k =
    words xs ys (m * 256 + x) (n * 256 + y) (omega (arith, e)) (λ i. h (suc i)) (λ i. k (suc i))
    ∙ ap (λ (o : Ordering). ordering_then o (order xs ys)) (digit m n x y (h 0) (k 0))
    ∙ then_assoc (nat_cmp m n) (nat_cmp x y) (order xs ys)

-- the order of the front decides nothing else than the order of all
front_first : (j : ℕ) (xs ys : List ℕ) → ordering_then (order (take j xs) (take j ys)) (order xs ys) ≡ order xs ys
front_first zero xs ys = refl
front_first (suc j) [] [] = refl
front_first (suc j) [] (y ∷ ys) = refl
front_first (suc j) (x ∷ xs) [] = refl
front_first (suc j) (x ∷ xs) (y ∷ ys) = then_twice (nat_cmp x y) (order (take j xs) (take j ys)) (order xs ys) (front_first j xs ys)

-- two parts that cover all, where the second one may begin within the first
covered : (i j : ℕ) (xs ys : List ℕ) → i ≤ j → length xs ≡ length ys → ordering_then (order (take j xs) (take j ys)) (order (drop i xs) (drop i ys)) ≡ order xs ys
covered zero j xs ys le e = front_first j xs ys
covered (suc i) zero xs ys le e = absurd (omega (arith, le))
covered (suc i) (suc j) [] [] le e = refl
covered (suc i) (suc j) [] (y ∷ ys) le e = absurd (omega (arith, e))
covered (suc i) (suc j) (x ∷ xs) [] le e = absurd (omega (arith, e))
covered (suc i) (suc j) (x ∷ xs) (y ∷ ys) le e =
    then_assoc (nat_cmp x y) (order (take j xs) (take j ys)) (order (drop i xs) (drop i ys)) ∙ ap (λ (o : Ordering). ordering_then (nat_cmp x y) o) (covered i j xs ys (omega (arith, le)) (omega (arith, e)))

-- ---- zeros

-- zeros are not behind other bytes, and so with the two turned round
zeros_before : (xs ys : List ℕ) → length xs ≡ length ys → AreZerosFrom 0 xs → ordering_then (order xs ys) Less ≡ Less
zeros_before [] [] e h = refl
zeros_before [] (y ∷ ys) e h = refl
zeros_before (x ∷ xs) [] e h = absurd (omega (arith, e))
zeros_before (x ∷ xs) (y ∷ ys) e h =
    by_ranked (x < y) (x ≡ y) (y < x) (nat_cmp x y) (ranked x y _ refl)
    (λ is k. ap (λ (o : Ordering). ordering_then (ordering_then o (order xs ys)) Less) is)
    (λ is k. ap (λ (o : Ordering). ordering_then (ordering_then o (order xs ys)) Less) is ∙ zeros_before xs ys (omega (arith, e)) (λ i le. h (suc i) (omega arith)))
    (λ is k. absurd (omega (arith, k, h 0 (omega arith))))

zeros_behind : (xs ys : List ℕ) → length xs ≡ length ys → AreZerosFrom 0 ys → ordering_then (order xs ys) Greater ≡ Greater
zeros_behind [] [] e h = refl
zeros_behind [] (y ∷ ys) e h = absurd (omega (arith, e))
zeros_behind (x ∷ xs) [] e h = refl
zeros_behind (x ∷ xs) (y ∷ ys) e h =
    by_ranked (x < y) (x ≡ y) (y < x) (nat_cmp x y) (ranked x y _ refl)
    (λ is k. absurd (omega (arith, k, h 0 (omega arith))))
    (λ is k. ap (λ (o : Ordering). ordering_then (ordering_then o (order xs ys)) Greater) is ∙ zeros_behind xs ys (omega (arith, e)) (λ i le. h (suc i) (omega arith)))
    (λ is k. ap (λ (o : Ordering). ordering_then (ordering_then o (order xs ys)) Greater) is)

zeros_tied : (xs ys : List ℕ) → length xs ≡ length ys → AreZerosFrom 0 xs → AreZerosFrom 0 ys → order xs ys ≡ Equal
zeros_tied [] [] e h k = refl
zeros_tied [] (y ∷ ys) e h k = absurd (omega (arith, e))
zeros_tied (x ∷ xs) [] e h k = absurd (omega (arith, e))
zeros_tied (x ∷ xs) (y ∷ ys) e h k =
    ap (λ (o : Ordering). ordering_then o (order xs ys)) (tied x y (omega (arith, h 0 (omega arith), k 0 (omega arith))))
    ∙ zeros_tied xs ys (omega (arith, e)) (λ i le. h (suc i) (omega arith)) (λ i le. k (suc i) (omega arith))

-- what stands in front of zeros is ordered as all is, and then by its length
in_front : (m n : ℕ) (xs ys : List ℕ) → length xs ≡ length ys → m ≤ length xs → n ≤ length ys → AreZerosFrom m xs → AreZerosFrom n ys
    → ordering_then (order xs ys) (nat_cmp m n) ≡ order (take m xs) (take n ys)
in_front zero zero xs ys e p q h k = ap (λ (o : Ordering). ordering_then o (nat_cmp 0 0)) (zeros_tied xs ys e h k) ∙ tied 0 0 refl
in_front zero (suc n) xs [] e p q h k = absurd (omega (arith, q))
in_front zero (suc n) xs (y ∷ ys) e p q h k = ap (λ (o : Ordering). ordering_then (order xs (y ∷ ys)) o) (less zero (suc n) (omega arith)) ∙ zeros_before xs (y ∷ ys) e h
in_front (suc m) zero [] ys e p q h k = absurd (omega (arith, p))
in_front (suc m) zero (x ∷ xs) ys e p q h k = ap (λ (o : Ordering). ordering_then (order (x ∷ xs) ys) o) (greater (suc m) zero (omega arith)) ∙ zeros_behind (x ∷ xs) ys e k
in_front (suc m) (suc n) [] ys e p q h k = absurd (omega (arith, p))
in_front (suc m) (suc n) (x ∷ xs) [] e p q h k = absurd (omega (arith, q))
in_front (suc m) (suc n) (x ∷ xs) (y ∷ ys) e p q h k =
    ap (λ (o : Ordering). ordering_then (ordering_then (nat_cmp x y) (order xs ys)) o) (next m n)
    ∙ then_assoc (nat_cmp x y) (order xs ys) (nat_cmp m n)
    ∙ ap (λ (o : Ordering). ordering_then (nat_cmp x y) o) (in_front m n xs ys (omega (arith, e)) (omega (arith, p)) (omega (arith, q)) (λ i le. h (suc i) (omega (arith, le))) (λ i le. k (suc i) (omega (arith, le))))

-- ---- the words of fourteen bytes

first_more : (k i n : ℕ) (xs : List ℕ) → i < length xs → number_behind n (take (suc k) (drop i xs)) ≡ number_behind (n * 256 + get_or xs i 0) (take k (drop (i + 1) xs))
first_more k i n xs h = ap (λ (zs : List ℕ). number_behind n (take (suc k) zs)) (drop_more xs i 0 h)

last_more : (i n : ℕ) (xs : List ℕ) → i < length xs → number_behind n (drop i xs) ≡ number_behind (n * 256 + get_or xs i 0) (drop (i + 1) xs)
last_more i n xs h = ap (λ (zs : List ℕ). number_behind n zs) (drop_more xs i 0 h)

pub front_is : (xs : List ℕ) → length xs ≡ 14 → from_be_bytes w64 (get_or xs 0 0 ∷ get_or xs 1 0 ∷ get_or xs 2 0 ∷ get_or xs 3 0 ∷ get_or xs 4 0 ∷ get_or xs 5 0 ∷ get_or xs 6 0 ∷ get_or xs 7 0 ∷ []) ≡ number_behind 0 (take 8 xs)
front_is xs e =
    let spelt : number_behind 0 (take 8 xs) ≡ ((((((((0 * 256 + get_or xs 0 0) * 256 + get_or xs 1 0) * 256 + get_or xs 2 0) * 256 + get_or xs 3 0) * 256 + get_or xs 4 0) * 256 + get_or xs 5 0) * 256 + get_or xs 6 0) * 256 + get_or xs 7 0) =
    first_more 7 0 0 xs (omega (arith, e)) ∙ first_more 6 1 (0 * 256 + get_or xs 0 0) xs (omega (arith, e)) ∙ first_more 5 2 ((0 * 256 + get_or xs 0 0) * 256 + get_or xs 1 0) xs (omega (arith, e)) ∙ first_more 4 3 (((0 * 256 + get_or xs 0 0) * 256 + get_or xs 1 0) * 256 + get_or xs 2 0) xs (omega (arith, e)) ∙ first_more 3 4 ((((0 * 256 + get_or xs 0 0) * 256 + get_or xs 1 0) * 256 + get_or xs 2 0) * 256 + get_or xs 3 0) xs (omega (arith, e)) ∙ first_more 2 5 (((((0 * 256 + get_or xs 0 0) * 256 + get_or xs 1 0) * 256 + get_or xs 2 0) * 256 + get_or xs 3 0) * 256 + get_or xs 4 0) xs (omega (arith, e)) ∙ first_more 1 6 ((((((0 * 256 + get_or xs 0 0) * 256 + get_or xs 1 0) * 256 + get_or xs 2 0) * 256 + get_or xs 3 0) * 256 + get_or xs 4 0) * 256 + get_or xs 5 0) xs (omega (arith, e)) ∙ first_more 0 7 (((((((0 * 256 + get_or xs 0 0) * 256 + get_or xs 1 0) * 256 + get_or xs 2 0) * 256 + get_or xs 3 0) * 256 + get_or xs 4 0) * 256 + get_or xs 5 0) * 256 + get_or xs 6 0) xs (omega (arith, e)) in
    omega (arith, spelt)

pub back_is : (xs : List ℕ) → length xs ≡ 14 → from_be_bytes w64 (get_or xs 6 0 ∷ get_or xs 7 0 ∷ get_or xs 8 0 ∷ get_or xs 9 0 ∷ get_or xs 10 0 ∷ get_or xs 11 0 ∷ get_or xs 12 0 ∷ get_or xs 13 0 ∷ []) ≡ number_behind 0 (drop 6 xs)
back_is xs e =
    let spelt : number_behind 0 (drop 6 xs) ≡ ((((((((0 * 256 + get_or xs 6 0) * 256 + get_or xs 7 0) * 256 + get_or xs 8 0) * 256 + get_or xs 9 0) * 256 + get_or xs 10 0) * 256 + get_or xs 11 0) * 256 + get_or xs 12 0) * 256 + get_or xs 13 0) =
    last_more 6 0 xs (omega (arith, e)) ∙ last_more 7 (0 * 256 + get_or xs 6 0) xs (omega (arith, e)) ∙ last_more 8 ((0 * 256 + get_or xs 6 0) * 256 + get_or xs 7 0) xs (omega (arith, e)) ∙ last_more 9 (((0 * 256 + get_or xs 6 0) * 256 + get_or xs 7 0) * 256 + get_or xs 8 0) xs (omega (arith, e)) ∙ last_more 10 ((((0 * 256 + get_or xs 6 0) * 256 + get_or xs 7 0) * 256 + get_or xs 8 0) * 256 + get_or xs 9 0) xs (omega (arith, e)) ∙ last_more 11 (((((0 * 256 + get_or xs 6 0) * 256 + get_or xs 7 0) * 256 + get_or xs 8 0) * 256 + get_or xs 9 0) * 256 + get_or xs 10 0) xs (omega (arith, e)) ∙ last_more 12 ((((((0 * 256 + get_or xs 6 0) * 256 + get_or xs 7 0) * 256 + get_or xs 8 0) * 256 + get_or xs 9 0) * 256 + get_or xs 10 0) * 256 + get_or xs 11 0) xs (omega (arith, e)) ∙ last_more 13 (((((((0 * 256 + get_or xs 6 0) * 256 + get_or xs 7 0) * 256 + get_or xs 8 0) * 256 + get_or xs 9 0) * 256 + get_or xs 10 0) * 256 + get_or xs 11 0) * 256 + get_or xs 12 0) xs (omega (arith, e)) ∙ ap (λ (zs : List ℕ). number_behind ((((((((0 * 256 + get_or xs 6 0) * 256 + get_or xs 7 0) * 256 + get_or xs 8 0) * 256 + get_or xs 9 0) * 256 + get_or xs 10 0) * 256 + get_or xs 11 0) * 256 + get_or xs 12 0) * 256 + get_or xs 13 0) zs) (drop_all 14 xs (omega (arith, e))) in
    omega (arith, spelt)

AreBytes-take : (n : ℕ) (bytes : List ℕ) → AreBytes bytes → AreBytes (take n bytes)
AreBytes-take n bytes h i =
    elim (cases_lt i n) [
      | inl lt ↦ rw (get_or-take n bytes i 0 lt) (h i)
      | inr le ↦ rw (get_or_past (take n bytes) i 0 (omega (arith, length-take n bytes))) (omega arith)
    ]

AreBytes-drop : (n : ℕ) (bytes : List ℕ) → AreBytes bytes → AreBytes (drop n bytes)
AreBytes-drop n bytes h i = rw get_or-drop (h (n + i))

pub order_is : (xs ys us vs : List ℕ) (m n a b c d : ℕ) (r s t p q : Ordering) → length xs ≡ 14 → length ys ≡ 14 → AreBytes xs → AreBytes ys
    → (m ≤ 14) × AreZerosFrom m xs → (n ≤ 14) × AreZerosFrom n ys
    → a ≡ number_behind 0 (take 8 xs) → b ≡ number_behind 0 (take 8 ys) → c ≡ number_behind 0 (drop 6 xs) → d ≡ number_behind 0 (drop 6 ys)
    → r ≡ nat_cmp a b → s ≡ nat_cmp c d → t ≡ nat_cmp m n → p ≡ ordering_then r s → q ≡ ordering_then p t
    → us ≡ take m xs → vs ≡ take n ys → q ≡ slice_cmp nat_cmp us vs
order_is xs ys us vs m n a b c d r s t p q e f bytes others padded padding is_a is_b is_c is_d is_r is_s is_t is_p is_q is_us is_vs =
    let first : nat_cmp (number_behind 0 (take 8 xs)) (number_behind 0 (take 8 ys)) ≡ order (take 8 xs) (take 8 ys) =
    words (take 8 xs) (take 8 ys) 0 0 (omega (arith, length-take 8 xs, length-take 8 ys, e, f)) (AreBytes-take 8 xs bytes) (AreBytes-take 8 ys others) in
    let first_is : r ≡ order (take 8 xs) (take 8 ys) =
    is_r ∙ ap (λ (z : ℕ). nat_cmp z b) is_a ∙ ap (λ (z : ℕ). nat_cmp (number_behind 0 (take 8 xs)) z) is_b ∙ first in
    let second : nat_cmp (number_behind 0 (drop 6 xs)) (number_behind 0 (drop 6 ys)) ≡ order (drop 6 xs) (drop 6 ys) =
    words (drop 6 xs) (drop 6 ys) 0 0 (omega (arith, length-drop 6 xs, length-drop 6 ys, e, f)) (AreBytes-drop 6 xs bytes) (AreBytes-drop 6 ys others) in
    let second_is : s ≡ order (drop 6 xs) (drop 6 ys) =
    is_s ∙ ap (λ (z : ℕ). nat_cmp z d) is_c ∙ ap (λ (z : ℕ). nat_cmp (number_behind 0 (drop 6 xs)) z) is_d ∙ second in
    let both : p ≡ order xs ys =
    is_p ∙ ap (λ (o : Ordering). ordering_then o s) first_is ∙ ap (λ (o : Ordering). ordering_then (order (take 8 xs) (take 8 ys)) o) second_is
    ∙ covered 6 8 xs ys (omega arith) (omega (arith, e, f)) in
    is_q ∙ ap (λ (o : Ordering). ordering_then o t) both ∙ ap (λ (o : Ordering). ordering_then (order xs ys) o) is_t
    ∙ in_front m n xs ys (omega (arith, e, f)) (omega (arith, e, padded.0)) (omega (arith, f, padding.0)) padded.1 padding.1
    ∙ ap (λ (l : List ℕ). order l (take n ys)) (sym is_us) ∙ ap (λ (l : List ℕ). order us l) (sym is_vs)

-- the order of two words and of the lengths
abbrev words_order : (m n a b c d : ℕ) → Ordering
words_order m n a b c d = ordering_then (ordering_then (nat_cmp a b) (nat_cmp c d)) (nat_cmp m n)

words_order_is : (xs ys us vs : List ℕ) (m n a b c d : ℕ) → length xs ≡ 14 → length ys ≡ 14 → AreBytes xs → AreBytes ys
    → (m ≤ 14) × AreZerosFrom m xs → (n ≤ 14) × AreZerosFrom n ys
    → a ≡ number_behind 0 (take 8 xs) → b ≡ number_behind 0 (take 8 ys) → c ≡ number_behind 0 (drop 6 xs) → d ≡ number_behind 0 (drop 6 ys)
    → us ≡ take m xs → vs ≡ take n ys → words_order m n a b c d ≡ slice_cmp nat_cmp us vs
words_order_is xs ys us vs m n a b c d e f bytes others padded padding is_a is_b is_c is_d is_us is_vs =
    order_is xs ys us vs m n a b c d (nat_cmp a b) (nat_cmp c d) (nat_cmp m n) (ordering_then (nat_cmp a b) (nat_cmp c d)) (words_order m n a b c d)
    e f bytes others padded padding is_a is_b is_c is_d refl refl refl refl refl is_us is_vs

-- first words that differ decide
pub first_decides : (xs ys us vs : List ℕ) (m n a b : ℕ) (q : Ordering) → length xs ≡ 14 → length ys ≡ 14 → AreBytes xs → AreBytes ys
    → (m ≤ 14) × AreZerosFrom m xs → (n ≤ 14) × AreZerosFrom n ys
    → a ≡ number_behind 0 (take 8 xs) → b ≡ number_behind 0 (take 8 ys)
    → us ≡ take m xs → vs ≡ take n ys → (a ≡ b → ⊥) → q ≡ nat_cmp a b → q ≡ slice_cmp nat_cmp us vs
first_decides xs ys us vs m n a b q e f bytes others padded padding is_a is_b is_us is_vs differ is_q =
    is_q ∙ untied_first (nat_cmp a b) (nat_cmp (number_behind 0 (drop 6 xs)) (number_behind 0 (drop 6 ys))) (nat_cmp m n) (untied a b differ)
    ∙ words_order_is xs ys us vs m n a b (number_behind 0 (drop 6 xs)) (number_behind 0 (drop 6 ys)) e f bytes others padded padding is_a is_b refl refl is_us is_vs

-- equal first words leave the others and the lengths
pub last_decides : (xs ys us vs : List ℕ) (m n a b c d : ℕ) (s t q : Ordering) → length xs ≡ 14 → length ys ≡ 14 → AreBytes xs → AreBytes ys
    → (m ≤ 14) × AreZerosFrom m xs → (n ≤ 14) × AreZerosFrom n ys
    → a ≡ number_behind 0 (take 8 xs) → b ≡ number_behind 0 (take 8 ys) → c ≡ number_behind 0 (drop 6 xs) → d ≡ number_behind 0 (drop 6 ys)
    → us ≡ take m xs → vs ≡ take n ys → a ≡ b → s ≡ nat_cmp c d → t ≡ nat_cmp m n → q ≡ ordering_then s t → q ≡ slice_cmp nat_cmp us vs
last_decides xs ys us vs m n a b c d s t q e f bytes others padded padding is_a is_b is_c is_d is_us is_vs same is_s is_t is_q =
    is_q ∙ ap (λ (o : Ordering). ordering_then o t) is_s ∙ ap (λ (o : Ordering). ordering_then (nat_cmp c d) o) is_t
    ∙ tied_first (nat_cmp a b) (nat_cmp c d) (nat_cmp m n) (ap is_eq (tied a b same))
    ∙ words_order_is xs ys us vs m n a b c d e f bytes others padded padding is_a is_b is_c is_d is_us is_vs

-- bytes are equal where the words and the lengths are
pub equal_is : (xs ys us vs : List ℕ) (m n a b c d : ℕ) → length xs ≡ 14 → length ys ≡ 14 → AreBytes xs → AreBytes ys
    → (m ≤ 14) × AreZerosFrom m xs → (n ≤ 14) × AreZerosFrom n ys
    → a ≡ number_behind 0 (take 8 xs) → b ≡ number_behind 0 (take 8 ys) → c ≡ number_behind 0 (drop 6 xs) → d ≡ number_behind 0 (drop 6 ys)
    → us ≡ take m xs → vs ≡ take n ys → (nat_eq a b && nat_eq c d && nat_eq m n) ≡ pointwise nat_eq us vs
equal_is xs ys us vs m n a b c d e f bytes others padded padding is_a is_b is_c is_d is_us is_vs =
    both_tied _ _ _ _ (both_tied _ _ _ _ (unsigned_ties a b) (unsigned_ties c d)) (unsigned_ties m n)
    ∙ ap is_eq (words_order_is xs ys us vs m n a b c d e f bytes others padded padding is_a is_b is_c is_d is_us is_vs)
    ∙ sym (lists_ties nat_cmp unsigned_ties us vs)

-- The greatest number of a list, gathered lane by lane and one by one.
use Rattle.std.proofs.Common.{◌≡◌, ℕ, ◌+◌, ◌<◌, ◌≤◌, zero, suc, max, Bool, true, false, cond, ◌||◌, ◌==◌, List, [], ◌∷◌, ◌++◌, length, get_or, take, map, replicate, refl, sym, ap, ◌∙◌, subst, ⊎_elim, arith}
use Rattle.std.specs.List.{list_any, zip, Contains}
use Rattle.std.specs.Simd.Lanes.{zip2, chunk}
use Rattle.std.proofs.lemmas.Simd.{length-chunk, get_or-chunk, length-zip2, get_or-zip2, get_or-replicate}
use Rattle.std.proofs.lemmas.List.{take_more}
use Rattle.std.proofs.lemmas.Bool.{cases_lt}
use Rattle.acc_lanes.proofs.Members.{there}
use Rattle.acc_lanes.specs.Pairs.{pair_eq}
use Rattle.acc_lanes.specs.Vectors.{HasLanes, greatest_number}

-- lists with the same elements at the same places
pub same_list : {X : Type 0} (xs ys : List X) (d : X) → length xs ≡ length ys → ((k : ℕ) → k < length ys → get_or xs k d ≡ get_or ys k d) → xs ≡ ys
same_list [] [] d long each = refl
same_list [] (y ∷ ys) d long each = absurd (omega arith)
same_list (x ∷ xs) [] d long each = absurd (omega arith)
same_list (x ∷ xs) (y ∷ ys) d long each =
    let rest = same_list xs ys d (omega arith) (λ k l. each (suc k) (omega arith)) in
    let first = each 0 (omega arith) in
    λ i. first i ∷ rest i

-- what is told of each place of two columns is told of the pairs
pub told_of_pairs : {Z : Type 0} (f : ℕ × ℕ → Z) (hs os : List ℕ) (out : List Z) (d : Z) → length os ≡ length hs → length out ≡ length hs
    → ((k : ℕ) → k < length hs → get_or out k d ≡ f (get_or hs k 0, get_or os k 0)) → out ≡ map f (zip hs os)
told_of_pairs f [] os [] d p q each = refl
told_of_pairs f [] os (z ∷ out) d p q each = absurd (omega arith)
told_of_pairs f (h ∷ hs) [] out d p q each = absurd (omega arith)
told_of_pairs f (h ∷ hs) (o ∷ os) [] d p q each = absurd (omega arith)
told_of_pairs f (h ∷ hs) (o ∷ os) (z ∷ out) d p q each =
    let rest = told_of_pairs f hs os out d (omega arith) (omega arith) (λ k l. each (suc k) (omega arith)) in
    let first = each 0 (omega arith) in
    λ i. first i ∷ rest i

pub length_pairs : (hs os : List ℕ) → length os ≡ length hs → length (zip hs os) ≡ length hs
length_pairs [] os p = refl
length_pairs (h ∷ hs) [] p = absurd (omega arith)
length_pairs (h ∷ hs) (o ∷ os) p = ap suc (length_pairs hs os (omega arith))

pub pair_at : (hs os : List ℕ) (k : ℕ) → length os ≡ length hs → k < length hs → get_or (zip hs os) k (0, 0) ≡ (get_or hs k 0, get_or os k 0)
pair_at [] os k p l = absurd (omega arith)
pair_at (h ∷ hs) [] k p l = absurd (omega arith)
pair_at (h ∷ hs) (o ∷ os) zero p l = refl
pair_at (h ∷ hs) (o ∷ os) (suc k) p l = pair_at hs os k (omega arith) (omega arith)

-- ---- the greatest of joined lists

max_assoc : (a b c : ℕ) → max a (max b c) ≡ max (max a b) c
max_assoc a b c = omega arith

pub greatest-append : (xs ys : List ℕ) → greatest_number (xs ++ ys) ≡ max (greatest_number xs) (greatest_number ys)
greatest-append [] ys = omega arith
greatest-append (x ∷ xs) ys = ap (max x) (greatest-append xs ys) ∙ max_assoc x (greatest_number xs) (greatest_number ys)

max_swap : (a b c d : ℕ) → max (max a b) (max c d) ≡ max (max a c) (max b d)
max_swap a b c d = omega arith

greatest-zip2 : (xs ys : List ℕ) → length xs ≡ length ys → greatest_number (zip2 max xs ys) ≡ max (greatest_number xs) (greatest_number ys)
greatest-zip2 [] [] p = refl
greatest-zip2 [] (y ∷ ys) p = absurd (omega arith)
greatest-zip2 (x ∷ xs) [] p = absurd (omega arith)
greatest-zip2 (x ∷ xs) (y ∷ ys) p =
    ap (max (max x y)) (greatest-zip2 xs ys (omega arith)) ∙ max_swap x y (greatest_number xs) (greatest_number ys)

front_and_chunk : (xs : List ℕ) (at n : ℕ) → at + n ≤ length xs → take (at + n) xs ≡ take at xs ++ chunk at n xs
front_and_chunk xs zero n l = let e : zero + n ≡ n = omega arith in ap (λ m. take m xs) e
front_and_chunk [] (suc at) n l = absurd (omega arith)
front_and_chunk (x ∷ xs) (suc at) n l =
    let e : suc at + n ≡ suc (at + n) = omega arith in
    ap (λ m. take m (x ∷ xs)) e ∙ ap (λ zs. x ∷ zs) (front_and_chunk xs at n (omega arith))

pub greatest_zeros : (v : List ℕ) → HasLanes v (λ _. 0) → greatest_number v ≡ 0
greatest_zeros v h = ap greatest_number (same_list v (replicate 8 0) 0 h.long (λ k l. h.each k l ∙ sym (get_or-replicate 8 k 0 0 l)))

-- one step of eight numbers: the lanes hold the numbers from `at` on, and the greatest of each lane is kept
pub step : (xs best lanes after : List ℕ) (at : ℕ) → at + 8 ≤ length xs → length best ≡ 8
    → HasLanes lanes (λ k. get_or xs (at + k) 0) → HasLanes after (λ k. max (get_or best k 0) (get_or lanes k 0))
    → greatest_number best ≡ greatest_number (take at xs) → greatest_number after ≡ greatest_number (take (at + 8) xs)
step xs best lanes after at l long here kept so_far =
    let wide = length-chunk at 8 xs l in
    let is_chunk : lanes ≡ chunk at 8 xs = same_list lanes (chunk at 8 xs) 0 (here.long ∙ sym wide) (λ k m. here.each k (omega arith) ∙ sym (get_or-chunk at 8 xs k 0 (omega arith))) in
    let even : length best ≡ length lanes = long ∙ sym here.long in
    let joined = length-zip2 max best lanes even in
    let is_joined : after ≡ zip2 max best lanes = same_list after (zip2 max best lanes) 0 (kept.long ∙ sym (joined ∙ long))
    (λ k m. kept.each k (omega arith) ∙ sym (get_or-zip2 max best lanes k 0 0 0 (omega arith) (omega arith))) in
    ap greatest_number is_joined ∙ greatest-zip2 best lanes even
    ∙ (λ i. max (so_far i) (greatest_number (is_chunk i)))
    ∙ sym (greatest-append (take at xs) (chunk at 8 xs)) ∙ ap greatest_number (sym (front_and_chunk xs at 8 l))

-- one step of one number
pub step_one : (xs : List ℕ) (at greatest : ℕ) → at < length xs → greatest ≡ greatest_number (take at xs)
    → max greatest (get_or xs at 0) ≡ greatest_number (take (at + 1) xs)
step_one xs at greatest l so_far =
    let added : max (greatest_number (take at xs)) (get_or xs at 0) ≡ greatest_number (take at xs ++ get_or xs at 0 ∷ []) = omega (arith, greatest-append (take at xs) (get_or xs at 0 ∷ [])) in
    ap (λ g. max g (get_or xs at 0)) so_far ∙ added ∙ ap greatest_number (sym (take_more xs at 0 l))

-- ---- flags: 1 where a test is passed

pub is_flag : (b : Bool) → (cond b 1 0 == 1) ≡ b
is_flag true = refl
is_flag false = refl

pub greatest_flag : {X : Type 0} (p : X → Bool) (xs : List X) → greatest_number (map (λ x. cond (p x) 1 0) xs) ≡ cond (list_any p xs) 1 0
greatest_flag p [] = refl
greatest_flag p (x ∷ xs) =
    elim (p x) as (λ b. max (cond b 1 0) (greatest_number (map (λ x. cond (p x) 1 0) xs)) ≡ cond (b || list_any p xs) 1 0) [
      | true ↦ ap (max 1) (greatest_flag p xs) ∙ one (list_any p xs)
      | false ↦ ap (max 0) (greatest_flag p xs) ∙ same (list_any p xs)
    ]
  where
    one : (b : Bool) → max 1 (cond b 1 0) ≡ 1
    one true = refl
    one false = refl

    same : (b : Bool) → max 0 (cond b 1 0) ≡ cond b 1 0
    same true = refl
    same false = refl

-- ---- a bound of all is one of the greatest

pub greatest_below : (xs : List ℕ) (n : ℕ) → 0 < n → ((k : ℕ) → get_or xs k 0 < n) → greatest_number xs < n
greatest_below [] n some f = some
greatest_below (x ∷ xs) n some f = omega (arith, f 0, greatest_below xs n some (λ k. f (suc k)))

-- ---- the greatest is an element, and no element is greater

pub greatest_above : (xs : List ℕ) (x : ℕ) → Contains xs x → x ≤ greatest_number xs
greatest_above xs x c = at_place xs c.0 x c.1 c.2
  where
    at_place : (xs : List ℕ) (k x : ℕ) → k < length xs → get_or xs k x ≡ x → x ≤ greatest_number xs
    at_place [] k x l e = absurd (omega arith)
    at_place (y ∷ xs) zero x l e = omega arith
    at_place (y ∷ xs) (suc k) x l e = omega (arith, at_place xs k x (omega arith) e)

pub greatest_among : (xs : List ℕ) → 0 < length xs → Contains xs (greatest_number xs)
greatest_among [] l = absurd (omega arith)
greatest_among (x ∷ []) l = (0, omega arith, omega arith)
greatest_among (x ∷ y ∷ xs) l =
    let rest = greatest_among (y ∷ xs) (omega arith) in
    ⊎_elim
    (λ lt. let e : max x (greatest_number (y ∷ xs)) ≡ greatest_number (y ∷ xs) = omega arith in
    subst (Contains (x ∷ y ∷ xs)) (sym e) (there x (y ∷ xs) (greatest_number (y ∷ xs)) rest))
    (λ le. let e : x ≡ max x (greatest_number (y ∷ xs)) = omega arith in (0, omega arith, e))
    (cases_lt x (greatest_number (y ∷ xs)))

-- ---- one stamp sought in two columns

abbrev pub flags_of : ℕ × ℕ → List ℕ → List ℕ → List ℕ
flags_of stamp hs os = map (λ s. cond (pair_eq s stamp) 1 0) (zip hs os)

pub flag_length : (stamp : ℕ × ℕ) (hs os : List ℕ) → length os ≡ length hs → length (flags_of stamp hs os) ≡ length hs
flag_length stamp [] os p = refl
flag_length stamp (h ∷ hs) [] p = absurd (omega arith)
flag_length stamp (h ∷ hs) (o ∷ os) p = ap suc (flag_length stamp hs os (omega arith))

pub flag_at : (stamp : ℕ × ℕ) (hs os : List ℕ) (k : ℕ) → length os ≡ length hs → k < length hs → get_or (flags_of stamp hs os) k 0 ≡ cond (pair_eq (get_or hs k 0, get_or os k 0) stamp) 1 0
flag_at stamp [] os k p l = absurd (omega arith)
flag_at stamp (h ∷ hs) [] k p l = absurd (omega arith)
flag_at stamp (h ∷ hs) (o ∷ os) zero p l = refl
flag_at stamp (h ∷ hs) (o ∷ os) (suc k) p l = flag_at stamp hs os k (omega arith) (omega arith)

flag_is_one : (b : Bool) → cond {A = ℕ} b 1 0 ≡ 1 → b ≡ true
flag_is_one true e = refl
flag_is_one false e = absurd (omega arith)

flag_is_zero : (b : Bool) → cond {A = ℕ} b 1 0 ≡ 0 → b ≡ false
flag_is_zero true e = absurd (omega arith)
flag_is_zero false e = refl

greatest-take : (xs : List ℕ) (n : ℕ) → greatest_number (take n xs) ≤ greatest_number xs
greatest-take xs zero = omega arith
greatest-take [] (suc n) = omega arith
greatest-take (x ∷ xs) (suc n) = omega (arith, greatest-take xs n)

flag_at_most : (b : Bool) → cond {A = ℕ} b 1 0 ≤ 1
flag_at_most true = omega arith
flag_at_most false = omega arith

pub found_in_front : (stamp : ℕ × ℕ) (hs os : List ℕ) (n : ℕ) → length os ≡ length hs → greatest_number (take n (flags_of stamp hs os)) ≡ 1 → list_any (λ s. pair_eq s stamp) (zip hs os) ≡ true
found_in_front stamp hs os n p one =
    let whole = greatest_flag (λ s. pair_eq s stamp) (zip hs os) in
    let most = flag_at_most (list_any (λ s. pair_eq s stamp) (zip hs os)) in
    let least = greatest-take (flags_of stamp hs os) n in
    flag_is_one _ (omega arith)

pub none_in_front : (stamp : ℕ × ℕ) (hs os : List ℕ) (n : ℕ) → (greatest_number (take n (flags_of stamp hs os)) ≡ 1 → ⊥) → greatest_number (take n (flags_of stamp hs os)) ≡ 0
none_in_front stamp hs os n f =
    let whole = greatest_flag (λ s. pair_eq s stamp) (zip hs os) in
    let most = flag_at_most (list_any (λ s. pair_eq s stamp) (zip hs os)) in
    let least = greatest-take (flags_of stamp hs os) n in
    omega arith

pub none_found : (stamp : ℕ × ℕ) (hs os : List ℕ) → 0 ≡ greatest_number (flags_of stamp hs os) → list_any (λ s. pair_eq s stamp) (zip hs os) ≡ false
none_found stamp hs os none = flag_is_zero _ (sym (greatest_flag (λ s. pair_eq s stamp) (zip hs os)) ∙ sym none)

-- The greatest of the chosen stamps is made of the greatest chosen h and the greatest origin that is chosen with it.
use Rattle.std.proofs.Common.{◌≡◌, ◌==◌, ℕ, ◌<◌, ◌≤◌, zero, suc, max, Bool, true, false, ◌&&◌, cond, List, [], ◌∷◌, length, get_or, map, refl, sym, ap, subst, ◌∙◌, arith, eqb-true, eq-eqb}
use Rattle.std.specs.List.{Contains, filter, zip, list_any}
use Rattle.std.specs.Bool.{beq}
use Rattle.std.proofs.lemmas.Bool.{true≢false, false_from_ne_true}
use Rattle.std.proofs.lemmas.Bool.Decides.{nat_tests}
use Rattle.acc_lanes.specs.Pairs.{pair_le, chosen}
use Rattle.acc_lanes.specs.Greatest.{IsGreatest}
use Rattle.acc_lanes.specs.Vectors.{greatest_number, heights_chosen, origins_chosen}
use Rattle.acc_lanes.proofs.Members.{Contains-map, Contains-from_map, Contains-filter, Contains-from_filter, greatest_from}
use Rattle.std.proofs.lemmas.List.{length-map}
use Rattle.acc_lanes.proofs.Numbers.{greatest_above, greatest_among, length_pairs}

-- ---- the columns of the chosen stamps, with 0 for the others

pub length-heights_chosen : (ms : List Bool) (hs : List ℕ) → length ms ≡ length hs → length (heights_chosen ms hs) ≡ length hs
length-heights_chosen [] [] p = refl
length-heights_chosen [] (h ∷ hs) p = absurd (omega arith)
length-heights_chosen (m ∷ ms) [] p = absurd (omega arith)
length-heights_chosen (m ∷ ms) (h ∷ hs) p = ap suc (length-heights_chosen ms hs (omega arith))

pub get_or-heights_chosen : (ms : List Bool) (hs : List ℕ) (k : ℕ) → length ms ≡ length hs → get_or (heights_chosen ms hs) k 0 ≡ cond (get_or ms k false) (get_or hs k 0) 0
get_or-heights_chosen [] hs k p = refl
get_or-heights_chosen (m ∷ ms) [] k p = absurd (omega arith)
get_or-heights_chosen (m ∷ ms) (h ∷ hs) zero p = refl
get_or-heights_chosen (m ∷ ms) (h ∷ hs) (suc k) p = get_or-heights_chosen ms hs k (omega arith)

pub length-origins_chosen : (t : ℕ) (ms : List Bool) (hs os : List ℕ) → length ms ≡ length hs → length os ≡ length hs → length (origins_chosen t ms hs os) ≡ length hs
length-origins_chosen t [] [] os p q = refl
length-origins_chosen t [] (h ∷ hs) os p q = absurd (omega arith)
length-origins_chosen t (m ∷ ms) [] os p q = absurd (omega arith)
length-origins_chosen t (m ∷ ms) (h ∷ hs) [] p q = absurd (omega arith)
length-origins_chosen t (m ∷ ms) (h ∷ hs) (o ∷ os) p q = ap suc (length-origins_chosen t ms hs os (omega arith) (omega arith))

pub get_or-origins_chosen : (t : ℕ) (ms : List Bool) (hs os : List ℕ) (k : ℕ) → length ms ≡ length hs → length os ≡ length hs
    → get_or (origins_chosen t ms hs os) k 0 ≡ cond (get_or ms k false && (get_or hs k 0 == t)) (get_or os k 0) 0
get_or-origins_chosen t [] hs os k p q = refl
get_or-origins_chosen t (m ∷ ms) [] os k p q = absurd (omega arith)
get_or-origins_chosen t (m ∷ ms) (h ∷ hs) [] k p q = absurd (omega arith)
get_or-origins_chosen t (m ∷ ms) (h ∷ hs) (o ∷ os) zero p q = refl
get_or-origins_chosen t (m ∷ ms) (h ∷ hs) (o ∷ os) (suc k) p q = get_or-origins_chosen t ms hs os k (omega arith) (omega arith)

pub both_or_none : (m : Bool) (h t o : ℕ) → m ≡ true → h ≡ t → cond (m && (h == t)) o 0 ≡ o
both_or_none m h t o p q = ap (λ b. cond (b && (h == t)) o 0) p ∙ ap (λ b. cond b o 0) (eq-eqb h t q)

pub only_other : (m : Bool) (h t o : ℕ) → (h ≡ t → ⊥) → cond (m && (h == t)) o 0 ≡ 0
only_other true h t o f = ap (λ b. cond b o 0) (false_from_ne_true (h == t) (λ e. f (eqb-true h t e)))
only_other false h t o f = refl

pub origins-fit : (t : ℕ) (ms : List Bool) (hs os : List ℕ) (n : ℕ) → 0 < n → ((k : ℕ) → get_or os k 0 < n) → greatest_number (origins_chosen t ms hs os) < n
origins-fit t [] hs os n some f = some
origins-fit t (m ∷ ms) [] os n some f = some
origins-fit t (m ∷ ms) (h ∷ hs) [] n some f = some
origins-fit t (m ∷ ms) (h ∷ hs) (o ∷ os) n some f =
    let rest = origins-fit t ms hs os n some (λ k. f (suc k)) in
    omega (arith, f 0, kept_below (m && (h == t)) o n some (f 0))
  where
    kept_below : (b : Bool) (o n : ℕ) → 0 < n → o < n → cond b o 0 < n
    kept_below true o n some l = l
    kept_below false o n some l = some

-- ---- the same, without the others

heights_kept : (ms : List Bool) (hs os : List ℕ) → length ms ≡ length hs → length os ≡ length hs
    → greatest_number (heights_chosen ms hs) ≡ greatest_number (map (λ (s : ℕ × ℕ). s.0) (chosen ms (zip hs os)))
heights_kept [] hs os p q = refl
heights_kept (m ∷ ms) [] os p q = absurd (omega arith)
heights_kept (m ∷ ms) (h ∷ hs) [] p q = absurd (omega arith)
heights_kept (true ∷ ms) (h ∷ hs) (o ∷ os) p q = ap (max h) (heights_kept ms hs os (omega arith) (omega arith))
heights_kept (false ∷ ms) (h ∷ hs) (o ∷ os) p q = omega (arith, heights_kept ms hs os (omega arith) (omega arith))

abbrev with_height : ℕ → List (ℕ × ℕ) → List ℕ
with_height t ks = map (λ s. s.1) (filter (λ s. s.0 == t) ks)

origins_kept : (t : ℕ) (ms : List Bool) (hs os : List ℕ) → length ms ≡ length hs → length os ≡ length hs
    → greatest_number (origins_chosen t ms hs os) ≡ greatest_number (with_height t (chosen ms (zip hs os)))
origins_kept t [] hs os p q = refl
origins_kept t (m ∷ ms) [] os p q = absurd (omega arith)
origins_kept t (m ∷ ms) (h ∷ hs) [] p q = absurd (omega arith)
origins_kept t (true ∷ ms) (h ∷ hs) (o ∷ os) p q =
    let rest = origins_kept t ms hs os (omega arith) (omega arith) in
    elim (h == t) as (λ b. max (cond b o 0) (greatest_number (origins_chosen t ms hs os)) ≡ greatest_number (map (λ (s : ℕ × ℕ). s.1) (cond b ((h, o) ∷ filter (λ s. s.0 == t) (chosen ms (zip hs os))) (filter (λ s. s.0 == t) (chosen ms (zip hs os)))))) [
      | true ↦ ap (max o) rest
      | false ↦ omega (arith, rest)
    ]
origins_kept t (false ∷ ms) (h ∷ hs) (o ∷ os) p q = omega (arith, origins_kept t ms hs os (omega arith) (omega arith))

-- ---- whether some stamp is chosen

pub none_chosen : {X : Type 0} (ms : List Bool) (xs : List X) → list_any (λ m. beq m true) ms ≡ false → chosen ms xs ≡ []
none_chosen [] xs e = refl
none_chosen (m ∷ ms) [] e = refl
none_chosen (true ∷ ms) (x ∷ xs) e = absurd (true≢false e)
none_chosen (false ∷ ms) (x ∷ xs) e = none_chosen ms xs e

pub some_chosen : {X : Type 0} (ms : List Bool) (xs : List X) → length ms ≡ length xs → list_any (λ m. beq m true) ms ≡ true → 0 < length (chosen ms xs)
some_chosen [] xs p e = absurd (true≢false (sym e))
some_chosen (m ∷ ms) [] p e = absurd (omega arith)
some_chosen (true ∷ ms) (x ∷ xs) p e = omega arith
some_chosen (false ∷ ms) (x ∷ xs) p e = some_chosen ms xs (omega arith) e

-- ---- the greatest

same_pair : (s : ℕ × ℕ) (t u : ℕ) → s.0 ≡ t → s.1 ≡ u → s ≡ (t, u)
same_pair s t u p q = λ i. (p i, q i)

holds_some : {X : Type 0} (xs : List X) (x : X) → Contains xs x → 0 < length xs
holds_some xs x c = omega (arith, c.1)

le_by_height : (x : ℕ × ℕ) (t u : ℕ) → x.0 ≤ t → (x.0 ≡ t → x.1 ≤ u) → pair_le x (t, u) ≡ true
le_by_height x t u p q = grind (arith, nat_tests)

greatest_of_kept : (ks : List (ℕ × ℕ)) (t u : ℕ) → 0 < length ks → t ≡ greatest_number (map (λ s. s.0) ks) → u ≡ greatest_number (with_height t ks) → IsGreatest pair_le ks (t, u)
greatest_of_kept ks t u some high low =
    let tops = greatest_among (map (λ s. s.0) ks) (omega (arith, length-map {A = ℕ × ℕ} {B = ℕ})) in
    let top = Contains-from_map (λ (s : ℕ × ℕ). s.0) ks t (subst (Contains (map (λ s. s.0) ks)) (sym high) tops) in
    let kept = Contains-map (λ (s : ℕ × ℕ). s.1) (filter (λ s. s.0 == t) ks) top.0 (Contains-filter (λ s. s.0 == t) ks top.0 top.1 (eq-eqb top.0.0 t top.2)) in
    let lows = greatest_among (with_height t ks) (holds_some _ _ kept) in
    let last = Contains-from_map (λ (s : ℕ × ℕ). s.1) (filter (λ s. s.0 == t) ks) u (subst (Contains (with_height t ks)) (sym low) lows) in
    let found = Contains-from_filter (λ s. s.0 == t) ks last.0 last.1 in
    greatest_from pair_le ks (t, u)
    (subst (Contains ks) (same_pair last.0 t u (eqb-true last.0.0 t found.1) last.2) found.0)
    (λ x c.
    let under : x.0 ≤ t = subst (λ z. x.0 ≤ z) (sym high) (greatest_above (map (λ s. s.0) ks) x.0 (Contains-map (λ s. s.0) ks x c)) in
    let tied : x.0 ≡ t → x.1 ≤ u = λ e. subst (λ z. x.1 ≤ z) (sym low) (greatest_above (with_height t ks) x.1 (Contains-map (λ s. s.1) (filter (λ s. s.0 == t) ks) x (Contains-filter (λ s. s.0 == t) ks x c (eq-eqb x.0 t e)))) in
    le_by_height x t u under tied)

pub greatest_chosen : (ms : List Bool) (hs os : List ℕ) (t u : ℕ) → length ms ≡ length hs → length os ≡ length hs → list_any (λ m. beq m true) ms ≡ true
    → t ≡ greatest_number (heights_chosen ms hs) → u ≡ greatest_number (origins_chosen t ms hs os) → IsGreatest pair_le (chosen ms (zip hs os)) (t, u)
greatest_chosen ms hs os t u p q some high low =
    greatest_of_kept (chosen ms (zip hs os)) t u (some_chosen ms (zip hs os) (p ∙ sym (length_pairs hs os q)) some) (high ∙ heights_kept ms hs os p q) (low ∙ origins_kept t ms hs os p q)

-- What the operations on vectors of eight numbers hold at each lane.
use Rattle.std.proofs.Common.{◌≡◌, ℕ, ◌<◌, zero, suc, Bool, false, cond, List, [], ◌∷◌, length, get_or, map, replicate, refl, sym, ap, subst, ◌∙◌, arith, w64, ◌^◌, ◌-◌}
use Rattle.std.specs.Simd.Lanes.{zip2, sel_l, top}
use Rattle.std.proofs.lemmas.Simd.{length-zip2, get_or-zip2, get_or-replicate, length-sel_l, get_or-sel_l, tops_compared}
use Rattle.acc_lanes.specs.Vectors.{HasLanes}

-- the same lanes, told otherwise
pub HasLanes-like : (v : List ℕ) (f g : ℕ → ℕ) → HasLanes v f → ((k : ℕ) → k < 8 → f k ≡ g k) → HasLanes v g
HasLanes-like v f g h same = record { long = h.long; each = λ k l. h.each k l ∙ same k l }

-- a choice of two vectors by a test of the lanes of two others
HasLanes-selected : (t : ℕ → ℕ → Bool) (a b on off : List ℕ) → length a ≡ 8 → length b ≡ 8 → length on ≡ 8 → length off ≡ 8
    → HasLanes (sel_l (zip2 t a b) on off) (λ k. cond (t (get_or a k 0) (get_or b k 0)) (get_or on k 0) (get_or off k 0))
HasLanes-selected t a b on off p q y n =
    let long : length (zip2 t a b) ≡ 8 = length-zip2 t a b (p ∙ sym q) ∙ p in
    record {
      long = length-sel_l _ on off (long ∙ sym y) (long ∙ sym n) ∙ long;
      each = λ k l.
          get_or-sel_l _ on off k 0 (omega arith) (omega arith) (omega arith)
          ∙ ap (λ c. cond c (get_or on k 0) (get_or off k 0)) (get_or-zip2 t a b k 0 0 false (omega arith) (omega arith));
    }

abbrev tested : (ℕ → ℕ → Bool) → List ℕ → List ℕ → List ℕ → List ℕ → List ℕ
tested t a b on off = sel_l (map (top 63) (zip2 (λ x y. cond (t x y) (2 ^ 64 - 1) 0) a b)) on off

pub HasLanes-select : (t : ℕ → ℕ → Bool) (a b on off : List ℕ) → length a ≡ 8 → length b ≡ 8 → length on ≡ 8 → length off ≡ 8
    → HasLanes (tested t a b on off) (λ k. cond (t (get_or a k 0) (get_or b k 0)) (get_or on k 0) (get_or off k 0))
HasLanes-select t a b on off p q y n =
    subst (λ ms. HasLanes (sel_l ms on off) (λ k. cond (t (get_or a k 0) (get_or b k 0)) (get_or on k 0) (get_or off k 0)))
    (sym (tops_compared w64 t a b)) (HasLanes-selected t a b on off p q y n)

-- the test is of a vector against one number
pub HasLanes-select_splat : (t : ℕ → ℕ → Bool) (a : List ℕ) (x : ℕ) (on off : List ℕ) → length a ≡ 8 → length on ≡ 8 → length off ≡ 8
    → HasLanes (tested t a (replicate 8 x) on off) (λ k. cond (t (get_or a k 0) x) (get_or on k 0) (get_or off k 0))
HasLanes-select_splat t a x on off p y n =
    HasLanes-like _ _ _ (HasLanes-select t a (replicate 8 x) on off p refl y n)
    (λ k l. ap (λ z. cond (t (get_or a k 0) z) (get_or on k 0) (get_or off k 0)) (get_or-replicate 8 k x 0 l))

-- eight numbers written out
pub written : (f : ℕ → ℕ) (k : ℕ) → k < 8 → get_or (f 0 ∷ f 1 ∷ f 2 ∷ f 3 ∷ f 4 ∷ f 5 ∷ f 6 ∷ f 7 ∷ []) k 0 ≡ f k
written f zero l = refl
written f (suc zero) l = refl
written f (suc (suc zero)) l = refl
written f (suc (suc (suc zero))) l = refl
written f (suc (suc (suc (suc zero)))) l = refl
written f (suc (suc (suc (suc (suc zero))))) l = refl
written f (suc (suc (suc (suc (suc (suc zero)))))) l = refl
written f (suc (suc (suc (suc (suc (suc (suc zero))))))) l = refl
written f (suc (suc (suc (suc (suc (suc (suc (suc k)))))))) l = absurd (omega arith)

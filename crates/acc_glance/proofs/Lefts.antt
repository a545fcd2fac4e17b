-- The first replica that is left, node by node.
use Rattle.std.proofs.Common.{◌≡◌, ℕ, zero, suc, ◌+◌, ◌-◌, ◌≤◌, ◌<◌, Bool, true, false, ◌&&◌, cond, List, [], ◌∷◌, ◌++◌, filter, find, None, Some, refl, sym, ◌∙◌, ap, arith}
use Rattle.std.specs.List.{range_with_len}
use Rattle.std.proofs.lemmas.Bool.{true≢false}
use Rattle.acc_topology.specs.Sets.{in_set, members}
use Rattle.acc_cluster.proofs.Placed.{members_more, members_are}

module _ (p : ℕ → Bool) where
  found_behind : (xs ys : List ℕ) → find p xs ≡ None → find p (xs ++ ys) ≡ find p ys
  found_behind [] ys none = refl
  found_behind (x ∷ xs) ys none = by (p x) (λ h. found_behind xs ys h) none
    where
      by : (b : Bool) → (find p xs ≡ None → find p (xs ++ ys) ≡ find p ys) → cond b (Some x) (find p xs) ≡ None → cond b (Some x) (find p (xs ++ ys)) ≡ find p ys
      by true rest h = absurd cc
      by false rest h = rest h

  found_before : (xs ys : List ℕ) (n : ℕ) → find p xs ≡ Some n → find p (xs ++ ys) ≡ Some n
  found_before [] ys n some = absurd cc
  found_before (x ∷ xs) ys n some = by (p x) (λ h. found_before xs ys n h) some
    where
      by : (b : Bool) → (find p xs ≡ Some n → find p (xs ++ ys) ≡ Some n) → cond b (Some x) (find p xs) ≡ Some n → cond b (Some x) (find p (xs ++ ys)) ≡ Some n
      by true rest h = h
      by false rest h = rest h

  module _ (set : ℕ) where
    abbrev pub below : ℕ → List ℕ
    below n = filter (in_set set) (range_with_len 0 n)

    pub none_more : (n : ℕ) → find p (below n) ≡ None → (in_set set n && p n) ≡ false → find p (below (n + 1)) ≡ None
    none_more n none isnt =
        ap (find p) (members_more set n) ∙ found_behind (below n) (cond (in_set set n) (n ∷ []) []) none ∙ by (in_set set n) (p n) refl isnt
      where
        by : (q r : Bool) → p n ≡ r → (q && r) ≡ false → find p (cond q (n ∷ []) []) ≡ None
        by false r is h = refl
        by true true is h = absurd (true≢false h)
        by true false is h = ap (λ b. cond b (Some n) None) is

    -- none of the numbers from the first to the second
    pub none_to : (m d : ℕ) → find p (below m) ≡ None → ((k : ℕ) → m ≤ k → k < m + d → (in_set set k && p k) ≡ false) → find p (below (m + d)) ≡ None
    none_to m zero none isnt = ap (λ (k : ℕ). find p (below k)) (let e : m + 0 ≡ m = omega arith in e) ∙ none
    none_to m (suc d) none isnt =
        ap (λ (k : ℕ). find p (below k)) (let e : m + suc d ≡ (m + d) + 1 = omega arith in e)
        ∙ none_more (m + d) (none_to m d none (λ k low high. isnt k low (omega (arith, high)))) (isnt (m + d) (omega arith) (omega arith))

    pub here : (n : ℕ) → find p (below n) ≡ None → in_set set n ≡ true → p n ≡ true → find p (below (n + 1)) ≡ Some n
    here n none member is =
        ap (find p) (members_more set n) ∙ found_behind (below n) (cond (in_set set n) (n ∷ []) []) none
        ∙ ap (λ q. find p (cond q (n ∷ []) [])) member ∙ ap (λ b. cond b (Some n) None) is

    kept : (m d n : ℕ) → find p (below m) ≡ Some n → find p (below (m + d)) ≡ Some n
    kept m zero n some = ap (λ (k : ℕ). find p (below k)) (let e : m + 0 ≡ m = omega arith in e) ∙ some
    kept m (suc d) n some =
        ap (λ (k : ℕ). find p (below k)) (let e : m + suc d ≡ (m + d) + 1 = omega arith in e)
        ∙ ap (find p) (members_more set (m + d)) ∙ found_before (below (m + d)) (cond (in_set set (m + d)) ((m + d) ∷ []) []) n (kept m d n some)

    pub first_is : (n : ℕ) → n ≤ 15 → find p (below n) ≡ None → in_set set n ≡ true → p n ≡ true → find p (members set) ≡ Some n
    first_is n low none member is =
        ap (find p) (sym (members_are set)) ∙ ap (λ (k : ℕ). find p (below k)) (rest n low) ∙ kept (n + 1) (15 - n) n (here n none member is)
      where
        rest : (n : ℕ) → n ≤ 15 → 16 ≡ (n + 1) + (15 - n)
        rest n low = omega (arith, low)

    pub none_is : (n : ℕ) → n ≡ 16 → find p (below n) ≡ None → find p (members set) ≡ None
    none_is n full none = ap (find p) (sym (members_are set)) ∙ ap (λ (k : ℕ). find p (below k)) (sym full) ∙ none

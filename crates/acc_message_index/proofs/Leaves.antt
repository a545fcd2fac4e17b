-- A tree after a write of a leaf, and its root.
use Rattle.std.proofs.Common.{◌≡◌, ◌≢◌, ℕ, ◌+◌, ◌-◌, ◌*◌, ◌/◌, ◌<◌, ◌≤◌, zero, suc, List, length, min, cond, nat_lt, get_or, sym, ap, ◌∙◌, arith}
use Rattle.std.proofs.lemmas.Bool.{cond_below}
use mathlib.Core.Logic.{dite}
use native.Mathlib.Decide.{dec_lt, ℕ_discrete}
use Rattle.acc_message_index.specs.Trees.{none, leaf, lesser, IsTree}

-- each node but one has the lesser number below it
pub record IsTreeBut (count spoilt : ℕ) (places : List ℕ) : Type 0 where
  pub size : length places ≡ 2 * count
  pub nodes : (node : ℕ) → 1 ≤ node → node < count → node ≢ spoilt → get_or places node 0 ≡ lesser places node

-- ---- the root

pub root_below : {count : ℕ} {places : List ℕ} → IsTree count places → (fuel at : ℕ) → at ≤ fuel → 1 ≤ at → at < 2 * count → get_or places 1 0 ≤ get_or places at 0
root_below t zero at within from high = absurd (omega arith)
root_below {count} {places} t (suc fuel) at within from high = dite (ℕ_discrete at 1)
    (λ same. let e : get_or places at 0 ≡ get_or places 1 0 = ap (λ m. get_or places m 0) same in omega arith)
    (λ else.
    let up : get_or places 1 0 ≤ get_or places (at / 2) 0 = root_below t fuel (at / 2) (omega arith) (omega arith) (omega arith) in
    let node : get_or places (at / 2) 0 ≡ min (get_or places (2 * (at / 2)) 0) (get_or places (2 * (at / 2) + 1) 0) = t.nodes (at / 2) (omega arith) (omega arith) in
    dite (ℕ_discrete at (2 * (at / 2)))
    (λ even. let e : get_or places at 0 ≡ get_or places (2 * (at / 2)) 0 = ap (λ m. get_or places m 0) even in omega arith)
    (λ odd. let e : get_or places at 0 ≡ get_or places (2 * (at / 2) + 1) 0 = ap (λ m. get_or places m 0) (omega arith) in omega arith))

-- some leaf has the number of a node
pub leaf_below : {count : ℕ} {places : List ℕ} → IsTree count places → (fuel at : ℕ) → 2 * count ≤ at + fuel → 1 ≤ at → at < 2 * count
    → (number : ℕ) × (number < count) × (get_or places (count + number) 0 ≡ get_or places at 0)
leaf_below t zero at enough from high = absurd (omega arith)
leaf_below {count} {places} t (suc fuel) at enough from high = dite (dec_lt at count)
    (λ inner.
    let node : get_or places at 0 ≡ min (get_or places (2 * at) 0) (get_or places (2 * at + 1) 0) = t.nodes at from inner in
    dite (dec_lt (get_or places (2 * at + 1) 0) (get_or places (2 * at) 0))
    (λ right. let found = leaf_below t fuel (2 * at + 1) (omega arith) (omega arith) (omega arith) in let e : get_or places (2 * at + 1) 0 ≡ get_or places at 0 = omega arith in (found.0, found.1, found.2 ∙ e))
    (λ left. let found = leaf_below t fuel (2 * at) (omega arith) (omega arith) (omega arith) in let e : get_or places (2 * at) 0 ≡ get_or places at 0 = omega arith in (found.0, found.1, found.2 ∙ e)))
    (λ outer. (at - count, omega arith, ap (λ m. get_or places m 0) (omega arith)))

-- ---- leaves

pub leaf_at : (count : ℕ) (places : List ℕ) (number : ℕ) → number < count → leaf count places number ≡ get_or places (count + number) 0
leaf_at count places number low = sym (cond_below number count (get_or places (count + number) 0) none low)

-- the first leaves of another tree
abbrev pub first_leaves : ℕ → ℕ → List ℕ → ℕ → ℕ
first_leaves below count places number = cond (nat_lt number below) (leaf count places number) none

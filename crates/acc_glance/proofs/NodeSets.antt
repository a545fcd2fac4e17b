-- Sets of nodes and lists of nodes.
use Rattle.std.proofs.Common.{◌≡◌, ℕ, ◌==◌, ◌<◌, Bool, true, false, ◌&&◌, ◌||◌, List, count_by, length, take, get_or, ◌+◌, ◌*◌, ◌^◌, ◌/◌, ◌≤◌, refl, sym, ◌∙◌, ap, subst, arith}
use Rattle.std.proofs.Math.Nat.{lt-div-mul-add}
use Rattle.std.proofs.lemmas.Bool.{eqb-true}
use Rattle.std.proofs.lemmas.List.Folds.{list_any_more}
use Rattle.std.proofs.lemmas.Nat.{pow_pos}
use Rattle.std.proofs.lemmas.Nat.Bits.{bit_at_above}
use Rattle.acc_topology.specs.Sets.{in_set, is_among, members, numbers}
use Rattle.acc_topology.proofs.Bits.{count_by-same, count_by-filter}

-- a node that is among others
pub joins : (among node n : ℕ) → in_set among node ≡ true → (in_set among n && node == n) ≡ (node == n)
joins among node n is = by (node == n) refl
  where
    by : (b : Bool) → (node == n) ≡ b → (in_set among n && b) ≡ b
    by true same = ap (λ b. b && true) (ap (in_set among) (sym (eqb-true node n same)) ∙ is)
    by false apart = none (in_set among n)
      where
        none : (b : Bool) → (b && false) ≡ false
        none true = refl
        none false = refl

pub joins_not : (among node n : ℕ) → in_set among node ≡ false → (in_set among n && node == n) ≡ false
joins_not among node n isnt = by (node == n) refl
  where
    by : (b : Bool) → (node == n) ≡ b → (in_set among n && b) ≡ false
    by true same = ap (λ b. b && true) (ap (in_set among) (sym (eqb-true node n same)) ∙ isnt)
    by false apart = none (in_set among n)
      where
        none : (b : Bool) → (b && false) ≡ false
        none true = refl
        none false = refl

none_added : (b : Bool) → b ≡ (b || false)
none_added true = refl
none_added false = refl

pub joined_not : (set among node n : ℕ) → false ≡ in_set among node → in_set set n ≡ (in_set set n || (in_set among n && node == n))
joined_not set among node n isnt =
    none_added (in_set set n) ∙ ap (λ b. in_set set n || b) (sym (joins_not among node n (sym isnt)))

pub joined : (set made among node n : ℕ) → true ≡ in_set among node → in_set made n ≡ (in_set set n || node == n)
    → in_set made n ≡ (in_set set n || (in_set among n && node == n))
joined set made among node n is with_it = with_it ∙ ap (λ b. in_set set n || b) (sym (joins among node n (sym is)))

-- one node more
pub one_more : (among set made n i d : ℕ) (nodes : List ℕ) → i < length nodes → in_set set n ≡ (in_set among n && is_among (take i nodes) n)
    → in_set made n ≡ (in_set set n || (in_set among n && get_or nodes i d == n)) → in_set made n ≡ (in_set among n && is_among (take (i + 1) nodes) n)
one_more among set made n i d nodes within so_far now =
    now ∙ ap (λ b. b || (in_set among n && get_or nodes i d == n)) so_far
    ∙ both (in_set among n) (is_among (take i nodes) n) (get_or nodes i d == n)
    ∙ ap (λ b. in_set among n && b) (sym (list_any_more (λ m. m == n) nodes i d within))
  where
    both : (p a e : Bool) → ((p && a) || (p && e)) ≡ (p && (a || e))
    both true a e = refl
    both false a e = refl

-- those among a set are counted as they are listed
pub counted : (set among : ℕ) (nodes : List ℕ) → ((n : ℕ) → in_set set n ≡ (in_set among n && is_among nodes n))
    → count_by (in_set set) (members among) ≡ count_by (is_among nodes) (members among)
counted set among nodes is =
    sym (count_by-filter (in_set among) (in_set set) numbers)
    ∙ count_by-same (λ n. in_set among n && in_set set n) (λ n. in_set among n && is_among nodes n) (λ n. ap (λ b. in_set among n && b) (is n) ∙ twice (in_set among n) (is_among nodes n)) numbers
    ∙ count_by-filter (in_set among) (is_among nodes) numbers
  where
    twice : (p q : Bool) → (p && (p && q)) ≡ (p && q)
    twice true q = refl
    twice false q = refl

none_times : (b : ℕ) → 0 * b + b ≡ b
none_times b = omega arith

-- a set whose bits from a place on are none
pub none_from : (set node n : ℕ) → node ≤ n → set / 2 ^ node ≡ 0 → in_set set n ≡ false
none_from set node n low none =
    ap (λ (b : ℕ). b == 1)
    (bit_at_above set node n
    (subst (λ (m : ℕ). set < m) (none_times (2 ^ node))
    (subst (λ (q : ℕ). set < q * 2 ^ node + 2 ^ node) none (lt-div-mul-add {a = set} {b = 2 ^ node} (pow_pos node)))) low)

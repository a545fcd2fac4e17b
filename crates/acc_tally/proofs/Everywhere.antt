-- A test of every shard of a set, by the tests of one shard after another.
use Rattle.std.proofs.Common.{◌≡◌, ℕ, ◌^◌, ◌<◌, Bool, true, false, eqb, List, [], ◌∷◌, refl, sym, ap, ◌∙◌, subst, ⊎_elim}
use Rattle.std.specs.List.{list_any, list_all}
use Rattle.std.proofs.lemmas.Bool.{true≢false, and_from, and_left, and_right, or_from, or_left, or_right, or_cases, eq-eqb, eqb-true}
use Rattle.acc_topology.specs.Sets.{in_set, is_among, members}
use Rattle.acc_topology.proofs.Listed.{IsSetOf-members}
use Rattle.acc_topology.proofs.Rules.{in_set-below}

pub all_pass : (test : ℕ → Bool) (ns : List ℕ) → ((n : ℕ) → is_among ns n ≡ true → test n ≡ true) → list_all test ns ≡ true
all_pass test [] h = refl
all_pass test (m ∷ ns) h =
    and_from (test m) (list_all test ns) (h m (or_left (eqb m m) (is_among ns m) (eq-eqb m m refl)))
    (all_pass test ns (λ n e. h n (or_right (eqb m n) (is_among ns n) e)))

pub one_passes : (test : ℕ → Bool) (ns : List ℕ) (n : ℕ) → is_among ns n ≡ true → test n ≡ true → list_any test ns ≡ true
one_passes test [] n h p = absurd (true≢false (sym h))
one_passes test (m ∷ ns) n h p =
    ⊎_elim
    (λ same. or_left (test m) (list_any test ns) (subst (λ k. test k ≡ true) (sym (eqb-true m n same)) p))
    (λ rest. or_right (test m) (list_any test ns) (one_passes test ns n rest p))
    (or_cases (eqb m n) (is_among ns n) h)

pub one_fails : (test : ℕ → Bool) (ns : List ℕ) (n : ℕ) → is_among ns n ≡ true → test n ≡ false → list_all test ns ≡ false
one_fails test [] n h p = absurd (true≢false (sym h))
one_fails test (m ∷ ns) n h p =
    ⊎_elim
    (λ same. and_left (test m) (list_all test ns) (subst (λ k. test k ≡ false) (sym (eqb-true m n same)) p))
    (λ rest. and_right (test m) (list_all test ns) (one_fails test ns n rest p))
    (or_cases (eqb m n) (is_among ns n) h)

pub none_passes : (test : ℕ → Bool) (ns : List ℕ) → ((n : ℕ) → is_among ns n ≡ true → test n ≡ false) → list_any test ns ≡ false
none_passes test [] h = refl
none_passes test (m ∷ ns) h =
    or_from (test m) (list_any test ns) (h m (or_left (eqb m m) (is_among ns m) (eq-eqb m m refl)))
    (none_passes test ns (λ n e. h n (or_right (eqb m n) (is_among ns n) e)))

-- a number of a set is one of its members, and below 16
pub among_members : (set n : ℕ) → set < 2 ^ 16 → in_set set n ≡ true → is_among (members set) n ≡ true
among_members set n fits e = sym (IsSetOf-members set fits n) ∙ e

pub in_set_member : (set n : ℕ) → set < 2 ^ 16 → is_among (members set) n ≡ true → in_set set n ≡ true
in_set_member set n fits e = IsSetOf-members set fits n ∙ e

pub member_below : (set n : ℕ) → set < 2 ^ 16 → is_among (members set) n ≡ true → n < 16
member_below set n fits e = in_set-below set n fits (in_set_member set n fits e)

-- ---- every shard of a set, each tested by the numbers 0 to 15 in turn

pub everywhere : (set : ℕ) (test : ℕ → Bool) → set < 2 ^ 16 → ((s : ℕ) → s < 16 → in_set set s ≡ true → test s ≡ true) → list_all test (members set) ≡ true
everywhere set test fits h = all_pass test (members set) (λ n e. h n (member_below set n fits e) (in_set_member set n fits e))

pub somewhere_not : (set s : ℕ) (test : ℕ → Bool) → set < 2 ^ 16 → in_set set s ≡ true → test s ≡ false → list_all test (members set) ≡ false
somewhere_not set s test fits e h = one_fails test (members set) s (among_members set s fits e) h

pub nowhere : (set : ℕ) (test : ℕ → Bool) → set < 2 ^ 16 → ((s : ℕ) → s < 16 → in_set set s ≡ true → test s ≡ false) → list_any test (members set) ≡ false
nowhere set test fits h = none_passes test (members set) (λ n e. h n (member_below set n fits e) (in_set_member set n fits e))

pub somewhere : (set s : ℕ) (test : ℕ → Bool) → set < 2 ^ 16 → in_set set s ≡ true → test s ≡ true → list_any test (members set) ≡ true
somewhere set s test fits e h = one_passes test (members set) s (among_members set s fits e) h

-- ---- by tests that agree with what is asked at each shard

module _ (set : ℕ) (shards : List ℕ) (known asked : ℕ → Bool) (listed : members set ≡ shards) (fits : set < 2 ^ 16) (same : (s : ℕ) → s < 16 → known s ≡ asked s) where
  pub all_by : ((s : ℕ) → s < 16 → in_set set s ≡ true → known s ≡ true) → true ≡ list_all asked shards
  all_by h = sym (ap (list_all asked) (sym listed) ∙ everywhere set asked fits (λ s small e. sym (same s small) ∙ h s small e))

  pub not_all_by : (s : ℕ) → s < 16 → in_set set s ≡ true → known s ≡ false → false ≡ list_all asked shards
  not_all_by s small e h = sym (ap (list_all asked) (sym listed) ∙ somewhere_not set s asked fits e (sym (same s small) ∙ h))

  pub none_by : ((s : ℕ) → s < 16 → in_set set s ≡ true → known s ≡ false) → false ≡ list_any asked shards
  none_by h = sym (ap (list_any asked) (sym listed) ∙ nowhere set asked fits (λ s small e. sym (same s small) ∙ h s small e))

  pub some_by : (s : ℕ) → s < 16 → in_set set s ≡ true → known s ≡ true → true ≡ list_any asked shards
  some_by s small e h = sym (ap (list_any asked) (sym listed) ∙ somewhere set s asked fits e (sym (same s small) ∙ h))

-- The least timestamps that lines decide.
use Rattle.std.proofs.Common.{◌≡◌, ℕ, ◌+◌, ◌<◌, ◌==◌, nat_lt, nat_le, List, [], ◌∷◌, ◌++◌, length, map, reverse, get_or, set, Bool, true, false, ◌&&◌, ◌||◌, cond, Option, Some, None, Ordering, refl, sym, ap, ap₂, ◌∙◌, arith}
use Rattle.std.specs.Prelude.{replicate}
use Rattle.std.specs.List.{list_any}
use Rattle.std.specs.List.Sorted.{IsSorted}
use Rattle.std.specs.Str.{bytes_eq}
use Rattle.std.specs.Cmp.{IsTotalOrder}
use Rattle.std.specs.Ordering.{nat_cmp, is_lt, ordering_then}
use Rattle.std.specs.declared.cmp.Ordering.TheVariants.{Less, Equal, Greater}
use Rattle.std.proofs.lemmas.Bool.{true≢false, false_from_ne_true}
use Rattle.std.proofs.lemmas.Bool.Decides.{nat_tests, Decides-eqb}
use Rattle.std.proofs.lemmas.Cmp.{nat_cmp_total, on_total, then_total}
use Rattle.std.proofs.lemmas.List.{get_or-map, length-map}
use Rattle.std.proofs.lemmas.List.Folds.{list_any-append}
use Rattle.std.proofs.lemmas.List.Sorted.{sorted_far, ranks_by, list_any-IsPermutation, IsPermutation-reverse}
use Rattle.std.proofs.lemmas.Simd.{splat_is_map}
use Rattle.std.proofs.lemmas.Slice.Eq.{bytes_eq-Decides}
use Rattle.acc_stamp.specs.declared.stamps.Stamp.{Stamp}
use Rattle.acc_stamp.specs.Stamp.{stamp_cmp, stamp_lt}
use Rattle.acc_stamp.proofs.Order.{stamp_order, stamp_cmp_total, le-lt-trans}
use Rattle.acc_report_line.specs.declared.line.Line.{Line}
use Rattle.acc_audit.specs.Said.{decision_in, timestamp_of, is_lower, decides_below}
use Rattle.acc_audit.specs.Fronts.{number_of}
use Rattle.acc_audit.specs.Kept.{entry_of, is_below, least_in, lesser, lowered}
use Rattle.acc_audit.specs.Rules.{Differ}
use Rattle.acc_audit.specs.Users.{rises, AreLeast}
use Rattle.acc_audit.proofs.NumberFacts.{numbered, known_as}
use Rattle.acc_audit.proofs.TableFacts.{name-set, name-unknown}
use Rattle.acc_audit.proofs.DecisionFacts.{at_number}
use Rattle.acc_audit.proofs.UserFacts.{rises_from}

-- a table with one value for all names
pub all_one : {X : Type 0} (names : List (List ℕ)) (v : X) (count : ℕ) (values : List X) → values ≡ replicate count v → count ≡ length names → values ≡ map (λ _. v) names
all_one names v count values are many = are ∙ splat_is_map names count v (sym many)

flipped : (a b : List ℕ) → bytes_eq a b ≡ false → bytes_eq b a ≡ false
flipped a b apart = false_from_ne_true (bytes_eq b a) (λ same. true≢false (sym ((bytes_eq-Decides a b).1 (sym ((bytes_eq-Decides b a).0 same))) ∙ apart))

-- the timestamp of one transaction is lowered
pub lowered_at : (was : List ℕ → Option Stamp) (names : List (List ℕ)) (n : ℕ) (name : List ℕ) (t : Stamp) (old new : List (Option Stamp)) → Differ names → number_of names name ≡ Some n → old ≡ map was names
    → new ≡ set old n (Some (lesser (get_or old n None) t)) → new ≡ map (λ other. lowered (was other) (timestamp_of other (Some (name, t)))) names
lowered_at was names n name t old new differ is are made =
    let at = numbered names name n is in
    made
    ∙ (λ i. set (are i) n (Some (lesser (at_number was names n name old None is are i) t)))
    ∙ name-set was (λ other. lowered (was other) (timestamp_of other (Some (name, t)))) names n (Some (lesser (was name) t)) name differ at.0 at.1
    (ap (λ b. lowered (was name) (cond b (Some t) None)) ((bytes_eq-Decides name name).1 refl))
    (λ other apart. ap (λ b. lowered (was other) (cond b (Some t) None)) apart)

pub lowered_none : (was : List ℕ → Option Stamp) (names : List (List ℕ)) (name : List ℕ) (t : Stamp) (old : List (Option Stamp)) → None ≡ number_of names name → old ≡ map was names
    → old ≡ map (λ other. lowered (was other) (timestamp_of other (Some (name, t)))) names
lowered_none was names name t old unknown are =
    are ∙ name-unknown was (λ other. lowered (was other) (timestamp_of other (Some (name, t)))) names name (known_as names name None unknown)
    (λ other apart. ap (λ b. lowered (was other) (cond b (Some t) None)) (flipped name other apart))

-- ---- below a timestamp

or_false : (a : Bool) → (a || false) ≡ a
or_false true = refl
or_false false = refl

and_false : (a : Bool) → (a && false) ≡ false
and_false true = refl
and_false false = refl

implied : (a b : Bool) → (a ≡ true → b ≡ true) → b ≡ (a || b)
implied true b h = h refl
implied false b h = refl

implied_back : (a b : Bool) → (b ≡ true → a ≡ true) → a ≡ (a || b)
implied_back true b h = refl
implied_back false true h = absurd (true≢false (sym (h refl)))
implied_back false false h = refl

lesser_below : (held : Option Stamp) (u t : Stamp) → stamp_lt (lesser held u) t ≡ (stamp_lt u t || is_below held t)
lesser_below None u t = sym (or_false (stamp_lt u t))
lesser_below (Some h) u t =
    elim (stamp_lt h u) as (λ b. stamp_lt h u ≡ b → stamp_lt (cond b h u) t ≡ (stamp_lt u t || stamp_lt h t)) [
      | true ↦ λ less. implied (stamp_lt u t) (stamp_lt h t) (λ below. stamp_order.trans h u t less below)
      | false ↦ λ not_less. implied_back (stamp_lt u t) (stamp_lt h t) (λ below. le-lt-trans stamp_order u h t not_less below)
    ] refl

lowered_below : (name : List ℕ) (t : Stamp) (held : Option Stamp) (said : Option (List ℕ × Stamp)) → is_below (lowered held (timestamp_of name said)) t ≡ (is_lower name t said || is_below held t)
lowered_below name t held None = refl
lowered_below name t held (Some said) =
    elim (bytes_eq name said.0) as (λ b. is_below (lowered held (cond b (Some said.1) None)) t ≡ ((b && stamp_lt said.1 t) || is_below held t)) [
      | true ↦ lesser_below held said.1 t
      | false ↦ refl
    ]

pub below_is : (name : List ℕ) (t : Stamp) (lines : List Line) → is_below (least_in name lines) t ≡ list_any (decides_below name t) lines
below_is name t [] = refl
below_is name t (line ∷ lines) =
    lowered_below name t (least_in name lines) (decision_in line) ∙ ap (λ b. is_lower name t (decision_in line) || b) (below_is name t lines)

-- what the entries tell of the least timestamps, they tell of the lines
pub are_least : (names : List (List ℕ)) (lines : List Line) (least : List (Option Stamp)) (order : List (Stamp × ℕ)) → least ≡ map (λ name. least_in name (reverse lines)) names → list_any (λ entry. nat_le (length least) entry.1) order ≡ false
    → ((number : ℕ) (t : Stamp) → list_any (λ entry. (entry.1 == number) && stamp_lt entry.0 t) order ≡ is_below (get_or least number None) t) → AreLeast names lines order
are_least names lines least order are within tells =
    let many : length least ≡ length names = ap length are ∙ length-map names (λ name. least_in name (reverse lines)) in
    record {
      within = ap (λ n. list_any (λ (entry : Stamp × ℕ). nat_le n entry.1) order) (sym many) ∙ within;
      least = λ number t inside.
          tells number t
          ∙ ap (λ (xs : List (Option Stamp)). is_below (get_or xs number None) t) are
          ∙ ap (λ (o : Option Stamp). is_below o t) (get_or-map (λ name. least_in name (reverse lines)) names number [] None inside)
          ∙ below_is (get_or names number []) t (reverse lines)
          ∙ sym (list_any-IsPermutation (decides_below (get_or names number []) t) lines (reverse lines) (IsPermutation-reverse lines));
    }

-- ---- entries in their order

numbers_more : (n i : ℕ) → nat_lt n (i + 1) ≡ (nat_lt n i || (i == n))
numbers_more n i = grind (arith, nat_tests)

and_or : (a b c d : Bool) → (b ≡ true → c ≡ d) → ((a && c) || (b && d)) ≡ ((a || b) && c)
and_or a true c d same = ap (λ x. (a && c) || x) (sym (same refl)) ∙ both a c
  where
    both : (x y : Bool) → ((x && y) || y) ≡ ((x || true) && y)
    both true true = refl
    both true false = refl
    both false y = refl
and_or true false c d same = or_false c
and_or false false c d same = refl

one_entry : (n i : ℕ) (t : Stamp) (held : Option Stamp) → list_any (λ entry. (entry.1 == n) && stamp_lt entry.0 t) (entry_of held i) ≡ ((i == n) && is_below held t)
one_entry n i t None = sym (and_false (i == n))
one_entry n i t (Some s) = or_false ((i == n) && stamp_lt s t)

pub decided_more : (least : List (Option Stamp)) (i : ℕ) (held : Option Stamp) (old new : List (Stamp × ℕ)) → held ≡ get_or least i None → new ≡ old ++ entry_of held i
    → ((n : ℕ) (t : Stamp) → list_any (λ entry. (entry.1 == n) && stamp_lt entry.0 t) old ≡ (nat_lt n i && is_below (get_or least n None) t))
    → (n : ℕ) (t : Stamp) → list_any (λ entry. (entry.1 == n) && stamp_lt entry.0 t) new ≡ (nat_lt n (i + 1) && is_below (get_or least n None) t)
decided_more least i held old new at made so_far n t =
    ap (list_any (λ (entry : Stamp × ℕ). (entry.1 == n) && stamp_lt entry.0 t)) made
    ∙ list_any-append (λ (entry : Stamp × ℕ). (entry.1 == n) && stamp_lt entry.0 t) old (entry_of held i)
    ∙ ap₂ ◌||◌ (so_far n t) (one_entry n i t held)
    ∙ and_or (nat_lt n i) (i == n) (is_below (get_or least n None) t) (is_below held t)
    (λ same. ap (λ k. is_below (get_or least k None) t) (sym ((Decides-eqb i n).0 same)) ∙ ap (λ o. is_below o t) (sym at))
    ∙ ap (λ b. b && is_below (get_or least n None) t) (sym (numbers_more n i))

pub decided_within : (count i : ℕ) (held : Option Stamp) (old new : List (Stamp × ℕ)) → i < count → new ≡ old ++ entry_of held i → list_any (λ entry. nat_le count entry.1) old ≡ false → list_any (λ entry. nat_le count entry.1) new ≡ false
decided_within count i held old new within made none =
    ap (list_any (λ (entry : Stamp × ℕ). nat_le count entry.1)) made
    ∙ list_any-append (λ (entry : Stamp × ℕ). nat_le count entry.1) old (entry_of held i)
    ∙ ap₂ ◌||◌ none (one held)
  where
    low : nat_le count i ≡ false
    low = grind (arith, nat_tests, within)

    one : (o : Option Stamp) → list_any (λ entry. nat_le count entry.1) (entry_of o i) ≡ false
    one None = refl
    one (Some s) = ap (λ b. b || false) low

-- ---- sorted entries

abbrev entry_cmp : Stamp × ℕ → Stamp × ℕ → Ordering
entry_cmp x y = ordering_then (stamp_cmp x.0 y.0) (nat_cmp x.1 y.1)

entry_total : IsTotalOrder entry_cmp
entry_total = then_total (on_total (λ e. e.0) stamp_cmp_total) (on_total (λ e. e.1) nat_cmp_total)

not_lower : (a b : Stamp × ℕ) → is_lt (entry_cmp a b) ≡ false → stamp_lt a.0 b.0 ≡ false
not_lower a b far =
    elim (stamp_cmp a.0 b.0) as (λ r. is_lt (ordering_then r (nat_cmp a.1 b.1)) ≡ false → is_lt r ≡ false) [
      | Less ↦ λ h. h
      | Equal ↦ λ h. refl
      | Greater ↦ λ h. refl
    ] far

pub sorted_rise : (entries : List (Stamp × ℕ)) → IsSorted entry_cmp entries → rises entries ≡ true
sorted_rise entries sorted =
    rises_from entries (λ i j d le within. not_lower (get_or entries j d) (get_or entries i d) (sorted_far (λ x y. is_lt (entry_cmp x y)) (ranks_by entry_total (λ x. x)) entries sorted i j d le within))

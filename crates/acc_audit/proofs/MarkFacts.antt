-- The transactions that a line names.
use Rattle.std.proofs.Common.{◌≡◌, ℕ, ◌+◌, ◌<◌, ◌≤◌, ◌==◌, List, [], length, map, take, get_or, set, Bool, true, false, ◌||◌, cond, Some, refl, sym, ap, subst, ◌∙◌, arith}
use Rattle.std.specs.List.{list_any}
use Rattle.std.specs.Str.{bytes_eq}
use Rattle.std.proofs.lemmas.Bool.{false_from_ne_true}
use Rattle.std.proofs.lemmas.Bool.Decides.{Decides-eqb}
use Rattle.std.proofs.lemmas.List.{get_or-map, length-map}
use Rattle.std.proofs.lemmas.List.Folds.{list_any_more}
use Rattle.std.proofs.lemmas.Option.{slice_get-get_or}
use Rattle.std.proofs.lemmas.Slice.Eq.{bytes_eq-Decides}
use Rattle.acc_audit.specs.Fronts.{number_of}
use Rattle.acc_audit.specs.Kept.{AreMarks}
use Rattle.acc_audit.specs.Rules.{Differ}
use Rattle.acc_audit.specs.Users.{has_mark, is_mark}
use Rattle.acc_audit.proofs.NumberFacts.{numbered}
use Rattle.acc_audit.proofs.TableFacts.{name-set}

-- the marks of names that stand in a list
abbrev pub marked_by : List (List ℕ) → ℕ → (List ℕ → ℕ) → List ℕ → ℕ
marked_by deps mark was name = cond (list_any (bytes_eq name) deps) mark (was name)

or_right : (a b : Bool) → b ≡ true → (a || b) ≡ true
or_right true b h = refl
or_right false b h = h

or_false : (a b : Bool) → b ≡ false → (a || b) ≡ a
or_false true b h = refl
or_false false b h = h

-- one name more is marked
pub marked_more : (names deps : List (List ℕ)) (i n mark : ℕ) (was : List ℕ → ℕ) (item : List ℕ) (old : List ℕ) → Differ names → number_of names item ≡ Some n → i < length deps → item ≡ get_or deps i []
    → old ≡ map (marked_by (take i deps) mark was) names → set old n mark ≡ map (marked_by (take (i + 1) deps) mark was) names
marked_more names deps i n mark was item old differ is within at are =
    let place = numbered names item n is in
    let more = λ (name : List ℕ). list_any_more (bytes_eq name) deps i [] within in
    ap (λ (xs : List ℕ). set xs n mark) are
    ∙ name-set (marked_by (take i deps) mark was) (marked_by (take (i + 1) deps) mark was) names n mark item differ place.0 place.1
    (ap (λ b. cond b mark (was item)) (more item ∙ or_right (list_any (bytes_eq item) (take i deps)) (bytes_eq item (get_or deps i [])) ((bytes_eq-Decides item (get_or deps i [])).1 at)))
    (λ other apart. ap (λ b. cond b mark (was other)) (more other ∙ or_false (list_any (bytes_eq other) (take i deps)) (bytes_eq other (get_or deps i [])) (ap (bytes_eq other) (sym at) ∙ apart)))

-- the new mark stands at the names of the list alone
pub marks_tell : (names deps : List (List ℕ)) (was : List ℕ → ℕ) (marks : List ℕ) (place : ℕ) → marks ≡ map (marked_by deps (place + 1) was) names → ((name : List ℕ) → was name ≤ place)
    → (m : ℕ) → m < length names → has_mark marks m (place + 1) ≡ list_any (bytes_eq (get_or names m [])) deps
marks_tell names deps was marks place are low m within =
    let many : m < length marks = subst (λ n. m < n) (sym (ap length are ∙ length-map names (marked_by deps (place + 1) was))) within in
    ap (is_mark (place + 1)) (slice_get-get_or marks m 0 many ∙ ap Some (ap (λ (xs : List ℕ). get_or xs m 0) are ∙ get_or-map (marked_by deps (place + 1) was) names m [] 0 within))
    ∙ by_test (list_any (bytes_eq (get_or names m [])) deps)
  where
    other : (was (get_or names m []) == place + 1) ≡ false
    other = false_from_ne_true (was (get_or names m []) == place + 1) (λ same.
        let equal : was (get_or names m []) ≡ place + 1 = (Decides-eqb (was (get_or names m [])) (place + 1)).0 same in
        absurd (omega (arith, equal, low (get_or names m []))))

    by_test : (b : Bool) → (cond b (place + 1) (was (get_or names m [])) == place + 1) ≡ b
    by_test true = (Decides-eqb (place + 1) (place + 1)).1 refl
    by_test false = other

pub marks_kept : (names deps : List (List ℕ)) (was : List ℕ → ℕ) (marks : List ℕ) (place : ℕ) → marks ≡ map (marked_by deps (place + 1) was) names → ((name : List ℕ) → was name ≤ place) → AreMarks names (place + 1) marks
marks_kept names deps was marks place are low =
    (marked_by deps (place + 1) was, are, λ name. by_test (list_any (bytes_eq name) deps) name)
  where
    by_test : (b : Bool) (name : List ℕ) → cond b (place + 1) (was name) ≤ place + 1
    by_test true name = omega arith
    by_test false name = omega (arith, low name)

pub marks_later : (names : List (List ℕ)) (marks : List ℕ) (place : ℕ) → AreMarks names place marks → AreMarks names (place + 1) marks
marks_later names marks place are = (are.0, are.1, λ name. omega (arith, are.2 name))

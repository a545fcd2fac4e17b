-- What the lines so far decide, with one line more.
use Rattle.std.proofs.Common.{◌≡◌, ℕ, ◌==◌, List, [], ◌∷◌, map, get_or, set, Bool, true, false, not, ◌&&◌, ◌||◌, cond, Option, Some, None, refl, sym, ap, ap₂, subst, ◌∙◌}
use Rattle.std.specs.List.{list_any}
use Rattle.std.specs.Str.{bytes_eq}
use Rattle.std.specs.BTreeMap as tree
use Rattle.std.proofs.lemmas.Bool.{true≢false}
use Rattle.std.proofs.lemmas.Bool.Decides.{Decides-eqb}
use Rattle.std.proofs.lemmas.List.{get_or-map}
use Rattle.std.proofs.lemmas.Option.{same_Some}
use Rattle.std.proofs.lemmas.Slice.Eq.{bytes_eq-Decides}
use Rattle.acc_base.specs.Faults.{or_else}
use Rattle.acc_stamp.specs.declared.stamps.Stamp.{Stamp}
use Rattle.acc_stamp.specs.Stamp.{stamp_cmp, stamp_eq}
use Rattle.acc_stamp.proofs.Order.{stamp_order, eq-sym}
use Rattle.acc_report_line.specs.declared.line.Line.{Line}
use Rattle.acc_audit.specs.declared.decisions.Decisions.{Decisions}
use Rattle.acc_audit.specs.Said.{decision_in, timestamp_of, decides_otherwise, decides_another, is_otherwise, is_of_another}
use Rattle.acc_audit.specs.Fronts.{number_of}
use Rattle.acc_audit.specs.Rules.{Differ}
use Rattle.acc_audit.specs.Kept.{newest_timestamp, newest_at, is_other, is_another, is_not, owner_in, IsNumberOf, AreDecisions}
use Rattle.acc_audit.proofs.NumberFacts.{numbered}
use Rattle.acc_audit.proofs.TableFacts.{name-set}

-- two tests that hold together
pub same_from : (a b : Bool) → (a ≡ true → b ≡ true) → (b ≡ true → a ≡ true) → a ≡ b
same_from true b to from = sym (to refl)
same_from false true to from = absurd (true≢false (sym (from refl)))
same_from false false to from = refl

-- what a table of names has at the number of a name
pub at_number : {X : Type 0} (f : List ℕ → X) (names : List (List ℕ)) (n : ℕ) (name : List ℕ) (values : List X) (e : X) → number_of names name ≡ Some n → values ≡ map f names → get_or values n e ≡ f name
at_number {X = X} f names n name values e numbers are =
    let at = numbered names name n numbers in
    ap (λ (xs : List X). get_or xs n e) are ∙ get_or-map f names n [] e at.0 ∙ ap f at.1

-- numbers differ as their names do
numbers_differ : (names : List (List ℕ)) (n m : ℕ) (name other : List ℕ) → number_of names name ≡ Some n → number_of names other ≡ Some m → (m == n) ≡ bytes_eq name other
numbers_differ names n m name other is is' =
    same_from (m == n) (bytes_eq name other)
    (λ same.
    let equal : m ≡ n = (Decides-eqb m n).0 same in
    (bytes_eq-Decides name other).1 (sym (numbered names name n is).1 ∙ ap (λ k. get_or names k []) (sym equal) ∙ (numbered names other m is').1))
    (λ same.
    let equal : name ≡ other = (bytes_eq-Decides name other).0 same in
    (Decides-eqb m n).1 (same_Some m n (sym is' ∙ ap (number_of names) (sym equal) ∙ is)))

owner_differs : (names : List (List ℕ)) (n : ℕ) (name : List ℕ) (held : Option ℕ) (owner : Option (List ℕ)) → number_of names name ≡ Some n → IsNumberOf names held owner → is_not held n ≡ is_another owner name
owner_differs names n name None None is stands = refl
owner_differs names n name (Some m) (Some other) is stands = ap not (numbers_differ names n m name other is stands)
owner_differs names n name None (Some other) is stands = absurd stands
owner_differs names n name (Some m) None is stands = absurd stands

-- what is kept tells whether a decision disagrees
pub disagreement : (names : List (List ℕ)) (earlier : List Line) (d : Decisions) (n : ℕ) (name : List ℕ) (t : Stamp) → number_of names name ≡ Some n → AreDecisions names earlier d
    → (is_other (get_or d.timestamps.items n None) t || is_not (tree.get stamp_cmp d.owners t) n) ≡ (list_any (decides_otherwise name t) earlier || list_any (decides_another name t) earlier)
disagreement names earlier d n name t is are =
    ap₂ ◌||◌
    (ap (λ (held : Option Stamp). is_other held t) (at_number (λ other. newest_timestamp other earlier) names n name d.timestamps.items None is are.timestamps) ∙ sym (are.agree name t))
    (owner_differs names n name (tree.get stamp_cmp d.owners t) (newest_at t earlier) is (are.owners t) ∙ sym (are.agree_back name t))

both_false : (a b : Bool) → (a || b) ≡ false → (a ≡ false) × (b ≡ false)
both_false false b h = (refl, h)
both_false true b h = absurd (true≢false h)

not_false : (a : Bool) → not a ≡ false → a ≡ true
not_false true h = refl
not_false false h = absurd (true≢false h)

-- the one that was held is no other than this one
or_other : (held : Option Stamp) (t s : Stamp) → is_other held t ≡ false → (not (stamp_eq s t) || is_other held s) ≡ not (stamp_eq s t)
or_other None t s kept = or_false (not (stamp_eq s t))
  where
    or_false : (a : Bool) → (a || false) ≡ a
    or_false true = refl
    or_false false = refl
or_other (Some h) t s kept =
    let same : t ≡ h = (stamp_order.decides t h).0 (not_false (stamp_eq t h) kept) in
    ap (λ u. not (stamp_eq s t) || not (stamp_eq s u)) (sym same) ∙ twice (not (stamp_eq s t))
  where
    twice : (a : Bool) → (a || a) ≡ a
    twice true = refl
    twice false = refl

or_another : (held : Option (List ℕ)) (name other : List ℕ) → is_another held name ≡ false → (not (bytes_eq other name) || is_another held other) ≡ not (bytes_eq other name)
or_another None name other kept = or_false (not (bytes_eq other name))
  where
    or_false : (a : Bool) → (a || false) ≡ a
    or_false true = refl
    or_false false = refl
or_another (Some h) name other kept =
    let same : name ≡ h = (bytes_eq-Decides name h).0 (not_false (bytes_eq name h) kept) in
    ap (λ x. not (bytes_eq other name) || not (bytes_eq other x)) (sym same) ∙ twice (not (bytes_eq other name))
  where
    twice : (a : Bool) → (a || a) ≡ a
    twice true = refl
    twice false = refl

agree_more : (b : Bool) (t s : Stamp) (held here : Option Stamp) → (b ≡ true → is_other held t ≡ false) → here ≡ cond b (Some t) None
    → ((b && not (stamp_eq s t)) || is_other held s) ≡ is_other (or_else here held) s
agree_more true t s held here kept is = or_other held t s (kept refl) ∙ ap (λ h. is_other (or_else h held) s) (sym is)
agree_more false t s held here kept is = ap (λ h. is_other (or_else h held) s) (sym is)

back_more : (b a : Bool) (name other : List ℕ) (held here : Option (List ℕ)) → a ≡ bytes_eq other name → (b ≡ true → is_another held name ≡ false) → here ≡ cond b (Some name) None
    → ((not a && b) || is_another held other) ≡ is_another (or_else here held) other
back_more true a name other held here as_it kept is =
    ap (λ x. x || is_another held other) (and_true (not a) ∙ ap not as_it) ∙ or_another held name other (kept refl) ∙ ap (λ h. is_another (or_else h held) other) (sym is)
  where
    and_true : (x : Bool) → (x && true) ≡ x
    and_true true = refl
    and_true false = refl
back_more false a name other held here as_it kept is =
    ap (λ x. x || is_another held other) (and_false (not a)) ∙ ap (λ h. is_another (or_else h held) other) (sym is)
  where
    and_false : (x : Bool) → (x && false) ≡ false
    and_false true = refl
    and_false false = refl

owner_more : (names : List (List ℕ)) (b : Bool) (n : ℕ) (name : List ℕ) (found held : Option ℕ) (owner here : Option (List ℕ)) → number_of names name ≡ Some n → found ≡ cond b (Some n) held → here ≡ cond b (Some name) None
    → IsNumberOf names held owner → IsNumberOf names found (or_else here owner)
owner_more names true n name found held owner here is finds tells stands =
    subst (λ (f : Option ℕ). IsNumberOf names f (or_else here owner)) (sym finds) (subst (λ (h : Option (List ℕ)). IsNumberOf names (Some n) (or_else h owner)) (sym tells) is)
owner_more names false n name found held owner here is finds tells stands =
    subst (λ (f : Option ℕ). IsNumberOf names f (or_else here owner)) (sym finds) (subst (λ (h : Option (List ℕ)). IsNumberOf names held (or_else h owner)) (sym tells) stands)

-- a decision that agrees is noted
pub noted : (names : List (List ℕ)) (earlier : List Line) (line : Line) (d d' : Decisions) (n : ℕ) (name : List ℕ) (t : Stamp) → Differ names → number_of names name ≡ Some n → decision_in line ≡ Some (name, t)
    → AreDecisions names earlier d → (list_any (decides_otherwise name t) earlier || list_any (decides_another name t) earlier) ≡ false
    → d'.timestamps.items ≡ set d.timestamps.items n (Some t) → ((u : Stamp) → tree.get stamp_cmp d'.owners u ≡ cond (stamp_eq t u) (Some n) (tree.get stamp_cmp d.owners u))
    → AreDecisions names (line ∷ earlier) d'
noted names earlier line d d' n name t differ is says are agrees stamps owners =
    let parts = both_false (list_any (decides_otherwise name t) earlier) (list_any (decides_another name t) earlier) agrees in
    let kept : is_other (newest_timestamp name earlier) t ≡ false = sym (are.agree name t) ∙ parts.0 in
    let kept_back : is_another (newest_at t earlier) name ≡ false = sym (are.agree_back name t) ∙ parts.1 in
    let at = numbered names name n is in
    let here : (other : List ℕ) → timestamp_of other (decision_in line) ≡ cond (bytes_eq other name) (Some t) None = λ other. ap (timestamp_of other) says in
    let owned : (u : Stamp) → owner_in u (decision_in line) ≡ cond (stamp_eq u t) (Some name) None = λ u. ap (owner_in u) says in
    record {
      timestamps =
          stamps ∙ ap (λ (xs : List (Option Stamp)). set xs n (Some t)) are.timestamps
          ∙ name-set (λ other. newest_timestamp other earlier) (λ other. newest_timestamp other (line ∷ earlier)) names n (Some t) name differ at.0 at.1
          (ap (λ (h : Option Stamp). or_else h (newest_timestamp name earlier)) (here name ∙ ap (λ b. cond b (Some t) None) ((bytes_eq-Decides name name).1 refl)))
          (λ other apart. ap (λ (h : Option Stamp). or_else h (newest_timestamp other earlier)) (here other ∙ ap (λ b. cond b (Some t) None) apart));
      owners = λ u. owner_more names (stamp_eq t u) n name (tree.get stamp_cmp d'.owners u) (tree.get stamp_cmp d.owners u) (newest_at u earlier) (owner_in u (decision_in line)) is (owners u)
          (owned u ∙ ap (λ b. cond b (Some name) None) (eq-sym stamp_order u t)) (are.owners u);
      agree = λ other s.
          (λ i. is_otherwise_at other s i || are.agree other s i)
          ∙ agree_more (bytes_eq other name) t s (newest_timestamp other earlier) (timestamp_of other (decision_in line))
          (λ same. ap (λ x. is_other (newest_timestamp x earlier) t) ((bytes_eq-Decides other name).0 same) ∙ kept) (here other);
      agree_back = λ other s.
          (λ i. is_another_at other s i || are.agree_back other s i)
          ∙ back_more (stamp_eq s t) (bytes_eq other name) name other (newest_at s earlier) (owner_in s (decision_in line)) refl
          (λ same. ap (λ x. is_another (newest_at x earlier) name) ((stamp_order.decides s t).0 same) ∙ kept_back) (owned s);
    }
  where
    is_otherwise_at : (other : List ℕ) (s : Stamp) → decides_otherwise other s line ≡ (bytes_eq other name && not (stamp_eq s t))
    is_otherwise_at other s = ap (is_otherwise other s) says

    is_another_at : (other : List ℕ) (s : Stamp) → decides_another other s line ≡ (not (bytes_eq other name) && stamp_eq s t)
    is_another_at other s = ap (is_of_another other s) says

-- The greatest timestamp of some answers, and the union of their dependencies.
use Rattle.std.proofs.Common.{◌≡◌, ℕ, Bool, true, false, ◌||◌, List, [], ◌∷◌, Contains, refl, sym, ◌∙◌, ap, subst, ⊎_elim, ◌⊎◌, inl, inr, arith}
use Rattle.std.specs.List.{AllByRecursion}
use Rattle.std.proofs.lemmas.Bool.{or_left, or_right, cond_both}
use Rattle.std.proofs.lemmas.List.Elements.{Contains-append_cases, Contains-push_cases}
use Rattle.acc_stamp.specs.declared.stamps.Stamp.{Stamp}
use Rattle.acc_stamp.specs.declared.stamps.TxnId.{TxnId}
use Rattle.acc_stamp.specs.Stamp.{stamp_lt}
use Rattle.acc_stamp.proofs.Order.{stamp_order, asym, le-trans}
use Rattle.acc_deps.specs.Deps.{AreDeps, deps_has, deps_union}
use Rattle.acc_deps.proofs.ByShard.{AreDeps-nil, AreDeps-union, deps_has-union}
use Rattle.acc_quorum.specs.Answers.{Answer, later_stamp, greatest, union_of}

-- ---- elements

none_in : {T : Type 0} (x : T) → Contains [] x → ⊥
none_in x h = omega (arith, h.1)

first_or_rest : {T : Type 0} (y : T) (ys : List T) (x : T) → Contains (y ∷ ys) x → (y ≡ x) ⊎ Contains ys x
first_or_rest y ys x h =
    ⊎_elim
    (λ first. ⊎_elim (λ none. absurd (none_in x none)) inl (Contains-push_cases [] y x first))
    inr
    (Contains-append_cases (y ∷ []) ys x h)

-- ---- the greatest timestamp

pub later-left : (a b : Stamp) → stamp_lt (later_stamp a b) a ≡ false
later-left a b =
    cond_both (stamp_lt a b) b a (λ s. stamp_lt s a ≡ false) (λ lt. asym stamp_order a b lt) (λ _. stamp_order.irrefl a)

pub later-right : (a b : Stamp) → stamp_lt (later_stamp a b) b ≡ false
later-right a b =
    cond_both (stamp_lt a b) b a (λ s. stamp_lt s b ≡ false) (λ _. stamp_order.irrefl b) (λ ge. ge)

pub greatest-above : (answers : List Answer) (a : Answer) → Contains answers a → stamp_lt (greatest answers) a.t ≡ false
greatest-above [] a h = absurd (none_in a h)
greatest-above (b ∷ answers) a h =
    ⊎_elim
    (λ same. subst (λ (c : Answer). stamp_lt (later_stamp (greatest answers) b.t) c.t ≡ false) same (later-right (greatest answers) b.t))
    (λ rest.
    le-trans stamp_order a.t (greatest answers) (later_stamp (greatest answers) b.t)
    (greatest-above answers a rest) (later-left (greatest answers) b.t))
    (first_or_rest b answers a h)

-- ---- the union

pub AreDeps-union_of : (answers : List Answer) → AllByRecursion (λ (a : Answer). AreDeps a.deps) answers → AreDeps (union_of answers)
AreDeps-union_of [] h = AreDeps-nil
AreDeps-union_of (a ∷ answers) h = AreDeps-union (union_of answers) a.deps (AreDeps-union_of answers h.1) h.0

pub union_of-has : (answers : List Answer) (a : Answer) (shard : ℕ) (x : TxnId) → AllByRecursion (λ (b : Answer). AreDeps b.deps) answers
    → Contains answers a → deps_has a.deps shard x ≡ true → deps_has (union_of answers) shard x ≡ true
union_of-has [] a shard x are h has = absurd (none_in a h)
union_of-has (b ∷ answers) a shard x are h has =
    deps_has-union (union_of answers) b.deps shard x (AreDeps-union_of answers are.1) are.0
    ∙ ⊎_elim
    (λ same. or_right (deps_has (union_of answers) shard x) (deps_has b.deps shard x) (subst (λ (c : Answer). deps_has c.deps shard x ≡ true) (sym same) has))
    (λ rest. or_left (deps_has (union_of answers) shard x) (deps_has b.deps shard x) (union_of-has answers a shard x are.1 rest has))
    (first_or_rest b answers a h)

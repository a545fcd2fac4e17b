-- Lists read at a place, sums over them, beginnings of lists, and the items of an actor.
use Rattle.std.proofs.Common.{◌≡◌, ◌≢◌, ℕ, zero, suc, ◌+◌, ◌<◌, ◌≤◌, ◌==◌, true, false, cond, List, [], ◌∷◌, ◌++◌, length, get_or, set, All, refl, sym, ap, ◌∙◌, subst, arith, append-nil, append_assoc, Contains, eqb-true, eq-eqb}
use Rattle.std.specs.Prelude.{sum_by}
use Rattle.std.proofs.lemmas.List.Sums.{sum_by-set, get_or-le-sum_by}
use Rattle.std.proofs.lemmas.List.Elements.{filter-append}
use mathlib.Core.Option.{some, some-injective, some-ne-none}
use mathlib.Core.List.{IsPrefix}
use lib.ListN.{get_elem?}
use Rattle.acc_tape.specs.Lists.{items_of}

module _ {A : Type 0} where
  pub at_place : (xs : List A) (i : ℕ) (x : A) → get_elem? xs i ≡ some x → (i < length xs) × (get_or xs i x ≡ x)
  at_place [] i x e = absurd (some-ne-none x (sym e))
  at_place (y ∷ ys) zero x e = (omega arith, some-injective y x e)
  at_place (y ∷ ys) (suc i) x e = let r = at_place ys i x e in (omega arith, r.1)

  -- what stands in front of the last value, and the last
  pub before_end : (xs : List A) (y : A) (i : ℕ) → i < length xs → get_elem? (xs ++ y ∷ []) i ≡ get_elem? xs i
  before_end [] y i low = absurd (omega arith)
  before_end (x ∷ xs) y zero low = refl
  before_end (x ∷ xs) y (suc i) low = before_end xs y i (omega arith)

  pub at_end : (xs : List A) (y : A) (i : ℕ) (x : A) → length xs ≤ i → get_elem? (xs ++ y ∷ []) i ≡ some x → (i ≡ length xs) × (y ≡ x)
  at_end [] y zero x high e = (refl, some-injective y x e)
  at_end [] y (suc i) x high e = absurd (some-ne-none x (sym e))
  at_end (z ∷ zs) y zero x high e = absurd (omega arith)
  at_end (z ∷ zs) y (suc i) x high e = let r = at_end zs y i x (omega arith) e in (ap suc r.0, r.1)

  pub sum_set : (f : A → ℕ) (xs : List A) (i : ℕ) (x y : A) → get_elem? xs i ≡ some x → sum_by f (set xs i y) + f x ≡ sum_by f xs + f y
  sum_set f xs i x y e = let r = at_place xs i x e in ap (λ z. sum_by f (set xs i y) + f z) (sym r.1) ∙ sum_by-set f xs i y x r.0

  pub sum_at : (f : A → ℕ) (xs : List A) (i : ℕ) (x : A) → get_elem? xs i ≡ some x → f x ≤ sum_by f xs
  sum_at f xs i x e = let r = at_place xs i x e in subst (λ z. f z ≤ sum_by f xs) r.1 (get_or-le-sum_by f xs i x r.0)

  pub prefix_itself : (xs : List A) → IsPrefix xs xs
  prefix_itself xs = ([], append-nil xs)

  pub prefix_longer : (xs ys zs new : List A) → IsPrefix xs ys → zs ≡ ys ++ new → IsPrefix xs zs
  prefix_longer xs ys zs new p e = (p.0 ++ new, sym (append_assoc xs p.0 new) ∙ ap (λ l. l ++ new) p.1 ∙ sym e)

  -- what stands in the empty list
  pub in_none : (x : A) → Contains [] x → ⊥
  in_none x h = let low : h.0 < 0 = h.1 in omega arith

  -- a list with one value has no other
  pub in_one : (x y : A) → Contains (x ∷ []) y → y ≡ x
  in_one x y h = let low : h.0 < 1 = h.1 in let z : h.0 ≡ 0 = omega arith in sym h.2 ∙ ap (λ k. get_or (x ∷ []) k y) z

-- what holds of all values of a list holds of each that stands in it
pub in_all : {A : Type 0} (P : A → Type 0) (xs : List A) → All P xs → (x : A) → Contains xs x → P x × (1 ≤ length xs)
in_all P xs all x (k, low, e) = (subst P e (all k x low), omega arith)

module _ {E : Type 0} (actor_of : E → ℕ) where
  -- items of another actor change nothing
  pub none_of : (actor : ℕ) (new : List E) → ((item : E) → Contains new item → actor_of item ≢ actor) → items_of actor_of actor new ≡ []
  none_of actor [] h = refl
  none_of actor (x ∷ xs) h =
      let not : (actor_of x == actor) ≡ false = elim (actor_of x == actor) as (λ b. (actor_of x == actor) ≡ b → b ≡ false) [ true ↦ (λ e. absurd (h x (0, omega arith, refl) (eqb-true (actor_of x) actor e))) | false ↦ (λ e. refl) ] refl in
      ap (λ b. cond b (x ∷ items_of actor_of actor xs) (items_of actor_of actor xs)) not ∙ none_of actor xs (λ item c. h item (suc c.0, (let low = c.1 in omega arith), c.2))

  pub item_of_actor : (actor : ℕ) (item : E) → actor_of item ≡ actor → items_of actor_of actor (item ∷ []) ≡ item ∷ []
  item_of_actor actor item own = ap (λ b. cond b (item ∷ []) []) (eq-eqb (actor_of item) actor own)

  -- where all are of the actor, none is left out
  pub all_of : (actor : ℕ) (new : List E) → ((item : E) → Contains new item → actor_of item ≡ actor) → items_of actor_of actor new ≡ new
  all_of actor [] h = refl
  all_of actor (x ∷ xs) h =
      ap (λ b. cond b (x ∷ items_of actor_of actor xs) (items_of actor_of actor xs)) (eq-eqb (actor_of x) actor (h x (0, omega arith, refl)))
      ∙ ap (λ l. x ∷ l) (all_of actor xs (λ item c. h item (suc c.0, (let low = c.1 in omega arith), c.2)))

  pub others_items : (actor : ℕ) (items now new : List E) → now ≡ items ++ new → ((item : E) → Contains new item → actor_of item ≢ actor) → items_of actor_of actor items ≡ items_of actor_of actor now
  others_items actor items now new e h = sym (ap (items_of actor_of actor) e ∙ filter-append (λ item. actor_of item == actor) items new ∙ ap (λ l. items_of actor_of actor items ++ l) (none_of actor new h) ∙ append-nil (items_of actor_of actor items))

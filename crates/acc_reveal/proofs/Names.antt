-- Tests of names, and of what has these names.
use Rattle.std.proofs.Common.{◌≡◌, Bool, true, false, ◌&&◌, ◌||◌, cond, List, [], ◌∷◌, map, filter, refl, sym, ◌∙◌, ap}
use Rattle.std.specs.List.{list_any}
use Rattle.acc_stamp.specs.declared.stamps.TxnId.{TxnId}
use Rattle.acc_stamp.specs.Stamp.{id_lt}
use Rattle.acc_stamp.specs.Rising.{ids_with, ids_union}
use Rattle.acc_stamp.proofs.Order.{id_order}
use Rattle.acc_stamp.proofs.Rising.{IsRisingBy-filter, is_among-filter, is_among-union, same_from_among}
use Rattle.acc_index.proofs.Ids.{IsRising-names}

-- ---- some name passes

passes_swapped : (a b c : Bool) → (a || (b || c)) ≡ (b || (a || c))
passes_swapped true true c = refl
passes_swapped true false c = refl
passes_swapped false true c = refl
passes_swapped false false c = refl

passes_twice : (a c : Bool) → (a || c) ≡ (a || (a || c))
passes_twice true c = refl
passes_twice false c = refl

any_with : (p : TxnId → Bool) (y : TxnId) (xs : List TxnId) → list_any p (ids_with y xs) ≡ (p y || list_any p xs)
any_with p y [] = refl
any_with p y (z ∷ zs) = by (id_lt y z) (id_lt z y) refl refl (any_with p y zs)
  where
    by : (b c : Bool) → id_lt y z ≡ b → id_lt z y ≡ c → list_any p (ids_with y zs) ≡ (p y || list_any p zs)
        → list_any p (cond b (y ∷ z ∷ zs) (cond c (z ∷ ids_with y zs) (z ∷ zs))) ≡ (p y || (p z || list_any p zs))
    by true c e f rest = refl
    by false true e f rest = ap (λ b. p z || b) rest ∙ passes_swapped (p z) (p y) (list_any p zs)
    by false false e f rest =
        passes_twice (p z) (list_any p zs) ∙ ap (λ w. p w || (p z || list_any p zs)) (sym (id_order.connected y z e f))

pub any_names : (p : TxnId → Bool) (xs : List TxnId) → list_any p (ids_union [] xs) ≡ list_any p xs
any_names p [] = refl
any_names p (y ∷ ys) = any_with p y (ids_union [] ys) ∙ ap (λ b. p y || b) (any_names p ys)

-- ---- the names that pass

pub filter_names : (p : TxnId → Bool) (xs : List TxnId) → filter p (ids_union [] xs) ≡ ids_union [] (filter p xs)
filter_names p xs =
    same_from_among id_order (filter p (ids_union [] xs)) (ids_union [] (filter p xs))
    (IsRisingBy-filter id_order p (ids_union [] xs) (IsRising-names xs)) (IsRising-names (filter p xs))
    (λ q.
    is_among-filter id_order q p (ids_union [] xs)
    ∙ ap (λ b. p q && b) (is_among-union id_order q [] xs)
    ∙ sym (is_among-filter id_order q p xs)
    ∙ sym (is_among-union id_order q [] (filter p xs)))

-- ---- what has the names

module _ {A : Type 0} (name : A → TxnId) (p : TxnId → Bool) where
  pub any_named : (xs : List A) → list_any p (map name xs) ≡ list_any (λ a. p (name a)) xs
  any_named [] = refl
  any_named (a ∷ xs) = ap (λ b. p (name a) || b) (any_named xs)

  named_by : (b : Bool) (a : A) (xs : List A) → filter p (map name xs) ≡ map name (filter (λ a. p (name a)) xs)
      → cond b (name a ∷ filter p (map name xs)) (filter p (map name xs)) ≡ map name (cond b (a ∷ filter (λ a. p (name a)) xs) (filter (λ a. p (name a)) xs))
  named_by true a xs rest = ap (λ ys. name a ∷ ys) rest
  named_by false a xs rest = rest

  pub filter_named : (xs : List A) → filter p (map name xs) ≡ map name (filter (λ a. p (name a)) xs)
  filter_named [] = refl
  filter_named (a ∷ xs) = named_by (p (name a)) a xs (filter_named xs)

pub filter_all : {A : Type 0} (xs : List A) → filter (λ (a : A). true) xs ≡ xs
filter_all [] = refl
filter_all (a ∷ xs) = ap (λ ys. a ∷ ys) (filter_all xs)

-- The steps of a merge of two rising lists of transactions.
use Rattle.std.proofs.Common.{◌≡◌, ℕ, ◌+◌, ◌<◌, ◌≤◌, true, List, [], ◌∷◌, ◌++◌, length, get_or, take, drop, ◌-◌, sym, ap, ◌∙◌, subst, append_assoc, append-nil, add-one, drop-cons, arith}
use Rattle.std.specs.declared.cmp.Ordering.TheVariants.{Less, Equal, Greater}
use Rattle.std.specs.List.{AllByRecursion}
use Rattle.std.specs.Ordering.{is_lt, ordering_reverse}
use Rattle.std.proofs.lemmas.List.{drop_all, take_all, length-drop}
use Rattle.acc_stamp.specs.declared.stamps.TxnId.{TxnId}
use Rattle.acc_stamp.specs.Stamp.{id_cmp, id_lt}
use Rattle.acc_stamp.specs.Rising.{IsRising, ids_union}
use Rattle.acc_stamp.proofs.Order.{id_order, id_cmp_total, id_cmp_exact}
use Rattle.acc_stamp.proofs.Rising.{below_each, IsRisingBy-drop, rising_union-left, rising_union-right, rising_union-both, rising_union-nil}

pub front : {X : Type 0} (xs : List X) (i : ℕ) (d : X) → i < length xs → drop i xs ≡ get_or xs i d ∷ drop (i + 1) xs
front xs i d h = rw add-one (drop-cons xs i d h)

pub whole_rest : {X : Type 0} (xs : List X) (i : ℕ) → take (length xs - i) (drop i xs) ≡ drop i xs
whole_rest xs i = let n = length-drop i xs in take_all (length xs - i) (drop i xs) (omega arith)

-- one more element is taken over, which is the first of what was left
pub stepped : {X : Type 0} (merged after left rest all : List X) (x : X) → after ≡ merged ++ x ∷ [] → left ≡ x ∷ rest → merged ++ left ≡ all → after ++ rest ≡ all
stepped merged after left rest all x e f m = ap (λ zs. zs ++ rest) e ∙ append_assoc merged (x ∷ []) rest ∙ ap (λ zs. merged ++ zs) (sym f) ∙ m

-- what is merged at the places i and j, with the union of what is left behind it, is the union
abbrev pub IsMerged : List TxnId → List TxnId → List TxnId → ℕ → ℕ → Type 0
IsMerged left right merged i j = merged ++ ids_union (drop i left) (drop j right) ≡ ids_union left right

above : (x : TxnId) (ys : List TxnId) (j : ℕ) (d : TxnId) → IsRising ys → j < length ys → id_lt x (get_or ys j d) ≡ true → AllByRecursion (λ y. id_lt x y ≡ true) (drop j ys)
above x ys j d r h e =
    let f = front ys j d h in
    let rest : IsRising (get_or ys j d ∷ drop (j + 1) ys) = subst IsRising f (IsRisingBy-drop id_order j ys r) in
    subst (AllByRecursion (λ y. id_lt x y ≡ true)) (sym f) (e, below_each id_order x (get_or ys j d) (drop (j + 1) ys) e rest.0)

behind : (xs : List TxnId) (i : ℕ) (d : TxnId) → IsRising xs → i < length xs → AllByRecursion (λ y. id_lt (get_or xs i d) y ≡ true) (drop (i + 1) xs)
behind xs i d r h = let rest : IsRising (get_or xs i d ∷ drop (i + 1) xs) = subst IsRising (front xs i d h) (IsRisingBy-drop id_order i xs r) in rest.0

pub take_left : (left right merged after : List TxnId) (i j : ℕ) (d : TxnId) → IsRising right → i < length left → j < length right → id_cmp (get_or left i d) (get_or right j d) ≡ Less → IsMerged left right merged i j → after ≡ merged ++ get_or left i d ∷ [] → IsMerged left right after (i + 1) j
take_left left right merged after i j d r h k less m e =
    let x = get_or left i d in
    stepped merged after _ _ _ x e
    (ap (λ xs. ids_union xs (drop j right)) (front left i d h) ∙ rising_union-left id_order x (drop (i + 1) left) (drop j right) (above x right j d r k (ap is_lt less)))
    m

pub take_right : (left right merged after : List TxnId) (i j : ℕ) (d : TxnId) → IsRising left → IsRising right → i < length left → j < length right → id_cmp (get_or left i d) (get_or right j d) ≡ Greater → IsMerged left right merged i j → after ≡ merged ++ get_or right j d ∷ [] → IsMerged left right after i (j + 1)
take_right left right merged after i j d l r h k greater m e =
    let y = get_or right j d in
    let less : id_lt y (get_or left i d) ≡ true = ap is_lt (id_cmp_total.antisymm y (get_or left i d) ∙ ap ordering_reverse greater) in
    stepped merged after _ _ _ y e
    (ap (ids_union (drop i left)) (front right j d k) ∙ rising_union-right id_order y (drop i left) (drop (j + 1) right) (above y left i d l h less) (behind right j d r k))
    m

pub take_both : (left right merged after : List TxnId) (i j : ℕ) (d : TxnId) → IsRising right → i < length left → j < length right → id_cmp (get_or left i d) (get_or right j d) ≡ Equal → IsMerged left right merged i j → after ≡ merged ++ get_or left i d ∷ [] → IsMerged left right after (i + 1) (j + 1)
take_both left right merged after i j d r h k equal m e =
    let x = get_or left i d in
    let same : get_or right j d ≡ x = sym (id_cmp_exact x (get_or right j d) equal) in
    stepped merged after _ _ _ x e
    (ap (λ xs. ids_union xs (drop j right)) (front left i d h)
    ∙ ap (ids_union (x ∷ drop (i + 1) left)) (front right j d k ∙ ap (λ y. y ∷ drop (j + 1) right) same)
    ∙ rising_union-both id_order x (drop (i + 1) left) (drop (j + 1) right) (subst (λ y. AllByRecursion (λ z. id_lt y z ≡ true) (drop (j + 1) right)) same (behind right j d r k)))
    m

pub left_is_done : (left right merged : List TxnId) (i j : ℕ) → IsRising right → length left ≤ i → IsMerged left right merged i j → (merged ++ drop i left) ++ drop j right ≡ ids_union left right
left_is_done left right merged i j r h m =
    let none = drop_all i left h in
    ap (λ zs. (merged ++ zs) ++ drop j right) none ∙ ap (λ zs. zs ++ drop j right) (append-nil merged)
    ∙ ap (λ zs. merged ++ zs) (sym (ap (λ zs. ids_union zs (drop j right)) none ∙ rising_union-nil id_order (drop j right) (IsRisingBy-drop id_order j right r)))
    ∙ m

pub right_is_done : (left right merged : List TxnId) (i j : ℕ) → length right ≤ j → IsMerged left right merged i j → (merged ++ drop i left) ++ drop j right ≡ ids_union left right
right_is_done left right merged i j h m =
    let none = drop_all j right h in
    ap (λ zs. (merged ++ drop i left) ++ zs) none ∙ append-nil (merged ++ drop i left)
    ∙ ap (λ zs. merged ++ ids_union (drop i left) zs) (sym none) ∙ m

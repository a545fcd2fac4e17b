-- Rising lists of names: what a sort leaves, and lists with the same names.
use Rattle.std.proofs.Common.{◌≡◌, true, List, [], ◌∷◌, sym, ap, ◌∙◌, arith}
use Rattle.std.specs.declared.cmp.Ordering.TheVariants.{Less}
use Rattle.std.specs.Cmp.{IsEquivalence}
use Rattle.std.specs.List.{Contains, dedup}
use Rattle.std.specs.List.Sorted.{IsSorted, IsStrictlySortedBy}
use Rattle.std.specs.Ordering.{is_lt, eq_by_cmp}
use Rattle.std.proofs.lemmas.Bool.Decides.{same_from_decides, nat_tests}
use Rattle.std.proofs.lemmas.Cmp.{eq_by_cmp_equiv}
use Rattle.std.proofs.lemmas.List.Kept.{Contains-dedup, Contains-from_dedup, IsStrictlySortedBy-dedup}
use Rattle.acc_stamp.specs.declared.stamps.TxnId.{TxnId}
use Rattle.acc_stamp.specs.Stamp.{id_cmp, id_lt, id_eq}
use Rattle.acc_stamp.specs.Rising.{IsRising, id_among, ids_union}
use Rattle.acc_stamp.proofs.Order.{id_order, id_cmp_total}
use Rattle.acc_stamp.proofs.Places.{is_among-Decides}
use Rattle.acc_stamp.proofs.Rising.{each_weaker, IsRisingBy-union, is_among-union, same_from_among}

-- two lists have the same names
abbrev pub SameIds : List TxnId → List TxnId → Type 0
SameIds xs ys = ((x : TxnId) → Contains xs x → Contains ys x) × ((x : TxnId) → Contains ys x → Contains xs x)

among_same : (xs ys : List TxnId) → SameIds xs ys → (q : TxnId) → id_among q xs ≡ id_among q ys
among_same xs ys same q =
    let l = is_among-Decides id_order xs q in
    let r = is_among-Decides id_order ys q in
    same_from_decides (id_among q xs) (id_among q ys) l ((λ h. same.1 q (r.0 h)), (λ c. r.1 (same.0 q c)))

pub IsRising-names : (xs : List TxnId) → IsRising (ids_union [] xs)
IsRising-names xs = IsRisingBy-union id_order [] xs tt

-- a rising list with these names is the union
pub rising_names : (xs ys : List TxnId) → IsRising ys → SameIds ys xs → ys ≡ ids_union [] xs
rising_names xs ys rises same =
    same_from_among id_order ys (ids_union [] xs) rises (IsRising-names xs)
    (λ q. among_same ys xs same q ∙ sym (is_among-union id_order q [] xs))

-- unions of the same names are one
pub same_names : (xs ys : List TxnId) → SameIds xs ys → ids_union [] xs ≡ ids_union [] ys
same_names xs ys same =
    same_from_among id_order (ids_union [] xs) (ids_union [] ys) (IsRising-names xs) (IsRising-names ys)
    (λ q. is_among-union id_order q [] xs ∙ among_same xs ys same q ∙ sym (is_among-union id_order q [] ys))

-- ---- sorted, each once

ties : (x y : TxnId) → id_eq x y ≡ eq_by_cmp id_cmp x y
ties x y = grind (arith, nat_tests)

strictly : (xs : List TxnId) → IsStrictlySortedBy id_cmp xs → IsRising xs
unfolding IsStrictlySortedBy
strictly [] h = tt
strictly (x ∷ xs) h = (each_weaker (λ y. id_cmp x y ≡ Less) (λ y. id_lt x y ≡ true) xs (λ y e. ap is_lt e) h.0, strictly xs h.1)

id_equiv : IsEquivalence id_eq
id_equiv =
    let by_order = eq_by_cmp_equiv id_cmp_total in
    record {
      refl = λ x. ties x x ∙ by_order.refl x;
      symm = λ x y. ties x y ∙ by_order.symm x y ∙ sym (ties y x);
      congr = λ x y z h. ties x z ∙ by_order.congr x y z (sym (ties x y) ∙ h) ∙ sym (ties y z);
    }

pub sorted_names : (found sorted : List TxnId) → ((x : TxnId) → Contains found x → Contains sorted x) → ((x : TxnId) → Contains sorted x → Contains found x) → IsSorted id_cmp sorted → dedup id_eq sorted ≡ ids_union [] found
sorted_names found sorted to from order =
    rising_names found (dedup id_eq sorted) (strictly _ (IsStrictlySortedBy-dedup id_cmp_total ties sorted order)) (
      (λ x c. from x (Contains-from_dedup id_eq sorted x c)),
      (λ x c. Contains-dedup id_equiv (λ a b. (id_order.decides a b).0) sorted x (to x c)),
    )

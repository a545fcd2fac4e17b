-- Lists that rise by a strict order, and lists of transactions and of ballots that do.
--     IsRisingBy lt xs, IsRising ids      each element is below all that stand behind it
--     is_rising_by lt xs, is_rising ids      the same as a test, of neighbours
--     is_among eq x xs, id_among id ids      x is an element
--     rising_with lt x xs, ids_with id ids      a rising list with x, once, at its place
--     IsPlaceOf key xs x i, IsGapFor lt key xs x i      where x is, or would go, by a key of the elements
--     rising_union lt xs ys, ids_union ids more      a rising list with each element of ys, once, at its place
use Rattle.std.specs.Prelude.{◌≡◌, ℕ, ◌<◌, ◌≤◌, length, take, drop, slice_index_or, Bool, true, ◌&&◌, if◌then◌else◌, List, [], ◌∷◌}
use Rattle.std.specs.List.{AllByRecursion, list_any}
use Rattle.acc_stamp.specs.declared.stamps.TxnId.{TxnId}
use Rattle.acc_stamp.specs.declared.stamps.Ballot.{Ballot}
use Rattle.acc_stamp.specs.Stamp.{id_lt, id_eq, ballot_lt, ballot_eq}

abbrev pub IsRisingBy : {K : Type 0} → (K → K → Bool) → List K → Type 0
IsRisingBy lt [] = Unit {0}
IsRisingBy lt (x ∷ xs) = AllByRecursion (λ y. lt x y ≡ true) xs × IsRisingBy lt xs

-- x is below the first element, if there is one
abbrev pub is_before : {K : Type 0} → (K → K → Bool) → K → List K → Bool
is_before lt x [] = true
is_before lt x (y ∷ ys) = lt x y

abbrev pub is_rising_by : {K : Type 0} → (K → K → Bool) → List K → Bool
is_rising_by lt [] = true
is_rising_by lt (x ∷ xs) = is_before lt x xs && is_rising_by lt xs

abbrev pub is_among : {K : Type 0} → (K → K → Bool) → K → List K → Bool
is_among eq x xs = list_any (λ y. eq y x) xs

abbrev pub rising_with : {K : Type 0} → (K → K → Bool) → K → List K → List K
rising_with lt x [] = x ∷ []
rising_with lt x (y ∷ ys) = if lt x y then x ∷ y ∷ ys else (if lt y x then y ∷ rising_with lt x ys else y ∷ ys)

abbrev pub rising_union : {K : Type 0} → (K → K → Bool) → List K → List K → List K
rising_union lt xs [] = xs
rising_union lt xs (y ∷ ys) = rising_with lt y (rising_union lt xs ys)

-- ---- places, by a key

-- the place of the element whose key is x
pub record IsPlaceOf {X K : Type 0} (key : X → K) (xs : List X) (x : K) (i : ℕ) : Type 0 where
  pub in_range : i < length xs
  pub at : (d : X) → key (slice_index_or xs i d) ≡ x

-- where the element whose key is x would go: those before it have smaller keys, and the others greater ones
pub record IsGapFor {X K : Type 0} (lt : K → K → Bool) (key : X → K) (xs : List X) (x : K) (i : ℕ) : Type 0 where
  pub in_range : i ≤ length xs
  pub below : AllByRecursion (λ y. lt (key y) x ≡ true) (take i xs)
  pub above : AllByRecursion (λ y. lt x (key y) ≡ true) (drop i xs)

-- ---- transactions

abbrev pub IsRising : List TxnId → Type 0
IsRising ids = IsRisingBy id_lt ids

abbrev pub is_rising : List TxnId → Bool
is_rising ids = is_rising_by id_lt ids

abbrev pub id_among : TxnId → List TxnId → Bool
id_among id ids = is_among id_eq id ids

abbrev pub ids_with : TxnId → List TxnId → List TxnId
ids_with id ids = rising_with id_lt id ids

abbrev pub ids_union : List TxnId → List TxnId → List TxnId
ids_union ids more = rising_union id_lt ids more

-- ---- ballots

abbrev pub ballot_among : Ballot → List Ballot → Bool
ballot_among ballot ballots = is_among ballot_eq ballot ballots

abbrev pub ballots_with : Ballot → List Ballot → List Ballot
ballots_with ballot ballots = rising_with ballot_lt ballot ballots

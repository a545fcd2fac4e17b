-- Where a ballot goes among others.
use Rattle.std.proofs.Common.{◌≡◌, ℕ, ◌+◌, ◌<◌, ◌≤◌, zero, suc, Bool, true, false, List, [], ◌∷◌, ◌++◌, length, get_or, take, drop, insert, None, Some, refl, sym, ap, ◌∙◌, subst, arith}
use Rattle.std.specs.List.{AllByRecursion, slice_get}
use Rattle.std.proofs.lemmas.Bool.{true≢false, cond-true, cond-false}
use Rattle.std.proofs.lemmas.List.{take-append-drop, take_more, drop_more, drop_all}
use Rattle.std.proofs.lemmas.Option.{slice_get_within, get_or_from_slice_get}
use Rattle.acc_stamp.specs.declared.stamps.Ballot.{Ballot}
use Rattle.acc_stamp.specs.Stamp.{ballot_lt, ballot_eq}
use Rattle.acc_stamp.specs.Rising.{ballots_with}
use Rattle.acc_stamp.proofs.Order.{asym, ballot_order}
use Rattle.acc_stamp.proofs.Rising.{each_append}
use Rattle.acc_execute.specs.Owned.{is_first, is_below_first, IsSplit}

-- those in front that are smaller stay there
with_behind : (b : Ballot) (xs ys : List Ballot) → AllByRecursion (λ a. ballot_lt a b ≡ true) xs → ballots_with b (xs ++ ys) ≡ xs ++ ballots_with b ys
with_behind b [] ys h = refl
with_behind b (x ∷ xs) ys h =
    cond-false (ballot_lt b x) _ _ (asym ballot_order x b h.0) ∙ cond-true (ballot_lt x b) _ _ h.0 ∙ ap (λ list. x ∷ list) (with_behind b xs ys h.1)

kept_here : (b : Ballot) (ys : List Ballot) → is_first b ys ≡ true → ys ≡ ballots_with b ys
kept_here b [] h = absurd (true≢false (sym h))
kept_here b (y ∷ ys) h =
    let same : y ≡ b = (ballot_order.decides y b).0 h in
    sym
    (cond-false (ballot_lt b y) _ _ (ap (ballot_lt b) same ∙ ballot_order.irrefl b)
    ∙ cond-false (ballot_lt y b) _ _ (ap (λ z. ballot_lt z b) same ∙ ballot_order.irrefl b))

put_by : (b y : Ballot) (ys : List Ballot) (v : Bool) → ballot_lt b y ≡ v → ballot_lt y b ≡ false → ballot_eq y b ≡ false → b ∷ y ∷ ys ≡ ballots_with b (y ∷ ys)
put_by b y ys true is below other = sym (cond-true (ballot_lt b y) _ _ is)
put_by b y ys false is below other =
    absurd (true≢false (sym ((ballot_order.decides y b).1 (ballot_order.connected y b below is)) ∙ other))

put_here : (b : Ballot) (ys : List Ballot) → is_below_first b ys ≡ false → is_first b ys ≡ false → b ∷ ys ≡ ballots_with b ys
put_here b [] below other = refl
put_here b (y ∷ ys) below other = put_by b y ys (ballot_lt b y) refl below other

-- ---- looking for the place

pub more_below : (b : Ballot) (xs : List Ballot) (place : ℕ) (d : Ballot) → place < length xs → AllByRecursion (λ a. ballot_lt a b ≡ true) (take place xs)
    → ballot_lt (get_or xs place d) b ≡ true → AllByRecursion (λ a. ballot_lt a b ≡ true) (take (place + 1) xs)
more_below b xs place d within so_far here =
    subst (AllByRecursion (λ a. ballot_lt a b ≡ true)) (sym (take_more xs place d within))
    (each_append (λ a. ballot_lt a b ≡ true) (take place xs) (get_or xs place d ∷ []) so_far (here, tt))

pub split_here : (b : Ballot) (xs : List Ballot) (place : ℕ) (d : Ballot) → place < length xs → AllByRecursion (λ a. ballot_lt a b ≡ true) (take place xs)
    → ballot_lt (get_or xs place d) b ≡ false → IsSplit b xs place
split_here b xs place d within so_far here =
    record { within = omega arith; below = so_far; stops = ap (is_below_first b) (drop_more xs place d within) ∙ here }

pub split_behind : (b : Ballot) (xs : List Ballot) (place : ℕ) → place ≤ length xs → length xs ≤ place → AllByRecursion (λ a. ballot_lt a b ≡ true) (take place xs) → IsSplit b xs place
split_behind b xs place within end so_far =
    record { within = within; below = so_far; stops = ap (is_below_first b) (drop_all place xs end) }

-- the ballot at a place
pub first_there : (b : Ballot) (xs : List Ballot) (place : ℕ) (y : Ballot) → slice_get xs place ≡ Some y → is_first b (drop place xs) ≡ ballot_eq y b
first_there b xs place y there =
    ap (is_first b) (drop_more xs place y (slice_get_within xs place y there)) ∙ ap (λ z. ballot_eq z b) (get_or_from_slice_get xs place y y there)

pub none_there : (b : Ballot) (xs : List Ballot) (place : ℕ) → slice_get xs place ≡ None → is_first b (drop place xs) ≡ false
none_there b [] zero e = refl
none_there b [] (suc place) e = refl
none_there b (x ∷ xs) zero e = absurd cc
none_there b (x ∷ xs) (suc place) e = none_there b xs place e

-- ---- putting it there

module _ (b : Ballot) (xs : List Ballot) (place : ℕ) (s : IsSplit b xs place) where
  splits : ballots_with b xs ≡ take place xs ++ ballots_with b (drop place xs)
  splits = ap (ballots_with b) (sym (take-append-drop place xs)) ∙ with_behind b (take place xs) (drop place xs) s.below

  pub kept_there : is_first b (drop place xs) ≡ true → xs ≡ ballots_with b xs
  kept_there h = sym (take-append-drop place xs) ∙ ap (λ list. take place xs ++ list) (kept_here b (drop place xs) h) ∙ sym splits

  pub put_there : is_first b (drop place xs) ≡ false → insert xs place b ≡ ballots_with b xs
  put_there h = ap (λ list. take place xs ++ list) (put_here b (drop place xs) s.stops h) ∙ sym splits

-- The number that digits write, digit by digit.
use Rattle.std.proofs.Common.{◌≡◌, ℕ, suc, ◌+◌, ◌-◌, ◌*◌, ◌^◌, ◌<◌, ◌≤◌, Bool, true, false, cond, List, [], ◌∷◌, length, take, drop, get_or, Some, None, refl, sym, ap, ◌∙◌, drop-cons, add-one, arith}
use Rattle.std.proofs.lemmas.List.{drop_all}
use Rattle.std.specs.Char.{is_ascii_digit, digit_value}
use Rattle.std.specs.Int.{IsInRange}
use Rattle.std.specs.List.{list_all, prefix_len}
use Rattle.std.specs.Str.Parse.{digits_value, digits_value_after}
use Rattle.std.proofs.lemmas.List.Folds.{list_all_at}
use Rattle.std.proofs.lemmas.Str.{digit_value_digit}
use Rattle.acc_token.specs.Tokens.{number_of}

-- further digits make no number smaller
pub grows : (number : ℕ) (digits : List ℕ) → number ≤ digits_value_after 10 number digits
grows number [] = omega arith
grows number (c ∷ cs) = let h = grows (number * 10 + digit_value c) cs in omega arith

pub digit_in : (digits : List ℕ) (i : ℕ) → list_all is_ascii_digit digits ≡ true → i < length digits → IsInRange 48 57 (get_or digits i 0)
digit_in [] i all within = absurd (omega arith)
digit_in (c ∷ cs) i all within = grind (arith, list_all_at is_ascii_digit (c ∷ cs) i 0 within)

-- what one digit more makes of the number
pub one_more : (digits : List ℕ) (i number : ℕ) → i < length digits
    → digits_value_after 10 number (drop i digits) ≡ digits_value_after 10 (number * 10 + digit_value (get_or digits i 0)) (drop (i + 1) digits)
one_more digits i number within = rw (add-one, drop-cons digits i 0) refl

pub fits : (digits : List ℕ) (number : ℕ) → number < 2 ^ 64 → number ≡ digits_value 10 digits → Some number ≡ number_of digits
fits digits number small is = grind arith

pub beyond : (digits : List ℕ) → 2 ^ 64 ≤ digits_value 10 digits → None ≡ number_of digits
beyond digits large = grind arith

-- where one digit more makes the number too large for 64 bits, all of them do
pub overflows : (digits : List ℕ) (i number more : ℕ) → list_all is_ascii_digit digits ≡ true → i < length digits
    → digits_value_after 10 number (drop i digits) ≡ digits_value 10 digits
    → (number * 10 + more < 2 ^ 64 → ⊥) → more ≤ get_or digits i 0 - 48 → None ≡ number_of digits
overflows digits i number more all within so_far large small =
    let value = digit_value_digit (get_or digits i 0) (digit_in digits i all within) in
    let is = grows (number * 10 + digit_value (get_or digits i 0)) (drop (i + 1) digits) in
    let step = one_more digits i number within in
    beyond digits (omega (arith, so_far))

-- behind the last digit
pub complete : (digits : List ℕ) (i number : ℕ) → length digits ≤ i → number < 2 ^ 64
    → digits_value_after 10 number (drop i digits) ≡ digits_value 10 digits → Some number ≡ number_of digits
complete digits i number end small so_far =
    fits digits number small (ap (digits_value_after 10 number) (sym (drop_all i digits end)) ∙ so_far)

one-add : (n : ℕ) → 1 + n ≡ suc n
one-add n = omega arith

-- the front that passes a test passes it
passes_front : (p : ℕ → Bool) (c : ℕ) (cs : List ℕ) (b : Bool) → p c ≡ b → list_all p (take (prefix_len p cs) cs) ≡ true
    → list_all p (take (cond b (1 + prefix_len p cs) 0) (c ∷ cs)) ≡ true
passes_front p c cs true passes others = rw (one-add (prefix_len p cs)) (rw passes others)
passes_front p c cs false fails others = refl

pub passes_take_while : (p : ℕ → Bool) (cs : List ℕ) → list_all p (take (prefix_len p cs) cs) ≡ true
passes_take_while p [] = refl
passes_take_while p (c ∷ cs) = passes_front p c cs (p c) refl (passes_take_while p cs)

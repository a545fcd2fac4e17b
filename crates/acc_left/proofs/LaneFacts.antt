-- The bytes of pairs of digits, as lanes compute them.
use Rattle.std.proofs.Common.{◌≡◌, ℕ, zero, suc, ◌+◌, ◌*◌, ◌/◌, ◌%◌, ◌<◌, ◌≤◌, true, List, [], ◌∷◌, ◌++◌, length, map, take, drop, Ok, Err, Some, Result, refl, sym, ap, ◌∙◌, arith}
use Rattle.std.specs.Simd.Lanes.{chunk, digits_l, number_l, put_chunk}
use Rattle.std.specs.List.{list_all}
use Rattle.std.proofs.lemmas.Bool.{and_parts}
use Rattle.std.proofs.lemmas.List.{append_assoc, take-append-drop}
use Rattle.std.proofs.lemmas.List.Folds.{list_all-append}
use Rattle.std.proofs.lemmas.Simd.{chunk-drop, length-chunk, take_more_put_chunk}
use Rattle.hex.specs.Hex.{decode_pairs, hex_digit_value, pair_value}
use Rattle.hex.proofs.Pairs.{cons_byte, decode_pairs-ok_pair, prepend}
use Rattle.hex.specs.declared.error.FromHexError.{FromHexError}
use Rattle.acc_left.specs.Digits.{is_lower_digit, pair_byte, lane_worth}

-- the lanes hold the pairs
pub first_lane : (a b : ℕ) (rest : ℕ) → a < 256 → b < 256 → (a + 256 * (b + 256 * rest)) % 65536 ≡ a + 256 * b
first_lane a b rest low high = omega arith

pub other_lanes : (a b : ℕ) (rest : ℕ) → a < 256 → b < 256 → (a + 256 * (b + 256 * rest)) / 65536 ≡ rest
other_lanes a b rest low high = omega arith

-- what a lane computes of a pair of digits
pub lane_is : (a b : ℕ) → a < 256 → b < 256 → a % 16 + a / 64 * 9 < 16 → b % 16 + b / 64 * 9 < 16
    → pair_byte (a + 256 * b) ≡ (a % 16 + a / 64 * 9) * 16 + (b % 16 + b / 64 * 9)
lane_is a b low high first second =
    let lower : (a + 256 * b) % 256 ≡ a = omega arith in
    let upper : (a + 256 * b) / 256 ≡ b = omega arith in
    let worth_a : lane_worth a ≡ a % 16 + a / 64 * 9 = omega arith in
    let worth_b : lane_worth b ≡ b % 16 + b / 64 * 9 = omega arith in
    (λ k. (lane_worth (lower k) * 16 % 65536 + lane_worth (upper k)) % 65536 % 256)
    ∙ (λ k. (worth_a k * 16 % 65536 + worth_b k) % 65536 % 256) ∙ omega (arith, first, second)

-- ---- digits

pub digit_low : (c : ℕ) → is_lower_digit c ≡ true → c < 128
digit_low c is = grind (arith)

pub digit_value : (c : ℕ) → is_lower_digit c ≡ true → hex_digit_value c ≡ Some (c % 16 + c / 64 * 9)
digit_value c is = grind (arith)

pub digit_small : (c : ℕ) → is_lower_digit c ≡ true → c % 16 + c / 64 * 9 < 16
digit_small c is = grind (arith)

pair_is : (a b i : ℕ) → is_lower_digit a ≡ true → is_lower_digit b ≡ true → pair_value a b i ≡ Ok (pair_byte (a + 256 * b))
pair_is a b i first second =
    let low = digit_low a first in
    let high = digit_low b second in
    rw (digit_value a first, digit_value b second)
    (ap Ok (sym (lane_is a b (omega (arith, low)) (omega (arith, high)) (digit_small a first) (digit_small b second))))

-- ---- many pairs

cons_prepend : (v : ℕ) (front : List ℕ) (r : Result (List ℕ) FromHexError) → cons_byte v (prepend front r) ≡ prepend (v ∷ front) r
cons_prepend v front (Ok bytes) = refl
cons_prepend v front (Err e) = refl

prepend_none : (r : Result (List ℕ) FromHexError) → r ≡ prepend [] r
prepend_none (Ok bytes) = refl
prepend_none (Err e) = refl

prepend_twice : (front more : List ℕ) (r : Result (List ℕ) FromHexError) → prepend front (prepend more r) ≡ prepend (front ++ more) r
prepend_twice front more (Ok bytes) = ap Ok (sym (append_assoc front more bytes))
prepend_twice front more (Err e) = refl

pub lanes_say : (n i : ℕ) (front rest : List ℕ) → length front ≡ 2 * n → list_all is_lower_digit front ≡ true
    → decode_pairs i (front ++ rest) ≡ prepend (map pair_byte (digits_l 65536 n (number_l 256 front))) (decode_pairs (i + 2 * n) rest)
lanes_say zero i [] rest long all = prepend_none (decode_pairs i rest) ∙ ap (λ (k : ℕ). prepend [] (decode_pairs k rest)) (omega arith)
lanes_say zero i (a ∷ front) rest long all = absurd (omega (arith, long))
lanes_say (suc n) i [] rest long all = absurd (omega (arith, long))
lanes_say (suc n) i (a ∷ []) rest long all = absurd (omega (arith, long))
lanes_say (suc n) i (a ∷ b ∷ front) rest long all =
    let first = and_parts _ _ all in
    let second = and_parts _ _ first.1 in
    let low = digit_low a first.0 in
    let high = digit_low b second.0 in
    let number : ℕ = number_l 256 front in
    let lane : (a + 256 * (b + 256 * number)) % 65536 ≡ a + 256 * b = first_lane a b number (omega (arith, low)) (omega (arith, high)) in
    let others : (a + 256 * (b + 256 * number)) / 65536 ≡ number = other_lanes a b number (omega (arith, low)) (omega (arith, high)) in
    let place : i + 2 + 2 * n ≡ i + 2 * suc n = omega arith in
    decode_pairs-ok_pair i a b (pair_byte (a + 256 * b)) (front ++ rest) (pair_is a b i first.0 second.0)
    ∙ ap (cons_byte (pair_byte (a + 256 * b))) (lanes_say n (i + 2) front rest (omega (arith, long)) second.1)
    ∙ cons_prepend (pair_byte (a + 256 * b)) (map pair_byte (digits_l 65536 n number)) (decode_pairs (i + 2 + 2 * n) rest)
    ∙ (λ k. prepend (pair_byte (sym lane k) ∷ map pair_byte (digits_l 65536 n (sym others k))) (decode_pairs (place k) rest))

lower_chunk : (s : List ℕ) (i n : ℕ) → list_all is_lower_digit s ≡ true → list_all is_lower_digit (chunk i n s) ≡ true
lower_chunk s i n all =
    let whole : s ≡ take i s ++ (chunk i n s ++ drop (i + n) s) = sym (take-append-drop i s) ∙ ap (λ (l : List ℕ). take i s ++ l) (chunk-drop i n s) in
    let behind = and_parts _ _ (sym (list_all-append is_lower_digit (take i s) (chunk i n s ++ drop (i + n) s)) ∙ sym (ap (list_all is_lower_digit) whole) ∙ all) in
    (and_parts _ _ (sym (list_all-append is_lower_digit (chunk i n s) (drop (i + n) s)) ∙ behind.1)).0

-- eight bytes more are decoded
pub lanes_step : (s out ys : List ℕ) (p : ℕ) → 2 * p + 16 ≤ length s → p + 8 ≤ length out → list_all is_lower_digit s ≡ true
    → ys ≡ map pair_byte (digits_l 65536 8 (number_l 256 (chunk (2 * p) 16 s)))
    → decode_pairs 0 s ≡ prepend (take p out) (decode_pairs (2 * p) (drop (2 * p) s))
    → decode_pairs 0 s ≡ prepend (take (p + 8) (put_chunk p out ys)) (decode_pairs (2 * (p + 8)) (drop (2 * (p + 8)) s))
lanes_step s out ys p fits room all is so_far =
    let front : List ℕ = chunk (2 * p) 16 s in
    let rest : List ℕ = drop (2 * p + 16) s in
    let long : length front ≡ 2 * 8 = length-chunk (2 * p) 16 s fits in
    let eight : length ys ≡ 8 = ap length is in
    let place : 2 * p + 16 ≡ 2 * (p + 8) = omega arith in
    so_far
    ∙ ap (λ (l : List ℕ). prepend (take p out) (decode_pairs (2 * p) l)) (chunk-drop (2 * p) 16 s)
    ∙ ap (prepend (take p out)) (lanes_say 8 (2 * p) front rest long (lower_chunk s (2 * p) 16 all))
    ∙ prepend_twice (take p out) (map pair_byte (digits_l 65536 8 (number_l 256 front))) (decode_pairs (2 * p + 16) rest)
    ∙ (λ k. prepend (take p out ++ sym is k) (decode_pairs (place k) (drop (place k) s)))
    ∙ ap (λ (l : List ℕ). prepend l (decode_pairs (2 * (p + 8)) (drop (2 * (p + 8)) s)))
    (sym (take_more_put_chunk p out ys (p + 8) (omega (arith, eight)) room))

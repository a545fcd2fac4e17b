-- Numbers are read exactly as they are written.
use Rattle.std.proofs.Common.{◌≡◌, ℕ, zero, suc, ◌<◌, ◌≤◌, ◌+◌, ◌*◌, ◌/◌, ◌%◌, ◌^◌, Bool, true, false, not, ◌&&◌, cond, List, [], ◌∷◌, ◌++◌, length, get_or, nat_le, nat_lt, Option, Some, None, refl, sym, ap, ◌∙◌, subst, append_assoc, inl, inr, rules, arith}
use Rattle.std.specs.Prelude.{codes, decimal, ◌==◌}
use Rattle.std.specs.Char.{is_ascii_digit, digit_value}
use Rattle.std.specs.List.{list_all}
use Rattle.std.specs.Str.{bytes_eq}
use Rattle.std.specs.Str.Parse.{AllDigits, digits_value}
use Rattle.std.proofs.lemmas.Bool.{and_parts, eqb-true, eq-eqb, or_cases, not-true, cases_Bool}
use Rattle.std.proofs.lemmas.Bool.Decides.{nat_tests}
use Rattle.std.proofs.Math.Bool.{or-true}
use Rattle.std.proofs.lemmas.Fmt.{decimal_is_IsNumeral, decimal-digits_value, first_decimal, decimal_digit}
use Rattle.std.proofs.lemmas.Str.Parse.{IsDigitsTest, IsNumeralModel, numerals_by_value}
use Rattle.acc_base.specs.Numbers.{greatest_u64}
use Rattle.acc_token.specs.Tokens.{number_of}
use Rattle.acc_stamp.specs.declared.stamps.Stamp.{Stamp}
use Rattle.acc_stamp.specs.declared.actors.Actor.{Actor}
use Rattle.acc_stamp.specs.Actor.{actor_of, node_of, shard_of}
use Rattle.acc_report_line.specs.Forms.{IsStamp, IsActor}
use Rattle.acc_report_line.specs.Texts.{stamp_text, actor_text}
use Rattle.acc_report_reader.specs.Gives.{guarded, with_found}
use Rattle.acc_report_reader.specs.Fields.{parts_at, begins_plainly, is_numeral, number_in, small_number_in, count_in, stamp_in, place_in, store_in, node_in, actor_in}
use Rattle.acc_report_reader.proofs.Options.{bind_some, guarded_some, cond_some}
use Rattle.acc_report_reader.proofs.Slices.{Lacks, parts-of, parts-is, parts-none, lacks_from, lacks_both, is_same, same_bytes}

-- ---- digits

abbrev AreDigits : List ℕ → Type 0
AreDigits digits = list_all is_ascii_digit digits ≡ true

digit_is : (c : ℕ) → digit_value c < 10 → is_ascii_digit c ≡ true
digit_is c h = grind (arith, nat_tests)

all_digits : (digits : List ℕ) → AllDigits 10 digits → AreDigits digits
all_digits [] h = refl
all_digits (c ∷ cs) h = rw (digit_is c h.0) (all_digits cs h.1)

digits_test : IsDigitsTest AreDigits
digits_test = search rules

own : IsNumeralModel AreDigits (digits_value 10)
own = numerals_by_value AreDigits digits_test

pub decimal_digits : (n : ℕ) → n < 2 ^ 64 → AreDigits (decimal n)
decimal_digits n small = all_digits (decimal n) (decimal_is_IsNumeral n small).0.1

pub decimal_lacks : (c n : ℕ) → is_ascii_digit c ≡ false → n < 2 ^ 64 → Lacks c (decimal n)
decimal_lacks c n h small = lacks_from is_ascii_digit c (decimal n) h (decimal_digits n small)

-- ---- numbers of 64 bits

plain_of : (digits : List ℕ) → 0 < length digits → (get_or digits 0 0 ≡ 48 → length digits ≡ 1) → begins_plainly digits ≡ true
plain_of [] some plain = absurd (omega arith)
plain_of (c ∷ cs) some plain =
    elim (cases_Bool (c == 48)) [
      | inl is ↦ let one : length (c ∷ cs) ≡ 1 = plain (eqb-true c 48 is) in let none : (length cs == 0) ≡ true = eq-eqb (length cs) 0 (omega arith) in rw none refl
      | inr other ↦ rw other (or-true (length cs == 0))
    ]

plain_is : (digits : List ℕ) → begins_plainly digits ≡ true → (0 < length digits) × (get_or digits 0 0 ≡ 48 → length digits ≡ 1)
plain_is [] h = cc
plain_is (c ∷ cs) h = (
  omega arith,
  λ first. elim (or_cases (length cs == 0) (not (c == 48)) h) [
    | inl none ↦ let e = eqb-true (length cs) 0 none in omega arith
    | inr other ↦ let e = not-true (c == 48) other in let f = eq-eqb c 48 first in cc
  ],
)

decimal_plain : (n : ℕ) → n < 2 ^ 64 → get_or (decimal n) 0 0 ≡ 48 → length (decimal n) ≡ 1
decimal_plain zero small z = ap length (decimal_digit 0 (omega arith))
decimal_plain (suc n) small z = let more = first_decimal (suc n) (omega arith) small in absurd (omega arith)

pub number-of : (n : ℕ) → n < 2 ^ 64 → number_in (decimal n) ≡ Some n
unfolding number_in
number-of n small =
    let numeral = decimal_is_IsNumeral n small in
    let plain = plain_of (decimal n) numeral.0.0 (decimal_plain n small) in
    let digits = decimal_digits n small in
    let fits : nat_le n greatest_u64 ≡ true = grind arith in
    rw plain (rw digits (rw numeral.1 (rw fits refl)))

pub number-is : (bytes : List ℕ) (n : ℕ) → number_in bytes ≡ Some n → (n < 2 ^ 64) × (decimal n ≡ bytes)
unfolding number_in
number-is bytes n e =
    let f = cond_some (is_numeral bytes) (number_of bytes) n e in
    let g = cond_some (nat_le (digits_value 10 bytes) greatest_u64) (Some (digits_value 10 bytes)) n f.1 in
    let is = and_parts (begins_plainly bytes) (list_all is_ascii_digit bytes) f.0 in
    let value : digits_value 10 bytes ≡ n = cc in
    let small : digits_value 10 bytes < 2 ^ 64 = grind (arith, g.0) in
    let plain = plain_is bytes is.0 in
    (omega arith, ap decimal (sym value) ∙ decimal-digits_value own bytes is.1 plain.0 plain.1 small)

-- ---- timestamps

small-of : (n : ℕ) → n < 2 ^ 32 → small_number_in (decimal n) ≡ Some n
unfolding small_number_in
small-of n small = let fits : nat_lt n 4294967296 ≡ true = grind arith in rw (number-of n (omega arith)) (rw fits refl)

small-is : (bytes : List ℕ) (n : ℕ) → small_number_in bytes ≡ Some n → (n < 2 ^ 32) × (decimal n ≡ bytes)
unfolding small_number_in
small-is bytes n e =
    let m = bind_some (number_in bytes) (λ n. guarded (nat_lt n 4294967296) n) n e in
    let g = guarded_some (nat_lt m.0 4294967296) m.0 n m.2 in
    let is = number-is bytes m.0 m.1 in
    let small : m.0 < 2 ^ 32 = grind (arith, g.0) in
    (omega (arith, g.1), ap decimal (sym g.1) ∙ is.1)

pub stamp-of : (s : Stamp) → IsStamp s → stamp_in (stamp_text s) ≡ Some s
unfolding stamp_in
stamp-of s h =
    ap stamp_in (append_assoc (decimal s.h) (codes ".") (decimal s.origin))
    ∙ rw (parts-of 46 (decimal s.h) (decimal s.origin) (decimal_lacks 46 s.h refl h.0)) (rw (number-of s.h h.0) (rw (small-of s.origin h.1) refl))

pub stamp-is : (bytes : List ℕ) (s : Stamp) → stamp_in bytes ≡ Some s → IsStamp s × (stamp_text s ≡ bytes)
unfolding stamp_in
stamp-is bytes s e =
    let p = bind_some (parts_at 46 bytes) _ s e in
    let n = bind_some (number_in p.0.0) _ s p.2 in
    let o = bind_some (small_number_in p.0.1) _ s n.2 in
    let hi = number-is p.0.0 n.0 n.1 in
    let lo = small-is p.0.1 o.0 o.1 in
    let made : Stamp = record { h = n.0; origin = o.0 } in
    let same : made ≡ s = cc in
    let P : Stamp → Type 0 = λ s. IsStamp s × (stamp_text s ≡ bytes) in
    let text : stamp_text made ≡ bytes =
    append_assoc (decimal n.0) (codes ".") (decimal o.0) ∙ ap (λ a. a ++ 46 ∷ decimal o.0) hi.1 ∙ ap (λ b. p.0.0 ++ 46 ∷ b) lo.1 ∙ parts-is 46 bytes p.0 p.1
    in subst P same ((hi.0, lo.0), text)

pub stamp_lacks : (c : ℕ) (s : Stamp) → is_ascii_digit c ≡ false → Lacks c (codes ".") → IsStamp s → Lacks c (stamp_text s)
stamp_lacks c s h k is =
    lacks_both c (decimal s.h ++ codes ".") (decimal s.origin)
    (lacks_both c (decimal s.h) (codes ".") (decimal_lacks c s.h h is.0) k) (decimal_lacks c s.origin h (omega (arith, is.1)))

-- ---- counts

pub count-of : (label : List ℕ) (n : ℕ) → Lacks 61 label → n < 2 ^ 64 → count_in label (label ++ 61 ∷ decimal n) ≡ Some n
unfolding count_in
count-of label n h small = rw (parts-of 61 label (decimal n) h) (rw (number-of n small) (rw (is_same label) refl))

pub count-is : (label bytes : List ℕ) (n : ℕ) → count_in label bytes ≡ Some n → (n < 2 ^ 64) × (label ++ 61 ∷ decimal n ≡ bytes)
unfolding count_in
count-is label bytes n e =
    let p = bind_some (parts_at 61 bytes) _ n e in
    let m = bind_some (number_in p.0.1) _ n p.2 in
    let g = guarded_some (bytes_eq p.0.0 label) m.0 n m.2 in
    let same = same_bytes p.0.0 label g.0 in
    let is = number-is p.0.1 m.0 m.1 in (
      omega (arith, g.1, is.0),
      ap (λ n. label ++ 61 ∷ decimal n) (sym g.1) ∙ ap (λ l. l ++ 61 ∷ decimal m.0) (sym same) ∙ ap (λ d. p.0.0 ++ 61 ∷ d) is.1 ∙ parts-is 61 bytes p.0 p.1,
    )

-- ---- actors

place-of : (n : ℕ) → 1 ≤ n → n ≤ 15 → place_in (decimal n) ≡ Some n
unfolding place_in
place-of n low high =
    let least : nat_le 1 n ≡ true = grind arith in
    let most : nat_le n 15 ≡ true = grind arith in
    rw (number-of n (omega arith)) (rw least (rw most refl))

place-is : (bytes : List ℕ) (n : ℕ) → place_in bytes ≡ Some n → (1 ≤ n) × (n ≤ 15) × (decimal n ≡ bytes)
unfolding place_in
place-is bytes n e =
    let m = bind_some (number_in bytes) _ n e in
    let g = guarded_some (nat_le 1 m.0 && nat_le m.0 15) m.0 n m.2 in
    let both = and_parts (nat_le 1 m.0) (nat_le m.0 15) g.0 in
    let is = number-is bytes m.0 m.1 in
    let low : 1 ≤ m.0 = grind (arith, both.0) in
    let high : m.0 ≤ 15 = grind (arith, both.1) in
    (omega (arith, g.1), omega (arith, g.1), ap decimal (sym g.1) ∙ is.1)

node_back : (n s : ℕ) → s ≤ 15 → (n * 64 + s) / 64 ≡ n
node_back n s h = omega arith

shard_back : (n s : ℕ) → s ≤ 15 → (n * 64 + s) % 64 ≡ s
shard_back n s h = omega arith

actor_form : (n s : ℕ) → 1 ≤ n → n ≤ 15 → s ≤ 15 → IsActor (actor_of n s)
actor_form n s low high h = let e = node_back n s h in let f = shard_back n s h in (omega arith, omega arith, omega arith)

node_said : (n : ℕ) → actor_text (actor_of n 0) ≡ decimal n
node_said n = rw (shard_back n 0 (omega arith)) (ap decimal (node_back n 0 (omega arith)))

store_said : (n s : ℕ) → 1 ≤ s → s ≤ 15 → actor_text (actor_of n s) ≡ decimal n ++ codes "." ++ decimal s
store_said n s low h =
    let other : (s == 0) ≡ false = grind (arith, nat_tests) in
    rw (shard_back n s h) (rw other (rw (node_back n s h) refl))

actor_again : (a : Actor) → actor_of (node_of a) (shard_of a) ≡ a
actor_again a =
    let made : ℕ → Actor = λ n. record { 0 = n } in
    let same : a.0 / 64 * 64 + a.0 % 64 ≡ a.0 = omega arith in ap made same

actor_written : (n s : ℕ) (here : Bool) → (s == 0) ≡ here → 1 ≤ n → n ≤ 15 → s ≤ 15 → actor_in (cond here (decimal n) (decimal n ++ codes "." ++ decimal s)) ≡ Some (actor_of n s)
unfolding actor_in store_in node_in
actor_written n s true is low high h =
    let none = eqb-true s 0 is in
    rw (parts-none 46 (decimal n) (decimal_lacks 46 n refl (omega arith))) (rw (place-of n low high) (ap (λ s. Some (actor_of n s)) (sym none)))
actor_written n s false is low high h =
    let some : 1 ≤ s = grind (arith, nat_tests) in
    ap actor_in (append_assoc (decimal n) (codes ".") (decimal s))
    ∙ rw (parts-of 46 (decimal n) (decimal s) (decimal_lacks 46 n refl (omega arith))) (rw (place-of n low high) (rw (place-of s some h) refl))

pub actor-of : (a : Actor) → IsActor a → actor_in (actor_text a) ≡ Some a
actor-of a h = actor_written (node_of a) (shard_of a) (shard_of a == 0) refl h.0 h.1 h.2 ∙ ap (λ a. Some a) (actor_again a)

actor_found : (bytes : List ℕ) (a : Actor) (o : Option (List ℕ × List ℕ)) → parts_at 46 bytes ≡ o → with_found o store_in (node_in bytes) ≡ Some a → IsActor a × (actor_text a ≡ bytes)
unfolding store_in node_in
actor_found bytes a None cut e =
    let n = bind_some (place_in bytes) _ a e in
    let is = place-is bytes n.0 n.1 in
    let same : actor_of n.0 0 ≡ a = cc in
    let P : Actor → Type 0 = λ a. IsActor a × (actor_text a ≡ bytes) in
    subst P same (actor_form n.0 0 is.0 is.1 (omega arith), node_said n.0 ∙ is.2)
actor_found bytes a (Some p) cut e =
    let n = bind_some (place_in p.0) _ a e in
    let s = bind_some (place_in p.1) _ a n.2 in
    let node = place-is p.0 n.0 n.1 in
    let shard = place-is p.1 s.0 s.1 in
    let same : actor_of n.0 s.0 ≡ a = cc in
    let P : Actor → Type 0 = λ a. IsActor a × (actor_text a ≡ bytes) in
    let text : actor_text (actor_of n.0 s.0) ≡ bytes =
    store_said n.0 s.0 shard.0 shard.1 ∙ append_assoc (decimal n.0) (codes ".") (decimal s.0)
    ∙ ap (λ d. d ++ 46 ∷ decimal s.0) node.2 ∙ ap (λ d. p.0 ++ 46 ∷ d) shard.2 ∙ parts-is 46 bytes p cut
    in subst P same (actor_form n.0 s.0 node.0 node.1 shard.1, text)

pub actor-is : (bytes : List ℕ) (a : Actor) → actor_in bytes ≡ Some a → IsActor a × (actor_text a ≡ bytes)
unfolding actor_in
actor-is bytes a e = actor_found bytes a (parts_at 46 bytes) refl e

pub actor_lacks : (c : ℕ) (a : Actor) → is_ascii_digit c ≡ false → Lacks c (codes ".") → IsActor a → Lacks c (actor_text a)
actor_lacks c a h k is =
    let node = decimal_lacks c (node_of a) h (omega (arith, is.1)) in
    let shard = decimal_lacks c (shard_of a) h (omega (arith, is.2)) in
    elim (cases_Bool (shard_of a == 0)) [
      | inl here ↦ rw here node
      | inr other ↦ rw other (lacks_both c (decimal (node_of a) ++ codes ".") (decimal (shard_of a)) (lacks_both c (decimal (node_of a)) (codes ".") node k) shard)
    ]

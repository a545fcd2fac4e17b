-- Two cells that pass the test are one.
use Rattle.std.proofs.Common.{◌≡◌, nat_eq, Bool, true, false, ◌&&◌, Option, Some, None, refl, sym, ap}
use Rattle.std.specs.Option.{option_eq}
use Rattle.std.specs.Ordering.{int_eq, on}
use Rattle.std.specs.Cmp.Lexicographic.{pointwise}
use Rattle.std.proofs.lemmas.Bool.{true≢false}
use Rattle.std.proofs.lemmas.Bool.Decides.{Decides-int_eq}
use Rattle.std.proofs.lemmas.Slice.Eq.{bytes_eq-Decides}
use Rattle.acc_value.specs.declared.value.Value.{Value}
use Rattle.acc_value.specs.declared.value.Value.TheVariants.{Number, Text}
use Rattle.acc_value.specs.Value.{number_in, text_in, value_eq}

both_true : (a b : Bool) → (a && b) ≡ true → (a ≡ true) × (b ≡ true)
both_true true b h = (refl, h)
both_true false b h = absurd (true≢false (sym h))

value_sound : (a b : Value) → value_eq a b ≡ true → a ≡ b
value_sound (Number a) (Number b) h =
    ap (λ n. Number n) ((Decides-int_eq a b).0 (both_true (on number_in (option_eq int_eq) (Number a) (Number b)) (on text_in (option_eq (pointwise nat_eq)) (Number a) (Number b)) h).0)
value_sound (Number a) (Text b) h = absurd (true≢false (sym h))
value_sound (Text a) (Number b) h = absurd (true≢false (sym h))
value_sound (Text a) (Text b) h =
    ap (λ t. Text t) ((bytes_eq-Decides a b).0 (both_true (on number_in (option_eq int_eq) (Text a) (Text b)) (on text_in (option_eq (pointwise nat_eq)) (Text a) (Text b)) h).1)

pub cell_sound : (a b : Option Value) → option_eq value_eq a b ≡ true → a ≡ b
cell_sound None None h = refl
cell_sound None (Some y) h = absurd (true≢false (sym h))
cell_sound (Some x) None h = absurd (true≢false (sym h))
cell_sound (Some x) (Some y) h = ap (λ z. Some z) (value_sound x y h)

value_itself : (v : Value) → value_eq v v ≡ true
value_itself (Number a) = ap (λ b. b && true) ((Decides-int_eq a a).1 refl)
value_itself (Text a) = (bytes_eq-Decides a a).1 refl

pub cell_itself : (cell : Option Value) → option_eq value_eq cell cell ≡ true
cell_itself None = refl
cell_itself (Some v) = value_itself v

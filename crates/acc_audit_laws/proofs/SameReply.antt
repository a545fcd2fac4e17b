-- Two replies that pass the test are one.
use Rattle.std.proofs.Common.{◌≡◌, nat_eq, Bool, true, false, ◌&&◌, List, [], ◌∷◌, Option, Some, None, refl, sym, ap, ap₂}
use Rattle.std.specs.Option.{option_eq}
use Rattle.std.specs.Ordering.{int_eq, on}
use Rattle.std.specs.Cmp.Lexicographic.{pointwise}
use Rattle.std.proofs.lemmas.Bool.{true≢false}
use Rattle.std.proofs.lemmas.Bool.Decides.{Decides-int_eq}
use Rattle.std.proofs.lemmas.Slice.Eq.{bytes_eq-Decides}
use Rattle.acc_value.specs.declared.value.Value.{Value}
use Rattle.acc_value.specs.declared.value.Value.TheVariants.{Number, Text}
use Rattle.acc_value.specs.Value.{number_in, text_in, value_eq}
use Rattle.acc_txn.specs.declared.outcome.Verdict.{Verdict}
use Rattle.acc_txn.specs.declared.outcome.Verdict.TheVariants.{Ok as Done, Skipped, Overflow}
use Rattle.acc_txn.specs.declared.outcome.Reply.{Reply}
use Rattle.acc_audit.specs.Said.{same_reply, same_verdict}

both_true : (a b : Bool) → (a && b) ≡ true → (a ≡ true) × (b ≡ true)
both_true true b h = (refl, h)
both_true false b h = absurd (true≢false (sym h))

verdict_sound : (a b : Verdict) → same_verdict a b ≡ true → a ≡ b
verdict_sound Done Done h = refl
verdict_sound Skipped Skipped h = refl
verdict_sound Overflow Overflow h = refl
verdict_sound Done Skipped h = absurd (true≢false (sym h))
verdict_sound Done Overflow h = absurd (true≢false (sym h))
verdict_sound Skipped Done h = absurd (true≢false (sym h))
verdict_sound Skipped Overflow h = absurd (true≢false (sym h))
verdict_sound Overflow Done h = absurd (true≢false (sym h))
verdict_sound Overflow Skipped h = absurd (true≢false (sym h))

value_sound : (a b : Value) → value_eq a b ≡ true → a ≡ b
value_sound (Number a) (Number b) h =
    ap (λ n. Number n) ((Decides-int_eq a b).0 (both_true (on number_in (option_eq int_eq) (Number a) (Number b)) (on text_in (option_eq (pointwise nat_eq)) (Number a) (Number b)) h).0)
value_sound (Number a) (Text b) h = absurd (true≢false (sym h))
value_sound (Text a) (Number b) h = absurd (true≢false (sym h))
value_sound (Text a) (Text b) h =
    ap (λ t. Text t) ((bytes_eq-Decides a b).0 (both_true (on number_in (option_eq int_eq) (Text a) (Text b)) (on text_in (option_eq (pointwise nat_eq)) (Text a) (Text b)) h).1)

cell_sound : (a b : Option Value) → option_eq value_eq a b ≡ true → a ≡ b
cell_sound None None h = refl
cell_sound None (Some y) h = absurd (true≢false (sym h))
cell_sound (Some x) None h = absurd (true≢false (sym h))
cell_sound (Some x) (Some y) h = ap (λ z. Some z) (value_sound x y h)

cells_sound : (xs ys : List (Option Value)) → pointwise (option_eq value_eq) xs ys ≡ true → xs ≡ ys
cells_sound [] [] h = refl
cells_sound [] (y ∷ ys) h = absurd (true≢false (sym h))
cells_sound (x ∷ xs) [] h = absurd (true≢false (sym h))
cells_sound (x ∷ xs) (y ∷ ys) h =
    let parts = both_true (option_eq value_eq x y) (pointwise (option_eq value_eq) xs ys) h in
    λ i. cell_sound x y parts.0 i ∷ cells_sound xs ys parts.1 i

pub same_reply-sound : (a b : Reply) → same_reply a b ≡ true → a ≡ b
same_reply-sound a b h =
    let parts = both_true (same_verdict a.verdict b.verdict) (pointwise (option_eq value_eq) a.values b.values) h in
    let verdicts = verdict_sound a.verdict b.verdict parts.0 in
    let values = cells_sound a.values b.values parts.1 in
    λ i. record { verdict = verdicts i; values = values i }

-- ---- a reply passes it with itself

verdict_itself : (v : Verdict) → same_verdict v v ≡ true
verdict_itself Done = refl
verdict_itself Skipped = refl
verdict_itself Overflow = refl

value_itself : (v : Value) → value_eq v v ≡ true
value_itself (Number a) = ap (λ b. b && true) ((Decides-int_eq a a).1 refl)
value_itself (Text a) = (bytes_eq-Decides a a).1 refl

cell_itself : (cell : Option Value) → option_eq value_eq cell cell ≡ true
cell_itself None = refl
cell_itself (Some v) = value_itself v

cells_itself : (cells : List (Option Value)) → pointwise (option_eq value_eq) cells cells ≡ true
cells_itself [] = refl
cells_itself (cell ∷ cells) = ap₂ ◌&&◌ (cell_itself cell) (cells_itself cells)

pub same_reply-itself : (a : Reply) → same_reply a a ≡ true
same_reply-itself a = ap₂ ◌&&◌ (verdict_itself a.verdict) (cells_itself a.values)

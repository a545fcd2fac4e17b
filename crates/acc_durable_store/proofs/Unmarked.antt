-- How many payloads of a store are no marks.
use Rattle.std.proofs.Common.{◌≡◌, ℕ, ◌+◌, ◌≤◌, Bool, true, false, not, cond, List, [], ◌∷◌, ◌++◌, length, length-append, refl, sym, ap, ◌∙◌, arith}
use Rattle.std.specs.List.{filter}
use Rattle.std.specs.Str.{bytes_eq}
use Rattle.std.proofs.lemmas.Slice.Eq.{bytes_eq-Decides}
use Rattle.std.proofs.lemmas.List.Elements.{filter-append}
use Rattle.acc_message.specs.declared.message.Message.{Message}
use Rattle.acc_message_code.specs.Fitting.{FitsMessage}
use Rattle.acc_message_code.specs.MessageSpelling.{message_bytes}
use Rattle.acc_payloads.specs.Spelling.{mark_bytes}
use Rattle.acc_payloads.specs.Journals.{may_mark, appended}
use Rattle.acc_payloads.specs.Items.{without_marks}
use Rattle.acc_payloads.proofs.StoreJournals.{no_mark}

abbrev is_other : List ℕ → Bool
is_other payload = not (bytes_eq payload mark_bytes)

not_equal : (b : Bool) → (b ≡ true → ⊥) → b ≡ false
not_equal true never = absurd (never refl)
not_equal false never = refl

is_message : (m : Message) → FitsMessage m → bytes_eq (message_bytes m) mark_bytes ≡ false
is_message m fits = not_equal (bytes_eq (message_bytes m) mark_bytes) (λ e. no_mark m fits (sym ((bytes_eq-Decides (message_bytes m) mark_bytes).0 e)))

one_kept : (payload : List ℕ) → bytes_eq payload mark_bytes ≡ false → length (without_marks (payload ∷ [])) ≡ 1
one_kept payload e = ap (λ (b : Bool). length (cond (not b) (payload ∷ []) [])) e

-- after others
kept_with : (before more : List (List ℕ)) → length (without_marks (before ++ more)) ≡ length (without_marks before) + length (without_marks more)
kept_with before more = ap length (filter-append is_other before more) ∙ length-append (without_marks before) (without_marks more)

pub message_kept : (before : List (List ℕ)) (m : Message) → FitsMessage m → length (without_marks (before ++ message_bytes m ∷ [])) ≡ length (without_marks before) + 1
message_kept before m fits = omega (arith, kept_with before (message_bytes m ∷ []), one_kept (message_bytes m) (is_message m fits))

pub mark_not_kept : (before : List (List ℕ)) → length (without_marks (before ++ mark_bytes ∷ [])) ≡ length (without_marks before)
mark_not_kept before = omega (arith, kept_with before (mark_bytes ∷ []))

one_of_two : (b : Bool) (m : Message) → FitsMessage m → length (without_marks (cond b (mark_bytes ∷ message_bytes m ∷ []) (message_bytes m ∷ []))) ≡ 1
one_of_two true m fits = one_kept (message_bytes m) (is_message m fits)
one_of_two false m fits = one_kept (message_bytes m) (is_message m fits)

pub group_kept : (group : List (List ℕ)) (version : ℕ) (marked : Bool) (m : Message) → FitsMessage m
    → length (without_marks (group ++ appended version marked (message_bytes m))) ≡ length (without_marks group) + 1
group_kept group version marked m fits = omega (arith, kept_with group (appended version marked (message_bytes m)), one_of_two (may_mark version marked) m fits)

pub both_kept : (before group : List (List ℕ)) → length (without_marks (before ++ group)) ≡ length (without_marks before) + length (without_marks group)
both_kept before group = kept_with before group

one_at_most : (b : Bool) (x : List ℕ) (xs : List (List ℕ)) → length (cond b (x ∷ xs) xs) ≤ 1 + length xs
one_at_most true x xs = omega arith
one_at_most false x xs = omega arith

fewer : (p : List ℕ → Bool) (payloads : List (List ℕ)) → length (filter p payloads) ≤ length payloads
fewer p [] = omega arith
fewer p (x ∷ payloads) = omega (arith, one_at_most (p x) x (filter p payloads), fewer p payloads)

pub kept_at_most : (payloads : List (List ℕ)) → length (without_marks payloads) ≤ length payloads
kept_at_most payloads = fewer is_other payloads

-- Records that are read one by one.
use Rattle.std.proofs.Common.{◌≡◌, ℕ, ◌+◌, ◌<◌, List, [], ◌∷◌, ◌++◌, length, get_or, drop, refl, sym, ◌∙◌, ap, append_assoc, arith, length-append}
use Rattle.std.proofs.lemmas.List.{drop_more, append-nil}
use Rattle.acc_wire.specs.Reading.{Unread, Passes}
use Rattle.acc_wire.specs.Spelling.{u32_bytes}
use Rattle.acc_journal.specs.Layout.{sized, records}
use Rattle.acc_journal.proofs.Layouts.{records-append, length-u32}

-- one record more
pub one_more_read : (payloads later : List (List ℕ)) (bytes rest payload next : List ℕ) → bytes ≡ 1 ∷ (records payloads ++ rest) → 0 < length rest → get_or rest 0 0 ≡ 1 → drop 1 rest ≡ sized payload ++ next → later ≡ payloads ++ payload ∷ [] → bytes ≡ 1 ∷ (records later ++ next)
one_more_read payloads later bytes rest payload next spelled some gate behind is =
    let front : rest ≡ 1 ∷ (sized payload ++ next) = drop_more rest 0 0 some ∙ ap (λ (b : ℕ). b ∷ drop 1 rest) gate ∙ ap (λ (l : List ℕ). 1 ∷ l) behind in
    let recorded : records later ≡ records payloads ++ 1 ∷ sized payload = ap records is ∙ records-append payloads (payload ∷ []) ∙ ap (λ (l : List ℕ). records payloads ++ 1 ∷ l) (append-nil (sized payload)) in
    spelled ∙ ap (λ (l : List ℕ). 1 ∷ (records payloads ++ l)) front ∙ ap (λ (l : List ℕ). 1 ∷ l) (sym (append_assoc (records payloads) (1 ∷ sized payload) next)) ∙ ap (λ (l : List ℕ). 1 ∷ (l ++ next)) (sym recorded)

-- and how long the records are then
pub one_more_long : (payloads later : List (List ℕ)) (payload : List ℕ) → later ≡ payloads ++ payload ∷ [] → length (records later) ≡ length (records payloads) + (5 + length payload)
one_more_long payloads later payload is =
    let recorded : records later ≡ records payloads ++ 1 ∷ sized payload = ap records is ∙ records-append payloads (payload ∷ []) ∙ ap (λ (l : List ℕ). records payloads ++ 1 ∷ l) (append-nil (sized payload)) in
    omega (arith, ap length recorded, length-append (records payloads) (1 ∷ sized payload), length-append (u32_bytes (length payload)) payload, length-u32 (length payload))

-- what is left after the length of a payload
abbrev pub behind_length : Unread → List ℕ → ℕ → List ℕ → Unread
behind_length start payload gate behind = record { bytes = payload ++ gate ∷ behind; place = start.place + length (u32_bytes (length payload)) }

-- A reader at a record has its length in front.
pub passes_length : (bytes payload : List ℕ) (gate : ℕ) (behind : List ℕ) (start : Unread) → start ≡ record { bytes = bytes; place = 0 } → bytes ≡ sized payload ++ gate ∷ behind → Passes start (behind_length start payload gate behind) (u32_bytes (length payload))
passes_length bytes payload gate behind start is spelled = record {
  bytes = ap (λ (u : Unread). u.bytes) is ∙ spelled ∙ append_assoc (u32_bytes (length payload)) payload (gate ∷ behind);
  place = refl;
}
